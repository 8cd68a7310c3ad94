-- Counts fall and the storage is swept, for a backup and a retire; what an accepted retire did, and that it keeps the state sound.
use mathlib.Core.Path.{◌≡◌, refl, sym, ap, ◌∙◌, subst}
use mathlib.Core.Bool.{Bool, true, false, cond, false≢true}
use mathlib.Core.List.{List, [], ◌∷◌, ◌++◌, map, map-append}
use Prim.Native.Nat.{ℕ, zero, suc, ◌+◌, ◌-◌, ◌≤◌, ◌<◌, zero-le}
use native.Mathlib.Nat.{not-suc-le-zero, le_of_suc-le-suc, le_refl}
use native.Mathlib.Omega.{arith}
use lib.ListN.{length, get_or, set, length-set, length-append}
use lib.Dec.{leb}
use borrow.Author.Tests.{leb-true, leb-false, le-leb}
use Rattle.lists.specs.Lists.{count, rises, uses}
use Rattle.lists.specs.Rows.{joined}
use Rattle.lists.proofs.Counts.{count_append}
use Rattle.lists.proofs.Rises.{rises_without}
use Rattle.lists.proofs.Tests.{all_true, clause, every_at, every_set}
use Rattle.model.specs.Measures.{Measures, Shape}
use Rattle.model.specs.State.{Pointer, Storage, Version, Rights, Till, State, Outcome, refused, done}
use Rattle.model.specs.Records.{is_held}
use Rattle.model.specs.Place.{one_more}
use Rattle.model.specs.Sweep.{one_less, release, claim, sweep}
use Rattle.model.specs.Sound.{is_sound, is_numbered, is_till, leads_to, all_pointers}
use Rattle.model.specs.Calls.{empty_till, till_of, held_from, held_before, with_till, newest_pointers, take_over, taken, close_up, retire_from, retire, After, first_of, not_held, look_up}
use Rattle.laws.proofs.Sweep.{Keeps, count_in, block_in, sweep_keeps}
use Rattle.laws.specs.Storage.{Exact, StorageFits}
use Rattle.laws.proofs.Clean.{Cleared, sweep_clears, clean_held}
use Rattle.laws.proofs.Counts.{at, Counted, falls, grows, lower_count, raise_count, change_cell, change_all_named, change_all_fits, change_all_length}
use Rattle.laws.proofs.Fits.{record_in_lem}
use Rattle.laws.proofs.Serves.{pointers_of, Serves, Valid, sound_valid, valid_sound, till_among, tills_again}
use Rattle.laws.proofs.Place.{counted_held}
use Rattle.laws.proofs.Newest.{versions_append, newest_numbers, newest_length}
use Rattle.laws.proofs.Takeover.{between, taken_gone, close_count, close_traceable}

-- ---- release and sweep, for a backup and a retire

-- `rs` are let go and `ps` stay, of the pointers that the storage `a` counts
pub record Finished (m : Measures) (a b : Storage) (ps : List Pointer) : Type 0 where
  pub fits : StorageFits m b
  pub exact : Exact b
  pub counts : Counted b ps
  pub positive : (k i : ℕ) → is_held (at b.records k i) ≡ true → 0 < count_in b k i
  pub serves : Serves m a b ps
  pub record_count : length b.records ≡ length a.records
  pub cell_count : length b.cells ≡ length a.cells

module _ (m : Measures) (a : Storage) (qs rs ps : List Pointer) (f : StorageFits m a) (x : Exact a) (c : Counted a qs)
    (e : (k i : ℕ) → count (leads_to k i) qs ≡ count (leads_to k i) rs + count (leads_to k i) ps) where
  release_and_sweep : Storage
  release_and_sweep = release a rs

  after : Storage
  after = sweep m release_and_sweep

  go_exact : Exact release_and_sweep
  unfolding release_and_sweep release
  go_exact n = ap (uses n) (change_all_named one_less falls rs a.records) ∙ x n

  go_fits : StorageFits m release_and_sweep
  unfolding release_and_sweep release
  go_fits = record { records = change_all_fits one_less falls m rs a.records f.records; cells = f.cells }

  go_counts : Counted release_and_sweep ps
  unfolding release_and_sweep release
  go_counts k i =
      lower_count rs a.records k i
      ∙ (let z : count_in a k i - count (leads_to k i) rs ≡ count (leads_to k i) ps = omega (arith, c k i, e k i) in z)

  kept : Keeps release_and_sweep after
  unfolding after
  kept = sweep_keeps m release_and_sweep go_exact

  cleared : Cleared m release_and_sweep after 0 (length release_and_sweep.records)
  unfolding after
  cleared = sweep_clears m release_and_sweep go_fits go_exact

  after_counts : Counted after ps
  after_counts k i = kept.counts k i ∙ go_counts k i

  after_blocks : (k i : ℕ) → 0 < count (leads_to k i) ps → block_in after k i ≡ block_in a k i
  unfolding release_and_sweep release
  after_blocks k i p =
      kept.blocks k i (subst (λ (n : ℕ). 0 < n) (sym (go_counts k i)) p) ∙ ap (λ (n : ℕ). get_or a.cells n []) (change_cell one_less falls rs a.records k i)

  positive : (k i : ℕ) → is_held (at after.records k i) ≡ true → 0 < count_in after k i
  positive k i h =
      clean_held (get_or after.records k [])
      (cleared.clean k zero-le (omega (arith, record_in_lem after.records k i h, cleared.record_count))) i h

  pub finish : Finished m a (sweep m (release a rs)) ps
  unfolding after release_and_sweep release
  finish = record {
    fits = cleared.fits;
    exact = kept.exact;
    counts = after_counts;
    positive = positive;
    serves = record { holds = λ k i p. counted_held (at after.records k i) (subst (λ (n : ℕ). 0 < n) (sym (after_counts k i)) p); blocks = after_blocks };
    record_count = cleared.record_count ∙ change_all_length one_less falls rs a.records;
    cell_count = cleared.cell_count;
  }

-- ---- the tills

pub pointers_set : (k i : ℕ) (ts : List Till) (t : ℕ) (y : Till) → t < length ts
    → count (leads_to k i) (all_pointers (set ts t y)) + count (leads_to k i) (pointers_of (get_or ts t empty_till).versions)
    ≡ count (leads_to k i) (all_pointers ts) + count (leads_to k i) (pointers_of y.versions)
unfolding all_pointers joined
pointers_set k i [] t y h = absurd (not-suc-le-zero h)
pointers_set k i (x ∷ ts) zero y h =
    omega (
      arith,
      count_append (leads_to k i) (pointers_of y.versions) (all_pointers ts),
      count_append (leads_to k i) (pointers_of x.versions) (all_pointers ts),
    )
pointers_set k i (x ∷ ts) (suc t) y h =
    omega (
      arith,
      pointers_set k i ts t y (le_of_suc-le-suc h),
      count_append (leads_to k i) (pointers_of x.versions) (all_pointers (set ts t y)),
      count_append (leads_to k i) (pointers_of x.versions) (all_pointers ts),
    )

-- ---- pointers that are claimed

-- the counts rise by the pointers claimed, of which each is to a held position, and all else stays
module _ (m : Measures) (a : Storage) (qs ps : List Pointer) (f : StorageFits m a) (x : Exact a) (c : Counted a qs)
    (g : (k i : ℕ) → 0 < count (leads_to k i) ps → 0 < count (leads_to k i) qs) where
  pub claim_exact : Exact (claim a ps)
  unfolding claim
  claim_exact n = ap (uses n) (change_all_named one_more grows ps a.records) ∙ x n

  pub claim_fits : StorageFits m (claim a ps)
  unfolding claim
  claim_fits = record { records = change_all_fits one_more grows m ps a.records f.records; cells = f.cells }

  pub claim_counts : Counted (claim a ps) (qs ++ ps)
  unfolding claim
  claim_counts k i =
      raise_count ps a.records k i (λ l. counted_held (at a.records k i) (subst (λ (n : ℕ). 0 < n) (sym (c k i)) (g k i l)))
      ∙ ap (λ (n : ℕ). n + count (leads_to k i) ps) (c k i) ∙ sym (count_append (leads_to k i) qs ps)

  pub claim_block : (k i : ℕ) → block_in (claim a ps) k i ≡ block_in a k i
  unfolding claim
  claim_block k i = ap (λ (n : ℕ). get_or a.cells n []) (change_cell one_more grows ps a.records k i)

  pub claim_length : length (claim a ps).records ≡ length a.records
  unfolding claim
  claim_length = change_all_length one_more grows ps a.records

  -- pointers `ps` are claimed, `rs` let go, and the storage is swept: `us` stay
  pub exchange : (rs us : List Pointer) → ((k i : ℕ) → count (leads_to k i) (qs ++ ps) ≡ count (leads_to k i) rs + count (leads_to k i) us)
      → Finished m a (sweep m (release (claim a ps) rs)) us
  exchange rs us e =
      let fin : Finished m (claim a ps) (sweep m (release (claim a ps) rs)) us = finish m (claim a ps) (qs ++ ps) rs us claim_fits claim_exact claim_counts e in
      record {
        fits = fin.fits;
        exact = fin.exact;
        counts = fin.counts;
        positive = fin.positive;
        serves = record { holds = fin.serves.holds; blocks = λ k i l. fin.serves.blocks k i l ∙ claim_block k i };
        record_count = fin.record_count ∙ claim_length;
        cell_count = fin.cell_count ∙ (unfold claim in refl);
      }

-- a till without a version
closed_till : (s : Shape) (a : Storage) (last : ℕ) (rights : List Rights) (older : List Version) (v : Version) (newer : List Version)
    → is_till s a (record { last = last; rights = rights; versions = older ++ (v ∷ newer) }) ≡ true
    → is_till s a (record { last = last; rights = rights; versions = close_up older v newer }) ≡ true
unfolding is_till is_numbered
closed_till s a last rights older v newer h =
    let few : length (older ++ (v ∷ newer)) ≤ s.capacities.versions = leb-true _ _ (clause _ 0 (clause _ 0 h)) in
    all_true _ (
      all_true _ (
        le-leb (length (close_up older v newer)) s.capacities.versions (omega (arith, few, length-append older (v ∷ newer), close_length)),
        (clause _ 1 (clause _ 0 h), (ap (rises 0 last) close_numbers ∙ rises_without 0 last v.number (numbers older) (numbers newer) (ap (rises 0 last) (sym split_numbers) ∙ clause _ 2 (clause _ 0 h)), tt)),
      ),
      (close_traceable v newer s a older (clause _ 1 h), (clause _ 2 h, tt)),
    )
  where
    numbers : List Version → List ℕ
    numbers vs = map (λ (w : Version). w.number) vs

    close_length : length (close_up older v newer) ≡ length older + length newer
    close_length = unfold close_up in newest_length older (map (take_over v.pointers) (newest_pointers older)) newer

    close_numbers : map (λ (w : Version). w.number) (close_up older v newer) ≡ map (λ (w : Version). w.number) older ++ map (λ (w : Version). w.number) newer
    close_numbers = unfold close_up in newest_numbers older (map (take_over v.pointers) (newest_pointers older)) newer

    split_numbers : map (λ (w : Version). w.number) (older ++ (v ∷ newer)) ≡ map (λ (w : Version). w.number) older ++ (v.number ∷ map (λ (w : Version). w.number) newer)
    split_numbers = map-append (λ (w : Version). w.number) older (v ∷ newer)

-- ---- retire

is_done : Outcome After → Bool
is_done (refused n) = false
is_done (done a) = true

-- what an outcome has done; any value where it is a refusal
unfoldable pub the_after : After → Outcome After → After
the_after d (refused n) = d
the_after d (done a) = a

pub no_refusal : (n : ℕ) (a : After) → refused n ≡ done a → ⊥
unfolding is_done
no_refusal n a e = false≢true (ap is_done e)

pub passed : (b : Bool) (n : ℕ) (o : Outcome After) (a : After) → cond b (refused n) o ≡ done a → (b ≡ false) × (o ≡ done a)
passed true n o a e = absurd (no_refusal n a e)
passed false n o a e = (refl, e)

-- What an accepted retire of version `v` at till `t` of `st` did: that version went from between the others, and the storage was swept.
pub record Retired (s : Shape) (st : State) (t v : ℕ) (a : After) : Type 0 where
  pub there : t < length st.tills
  pub version : Version
  pub newer : List Version
  pub from : held_from v (till_of st t).versions ≡ version ∷ newer
  pub answer : a.answer ≡ version.length
  pub tills : a.state.tills ≡ set st.tills t (record { last = (till_of st t).last; rights = (till_of st t).rights; versions = close_up (held_before v (till_of st t).versions) version newer })
  -- the sweep keeps what all pointers lead to
  pub swept : Serves s.measures st.storage a.state.storage (all_pointers a.state.tills)
  pub sound : is_sound s a.state ≡ true

module _ (s : Shape) (st : State) (t v : ℕ) (ht : t < length st.tills) (h : is_sound s st ≡ true) (w : Version) (newer : List Version)
    (e : held_from v (till_of st t).versions ≡ w ∷ newer) where
  valid : Valid s st
  valid = sound_valid s st h

  older : List Version
  older = held_before v (till_of st t).versions

  split : (till_of st t).versions ≡ older ++ (w ∷ newer)
  unfolding older
  split = (between v (till_of st t).versions w newer e).split

  till : Till
  till = record { last = (till_of st t).last; rights = (till_of st t).rights; versions = close_up older w newer }

  -- the pointers taken over
  ts : List Pointer
  ts = map (taken w.pointers) (newest_pointers older)

  ps : List Pointer
  ps = all_pointers (set st.tills t till)

  all_count : (k i : ℕ) → count (leads_to k i) (pointers_of (till_of st t).versions) ≡ count (leads_to k i) (pointers_of older) + (count (leads_to k i) w.pointers + count (leads_to k i) (pointers_of newer))
  unfolding joined
  all_count k i =
      ap (λ (vs : List Version). count (leads_to k i) (pointers_of vs)) split ∙ versions_append k i older (w ∷ newer)
      ∙ ap (λ (n : ℕ). count (leads_to k i) (pointers_of older) + n) (count_append (leads_to k i) w.pointers (pointers_of newer))

  shared : (k i : ℕ) → count (leads_to k i) (all_pointers st.tills ++ ts) ≡ count (leads_to k i) w.pointers + count (leads_to k i) ps
  unfolding ps till till_of ts
  shared k i =
      omega (
        arith,
        count_append (leads_to k i) (all_pointers st.tills) ts,
        pointers_set k i st.tills t till ht,
        all_count k i,
        close_count w newer k i older,
      )

  claimed : (k i : ℕ) → 0 < count (leads_to k i) ts → 0 < count (leads_to k i) (all_pointers st.tills)
  unfolding ts till_of
  claimed k i l = omega (arith, taken_gone w.pointers k i (newest_pointers older) l, all_count k i, till_among k i st.tills t)

  left : Storage
  left = sweep s.measures (release (claim st.storage ts) w.pointers)

  fin : Finished s.measures st.storage left ps
  unfolding left
  fin = exchange s.measures st.storage (all_pointers st.tills) ts valid.fits valid.exact valid.counts claimed w.pointers ps shared

  old : is_till s st.storage (record { last = (till_of st t).last; rights = (till_of st t).rights; versions = older ++ (w ∷ newer) }) ≡ true
  old =
      ap (λ (vs : List Version). is_till s st.storage (record { last = (till_of st t).last; rights = (till_of st t).rights; versions = vs })) (sym split)
      ∙ (unfold till_of in every_at (is_till s st.storage) empty_till st.tills valid.tills t ht)

  closed_sound : is_sound s (with_till st t till left) ≡ true
  unfolding with_till ps till
  closed_sound =
      valid_sound s _
      (record {
        range = valid.range;
        till_count = length-set st.tills t till ∙ valid.till_count;
        record_count = fin.record_count ∙ valid.record_count;
        cell_count = fin.cell_count ∙ valid.cell_count;
        fits = fin.fits;
        exact = fin.exact;
        tills =
            tills_again s st.storage left ps fin.serves (set st.tills t till)
            (every_set (is_till s st.storage) st.tills t till valid.tills (closed_till s st.storage (till_of st t).last (till_of st t).rights older w newer old))
            (λ k i. le_refl (count (leads_to k i) ps));
        counts = fin.counts;
      })
      fin.positive

  closed : Retired s st t v (record {
    state =
        with_till st t (record { last = (till_of st t).last; rights = (till_of st t).rights; versions = close_up (held_before v (till_of st t).versions) w newer })
        (sweep s.measures (release (claim st.storage (map (taken w.pointers) (newest_pointers (held_before v (till_of st t).versions)))) w.pointers));
    answer = w.length;
  })
  unfolding with_till till left ps ts older
  closed = record {
    there = ht;
    version = w;
    newer = newer;
    from = e;
    answer = refl;
    tills = refl;
    swept = fin.serves;
    sound = closed_sound;
  }

pub retire_done : (s : Shape) (t v : ℕ) (st : State) (a : After) → is_sound s st ≡ true → retire s st t v ≡ done a → Retired s st t v a
unfolding retire look_up
retire_done s t v st a h e =
    let (e₁, r₁) = passed (leb s.capacities.tills t) 3 _ a e in
    go (held_from v (till_of st t).versions) refl (omega (arith, leb-false s.capacities.tills t e₁, (sound_valid s st h).till_count)) r₁
  where
    go : (hs : List Version) → held_from v (till_of st t).versions ≡ hs → t < length st.tills
        → retire_from s st t (till_of st t) (first_of (not_held (till_of st t).last v) (held_before v (till_of st t).versions) hs) ≡ done a → Retired s st t v a
    go [] q ht r = unfold retire_from first_of in absurd (no_refusal (not_held (till_of st t).last v) a r)
    go (w ∷ newer) q ht r = unfold retire_from first_of the_after in subst (Retired s st t v) (ap (the_after a) r) (closed s st t v ht h w newer q)

pub retire_sound : (s : Shape) (t v : ℕ) (st : State) (a : After) → is_sound s st ≡ true → retire s st t v ≡ done a → is_sound s a.state ≡ true
retire_sound s t v st a h e = (retire_done s t v st a h e).sound
