-- What an accepted backup did, and that it keeps the state sound.
use mathlib.Core.Path.{◌≡◌, refl, sym, ap, ◌∙◌, subst}
use mathlib.Core.Bool.{Bool, true, false, cond, ◌||◌, false≢true}
use mathlib.Core.List.{List, [], ◌∷◌, ◌++◌, map, append-nil}
use mathlib.Core.Option.{Option}
use Prim.Native.Nat.{ℕ, zero, suc, ◌+◌, ◌-◌, ◌*◌, ◌≤◌, ◌<◌, zero-le, suc-le-suc}
use native.Mathlib.Nat.{add-zero, not-suc-le-zero, le_of_suc-le-suc, zero-lt-suc, le_refl}
use native.Mathlib.Numerals.{add-one}
use native.Mathlib.Omega.{arith}
use lib.ListN.{length, get_or, set, take, drop, replicate, length-set, length-append, length-replicate, length-drop, take-append-drop, get_or-append}
use lib.Seq.{get_or-take, get_or-drop, length-take-le, get_or-append-add}
use lib.Dec.{eqb, leb, ltb}
use borrow.Author.Tests.{eqb-false, eq-eqb, leb-true, leb-false, le-leb, ltb-false}
use Rattle.lists.specs.Lists.{every, keep, count, rises, all_zero, last_of}
use Rattle.lists.specs.Rows.{joined}
use Rattle.lists.proofs.Tests.{all_true, clause, every_at, every_set, or_false}
use Rattle.lists.proofs.Same.{zeros_zero}
use Rattle.lists.proofs.Rises.{rises_snoc}
use Rattle.lists.proofs.Counts.{count_append}
use Rattle.model.specs.Measures.{Measures, Shape, is_within, parts_for}
use Rattle.model.specs.State.{Block, Pointer, null_pointer, blank_pointer, direct, indirect, Storage, Version, Rights, Till, State, Outcome, refused, done}
use Rattle.model.specs.Image.{zero_block, Era, is_bare, image_blocks, image_segments}
use Rattle.model.specs.Records.{is_held, position_at}
use Rattle.model.specs.Place.{Placed, place_all}
use Rattle.model.specs.Turn.{turn, turning}
use Rattle.model.specs.Sweep.{release, sweep}
use Rattle.model.specs.Trace.{end_of, block_at, traced_block}
use Rattle.model.specs.Sound.{is_sound, is_null, resolves, leads_to, has_length, is_numbered, ends_zero, are_traceable, is_till, all_pointers}
use Rattle.model.specs.Calls.{empty_till, till_of, with_till, newest_pointers, with_newest_pointers, newest_day, day_for, till_with, file_in, place_and_file, backup, After}
use Rattle.laws.proofs.Fits.{Proper}
use Rattle.laws.proofs.Measures.{parts_some}
use Rattle.laws.specs.Storage.{Exact}
use Rattle.laws.proofs.Counts.{at, leads_itself}
use Rattle.laws.proofs.Bare.{is_indirect, is_bare_pointer}
use Rattle.laws.proofs.Place.{PlacedOk, counted_held}
use Rattle.laws.proofs.Segments.{PlaceOk, place_ok}
use Rattle.laws.proofs.Image.{blocks_length, segments_ok, segments_joined, padding, last_zero}
use Rattle.laws.proofs.Newest.{versions_append, newest_count, newest_numbers, newest_length}
use Rattle.laws.proofs.Turn.{NewOk, turn_count, extended, extended_traceable, plain_end}
use Rattle.laws.proofs.Serves.{pointers_of, Serves, Valid, sound_valid, valid_sound, tills_again}
use Rattle.laws.proofs.Retire.{Finished, finish, pointers_set, passed, the_after, no_refusal}

-- ---- the pointers that are kept of those placed

plain_take : (n : ℕ) (ps : List Pointer) → ((j : ℕ) → is_indirect (get_or ps j null_pointer) ≡ false) → (j : ℕ) → is_indirect (get_or (take n ps) j null_pointer) ≡ false
plain_take zero ps h j = refl
plain_take (suc n) [] h j = refl
plain_take (suc n) (p ∷ ps) h zero = h 0
plain_take (suc n) (p ∷ ps) h (suc j) = plain_take n ps (λ i. h (suc i)) j

nulls_uncounted : (k i : ℕ) (qs : List Pointer) → ((j : ℕ) → j < length qs → is_null (get_or qs j null_pointer) ≡ true) → count (leads_to k i) qs ≡ 0
unfolding count
nulls_uncounted k i [] h = refl
nulls_uncounted k i (q ∷ qs) h = omega (arith, one q (h 0 (zero-lt-suc (length qs))), nulls_uncounted k i qs (λ j b. h (suc j) (suc-le-suc b)))
  where
    one : (q : Pointer) → is_null q ≡ true → ◌≡◌ {A = ℕ} (cond (leads_to k i q) 1 0) 0
    one null_pointer e = refl
    one blank_pointer e = absurd (false≢true e)
    one (direct k' i') e = absurd (false≢true e)
    one (indirect n) e = absurd (false≢true e)

replicate_at : (n j : ℕ) (b : Block) → j < n → get_or (replicate n b) j [] ≡ b
replicate_at zero j b h = absurd (not-suc-le-zero h)
replicate_at (suc n) zero b h = refl
replicate_at (suc n) (suc j) b h = replicate_at n j b (le_of_suc-le-suc h)

module _ (era : Era) (m : Measures) (a p : Storage) (bs : List Block) (pad : ℕ) (ps : List Pointer) (ok : PlacedOk era m a p (bs ++ replicate pad (zero_block m.block_bytes)) ps) where
  n : ℕ
  n = length bs

  all_length : length ps ≡ n + pad
  unfolding n
  all_length = ok.size ∙ length-append bs (replicate pad (zero_block m.block_bytes)) ∙ ap (λ (k : ℕ). length bs + k) (length-replicate pad (zero_block m.block_bytes))

  in_all : (j : ℕ) → j < n → j < length (bs ++ replicate pad (zero_block m.block_bytes))
  unfolding n
  in_all j h = omega (arith, h, length-append bs (replicate pad (zero_block m.block_bytes)))

  pub new_ok : NewOk era m p bs (take (length bs) ps)
  unfolding n
  new_ok = record {
    traced = λ j h. ap (block_at m.block_bytes p) (get_or-take n ps j null_pointer h) ∙ ok.traced j (in_all j h) ∙ get_or-append bs _ [] j h;
    nulls = λ j h. ap is_null (get_or-take n ps j null_pointer h) ∙ ok.nulls j (in_all j h) ∙ ap all_zero (get_or-append bs _ [] j h);
    bares = λ j h. ap is_bare_pointer (get_or-take n ps j null_pointer h) ∙ ok.bares j (in_all j h) ∙ ap (is_bare era) (get_or-append bs _ [] j h);
    plain = plain_take n ps ok.plain;
    cells = ok.fits.cells;
  }

  pub new_length : length (take (length bs) ps) ≡ length bs
  unfolding n
  new_length = length-take-le (length bs) ps (omega (arith, all_length))

  pub new_count : (k i : ℕ) → count (leads_to k i) ps ≡ count (leads_to k i) (take (length bs) ps)
  unfolding n
  new_count k i =
      ap (count (leads_to k i)) (sym (take-append-drop (length bs) ps)) ∙ count_append (leads_to k i) (take (length bs) ps) (drop (length bs) ps)
      ∙ ap (λ (c : ℕ). count (leads_to k i) (take (length bs) ps) + c) (nulls_uncounted k i (drop (length bs) ps) rest)
      ∙ add-zero (count (leads_to k i) (take (length bs) ps))
    where
      rest : (j : ℕ) → j < length (drop (length bs) ps) → is_null (get_or (drop (length bs) ps) j null_pointer) ≡ true
      rest j h =
          let l : j < pad = omega (arith, h, length-drop (length bs) ps, all_length) in
          ap is_null (get_or-drop (length bs) ps j null_pointer)
          ∙ ok.nulls (length bs + j) (omega (arith, l, length-append bs (replicate pad (zero_block m.block_bytes)), length-replicate pad (zero_block m.block_bytes)))
          ∙ ap all_zero (get_or-append-add bs (replicate pad (zero_block m.block_bytes)) j [] ∙ replicate_at pad j (zero_block m.block_bytes) l) ∙ (unfold zero_block in zeros_zero m.block_bytes)

-- ---- the till's versions with the new one

module _ (era : Era) (s : Shape) (p : Storage) (x : Exact p) (bs : List Block) (new_v : Version) (ok : NewOk era s.measures p bs new_v.pointers) where
  one_version : (k i : ℕ) → count (leads_to k i) (pointers_of (new_v ∷ [])) ≡ count (leads_to k i) new_v.pointers
  unfolding joined
  one_version k i = ap (count (leads_to k i)) (append-nil new_v.pointers)

  pub ext_count : (k i : ℕ) (vs : List Version)
      → count (leads_to k i) (pointers_of (extended era s p x bs new_v ok vs)) + count (leads_to k i) (turning era p bs (newest_pointers vs))
      ≡ count (leads_to k i) (pointers_of vs) + count (leads_to k i) new_v.pointers
  unfolding extended
  ext_count k i [] = unfold with_newest_pointers last_of newest_pointers turning keep count joined in empty
    where
      empty : count (leads_to k i) (new_v.pointers ++ []) + 0 ≡ 0 + count (leads_to k i) new_v.pointers
      empty = omega (arith, ap (count (leads_to k i)) (append-nil new_v.pointers))
  ext_count k i (v ∷ vs) =
      omega (
        arith,
        versions_append k i (with_newest_pointers (v ∷ vs) (turn era p bs (newest_pointers (v ∷ vs)))) (new_v ∷ []),
        one_version k i,
        newest_count k i v vs (turn era p bs (newest_pointers (v ∷ vs))),
        turn_count era s.measures p x bs k i (newest_pointers (v ∷ vs)),
      )

  ext_numbers : (vs : List Version) → map (λ (v : Version). v.number) (extended era s p x bs new_v ok vs) ≡ map (λ (v : Version). v.number) vs ++ (new_v.number ∷ [])
  unfolding extended
  ext_numbers vs = newest_numbers vs (turn era p bs (newest_pointers vs)) (new_v ∷ [])

  ext_length : (vs : List Version) → length (extended era s p x bs new_v ok vs) ≡ suc (length vs)
  unfolding extended
  ext_length vs = newest_length vs (turn era p bs (newest_pointers vs)) (new_v ∷ []) ∙ add-one (length vs)

-- the till's numbers with the new one
numbered : (s : Shape) (last : ℕ) (rights : List Rights) (vs ws : List Version) → is_numbered s.capacities.versions (record { last = last; rights = rights; versions = vs }) ≡ true
    → length vs < s.capacities.versions → (last ≡ 65535 → ⊥) → length ws ≡ suc (length vs)
    → map (λ (v : Version). v.number) ws ≡ map (λ (v : Version). v.number) vs ++ (suc last ∷ [])
    → is_numbered s.capacities.versions (record { last = suc last; rights = rights; versions = ws }) ≡ true
unfolding is_numbered
numbered s last rights vs ws h room top l e =
    let most : last ≤ 65535 = leb-true _ _ (clause _ 1 h) in
    all_true _ (
      le-leb (length ws) s.capacities.versions (omega (arith, l, room)),
      (
        le-leb (suc last) 65535 (omega (arith, most, top)),
        (ap (rises 0 (suc last)) e ∙ rises_snoc 0 last (suc last) (map (λ (v : Version). v.number) vs) zero-le (le_refl (suc last)) (clause _ 2 h), tt),
      ),
    )

-- pointers that are not indirect, to held positions, lead
plain_resolves : (p : Storage) (qs : List Pointer) → ((j : ℕ) → is_indirect (get_or qs j null_pointer) ≡ false)
    → ((k i : ℕ) → 0 < count (leads_to k i) qs → is_held (at p.records k i) ≡ true) → every (resolves p []) qs ≡ true
unfolding every count
plain_resolves p [] f g = refl
plain_resolves p (q ∷ qs) f g = rw (one q (f 0) (λ k i e. g k i (omega (arith, ap {B = ℕ} (λ (t : Bool). cond t 1 0) e)))) (plain_resolves p qs (λ j. f (suc j)) (λ k i c. g k i (omega (arith, c))))
  where
    one : (q : Pointer) → is_indirect q ≡ false → ((k i : ℕ) → leads_to k i q ≡ true → is_held (at p.records k i) ≡ true) → resolves p [] q ≡ true
    one null_pointer e r = refl
    one blank_pointer e r = refl
    one (direct k i) e r = unfold position_at in r k i (leads_itself k i)
    one (indirect m) e r = absurd (false≢true (sym e))

-- What an accepted backup of `image` at till `t` of `st` did: the segments were placed, the new version joined the till, and the storage was swept.
pub record Filed (era : Era) (s : Shape) (st : State) (t day : ℕ) (image : List ℕ) (a : After) : Type 0 where
  pub there : t < length st.tills
  pub answer : a.answer ≡ suc (till_of st t).last
  -- the storage with the segments placed keeps what all pointers lead to
  pub placed : Storage
  pub exact : Exact placed
  pub kept : Serves s.measures st.storage placed (all_pointers st.tills)
  -- the new version
  pub version : Version
  pub number : version.number ≡ suc (till_of st t).last
  pub bytes : version.length ≡ length image
  pub dated : version.day ≡ day
  pub size : length version.pointers ≡ length (image_blocks s.measures.block_bytes image)
  pub good : NewOk era s.measures placed (image_blocks s.measures.block_bytes image) version.pointers
  -- its till
  pub before : is_till s placed (till_of st t) ≡ true
  pub till : Till
  pub last : till.last ≡ suc (till_of st t).last
  pub rights : till.rights ≡ (till_of st t).rights
  pub versions : till.versions ≡ extended era s placed exact (image_blocks s.measures.block_bytes image) version good (till_of st t).versions
  pub tills : a.state.tills ≡ set st.tills t till
  -- the sweep keeps what all pointers lead to
  pub swept : Serves s.measures placed a.state.storage (all_pointers a.state.tills)
  pub sound : is_sound s a.state ≡ true

-- ---- the state after a backup

module _ (era : Era) (s : Shape) (pr : Proper s.measures) (st : State) (h : is_sound s st ≡ true) (t : ℕ) (ht : t < length st.tills) (day : ℕ) (image : List ℕ)
    (some_bytes : 0 < length image) (few_bytes : length image ≤ s.measures.block_bytes * s.capacities.blocks) (room : length (till_of st t).versions < s.capacities.versions)
    (number : (till_of st t).last ≡ 65535 → ⊥)
    (placed : Placed)
    (ok : PlacedOk era s.measures st.storage placed.storage (joined (image_segments s.measures.block_bytes s.measures.segment_blocks image)) placed.pointers) where
  bs : List Block
  bs = image_blocks s.measures.block_bytes image

  new_v : Version
  new_v = record { number = suc (till_of st t).last; length = length image; day = day; pointers = take (length (image_blocks s.measures.block_bytes image)) placed.pointers }

  valid : Valid s st
  valid = sound_valid s st h

  ok' : PlacedOk era s.measures st.storage placed.storage (bs ++ replicate (padding s.measures pr image) (zero_block s.measures.block_bytes)) placed.pointers
  unfolding bs
  ok' = subst (λ (l : List Block). PlacedOk era s.measures st.storage placed.storage l placed.pointers) (segments_joined s.measures pr image) ok

  good : NewOk era s.measures placed.storage bs new_v.pointers
  unfolding new_v bs
  good = new_ok era s.measures st.storage placed.storage bs (padding s.measures pr image) placed.pointers ok'

  same_count : (k i : ℕ) → count (leads_to k i) placed.pointers ≡ count (leads_to k i) new_v.pointers
  unfolding new_v bs
  same_count = new_count era s.measures st.storage placed.storage bs (padding s.measures pr image) placed.pointers ok'

  size : length new_v.pointers ≡ parts_for s.measures.block_bytes (length image)
  unfolding new_v bs
  size = new_length era s.measures st.storage placed.storage bs (padding s.measures pr image) placed.pointers ok' ∙ blocks_length s.measures pr image

  placed_held : (k i : ℕ) → 0 < count (leads_to k i) new_v.pointers → is_held (at placed.storage.records k i) ≡ true
  placed_held k i q = counted_held (at placed.storage.records k i) (omega (arith, q, ok.counts k i, same_count k i))

  len : has_length s.measures.block_bytes s.capacities.blocks new_v ≡ true
  unfolding has_length is_within new_v
  len =
      all_true _ (
        all_true _ (le-leb 1 (length image) some_bytes, (le-leb (length image) (s.measures.block_bytes * s.capacities.blocks) few_bytes, tt)),
        (eq-eqb (length new_v.pointers) (parts_for s.measures.block_bytes (length image)) size, tt),
      )

  lead : every (resolves placed.storage []) new_v.pointers ≡ true
  lead = plain_resolves placed.storage new_v.pointers good.plain placed_held

  many : 0 < parts_for s.measures.block_bytes (length image)
  many = parts_some s.measures.block_bytes (length image) pr.bytes some_bytes

  end : ends_zero s.measures.block_bytes placed.storage new_v [] ≡ true
  unfolding ends_zero traced_block end_of bs new_v
  end =
      let j : ℕ = length new_v.pointers - 1 in
      ap (λ (b : Block). all_zero (drop (length image - s.measures.block_bytes * j) b))
      (ap (block_at s.measures.block_bytes placed.storage) (plain_end (get_or new_v.pointers j null_pointer) _ (good.plain j)) ∙ good.traced j (omega (arith, size, blocks_length s.measures pr image, some_bytes, many)))
      ∙ last_zero s.measures pr image some_bytes (length new_v.pointers) size

  -- ---- the tills on the storage with the segments placed

  serves : Serves s.measures st.storage placed.storage (all_pointers st.tills)
  serves = record {
    holds = λ k i q. counted_held (at placed.storage.records k i) (omega (arith, q, ok.counts k i, valid.counts k i));
    blocks = λ k i q. ok.blocks k i (omega (arith, q, valid.counts k i));
  }

  olds : every (is_till s placed.storage) st.tills ≡ true
  olds =
      tills_again s st.storage placed.storage (all_pointers st.tills) serves st.tills valid.tills
      (λ k i. le_refl (count (leads_to k i) (all_pointers st.tills)))

  before : is_till s placed.storage (till_of st t) ≡ true
  unfolding till_of
  before = every_at (is_till s placed.storage) empty_till st.tills olds t ht

  vs : List Version
  vs = (till_of st t).versions

  rs : List Pointer
  rs = turning era placed.storage bs (newest_pointers vs)

  after : Till
  after = till_with (till_of st t) (turn era placed.storage bs (newest_pointers vs)) (length image) day (take (length bs) placed.pointers)

  after_versions : after.versions ≡ extended era s placed.storage ok.exact bs new_v good vs
  unfolding after till_with extended new_v bs vs
  after_versions = refl

  after_till : is_till s placed.storage after ≡ true
  unfolding is_till after till_with
  after_till =
      all_true _ (
        numbered s (till_of st t).last (till_of st t).rights vs after.versions (unfold vs in clause _ 0 before) (unfold vs in room) number
            (ap length after_versions ∙ ext_length era s placed.storage ok.exact bs new_v good vs)
            (ap (map (λ (v : Version). v.number)) after_versions ∙ (unfold new_v in ext_numbers era s placed.storage ok.exact bs new_v good vs)),
        (
          ap (are_traceable s.measures.block_bytes s.capacities.blocks placed.storage) after_versions
              ∙ extended_traceable era s placed.storage ok.exact bs new_v good len lead end vs (unfold vs in clause _ 1 before),
          (clause _ 2 before, tt),
        ),
      )

  -- ---- counts

  ps : List Pointer
  ps = all_pointers (set st.tills t after)

  shared : (k i : ℕ) → count (leads_to k i) (all_pointers st.tills ++ placed.pointers) ≡ count (leads_to k i) rs + count (leads_to k i) ps
  unfolding ps rs vs till_of
  shared k i =
      omega (
        arith,
        count_append (leads_to k i) (all_pointers st.tills) placed.pointers,
        same_count k i,
        pointers_set k i st.tills t after ht,
        ap (λ (l : List Version). count (leads_to k i) (pointers_of l)) after_versions,
        ext_count era s placed.storage ok.exact bs new_v good k i (get_or st.tills t empty_till).versions,
      )

  fin : Finished s.measures placed.storage (sweep s.measures (release placed.storage rs)) ps
  fin =
      finish s.measures placed.storage (all_pointers st.tills ++ placed.pointers) rs ps ok.fits ok.exact
      (λ k i. ok.counts k i ∙ ap (λ (n : ℕ). n + count (leads_to k i) placed.pointers) (valid.counts k i)
      ∙ sym (count_append (leads_to k i) (all_pointers st.tills) placed.pointers))
      shared

  filed_sound : is_sound s (with_till st t after (sweep s.measures (release placed.storage rs))) ≡ true
  unfolding with_till ps
  filed_sound =
      valid_sound s _
      (record {
        range = valid.range;
        till_count = length-set st.tills t after ∙ valid.till_count;
        record_count = fin.record_count ∙ ok.record_count ∙ valid.record_count;
        cell_count = fin.cell_count ∙ ok.cell_count ∙ valid.cell_count;
        fits = fin.fits;
        exact = fin.exact;
        tills =
            tills_again s placed.storage (sweep s.measures (release placed.storage rs)) ps fin.serves (set st.tills t after)
            (every_set (is_till s placed.storage) st.tills t after olds after_till) (λ k i. le_refl (count (leads_to k i) ps));
        counts = fin.counts;
      })
      fin.positive

  filed : Filed era s st t day image (record { state = with_till st t (till_with (till_of st t) (turn era placed.storage (image_blocks s.measures.block_bytes image) (newest_pointers (till_of st t).versions)) (length image) day (take (length (image_blocks s.measures.block_bytes image)) placed.pointers)) (sweep s.measures (release placed.storage (turning era placed.storage (image_blocks s.measures.block_bytes image) (newest_pointers (till_of st t).versions)))); answer = suc (till_of st t).last })
  unfolding bs new_v vs rs after ps with_till
  filed = record {
    there = ht;
    answer = refl;
    placed = placed.storage;
    exact = ok.exact;
    kept = serves;
    version = new_v;
    number = refl;
    bytes = refl;
    dated = refl;
    size = new_length era s.measures st.storage placed.storage bs (padding s.measures pr image) placed.pointers ok';
    good = good;
    before = before;
    till = after;
    last = unfold till_with in refl;
    rights = unfold till_with in refl;
    versions = after_versions;
    tills = refl;
    swept = fin.serves;
    sound = filed_sound;
  }

-- ---- backup

pub backup_filed : (era : Era) (s : Shape) → Proper s.measures → (t : ℕ) (brought : Option ℕ) (image : List ℕ) (st : State) (a : After) → is_sound s st ≡ true
    → backup era s st t brought image ≡ done a → Filed era s st t (day_for brought (till_of st t).versions) image a
unfolding backup place_and_file
backup_filed era s pr t brought image st a h e =
    let day : ℕ = day_for brought (till_of st t).versions in
    let (e₁, r₁) = passed (leb s.capacities.tills t) 3 _ a e in
    let (e₂, r₂) = passed (eqb (length image) 0 || ltb (s.measures.block_bytes * s.capacities.blocks) (length image)) 4 _ a r₁ in
    let (e₃, r₃) = passed (leb s.capacities.versions (length (till_of st t).versions)) 11 _ a r₂ in
    let (e₄, r₄) = passed (eqb (till_of st t).last 65535) 12 _ a r₃ in
    let (e₅, r₅) = passed (ltb day (newest_day (till_of st t).versions)) 28 _ a r₄ in
    let (z, big) = or_false (eqb (length image) 0) (ltb (s.measures.block_bytes * s.capacities.blocks) (length image)) e₂ in
    let v : Valid s st = sound_valid s st h in
    let segs : List (List Block) = image_segments s.measures.block_bytes s.measures.segment_blocks image in
    go day (place_all era (done (record { storage = st.storage; pointers = [] })) segs)
    (place_ok era s.measures st.storage segs v.fits v.exact (segments_ok s.measures pr image))
    (omega (arith, leb-false s.capacities.tills t e₁, v.till_count)) (omega (arith, eqb-false (length image) 0 z))
    (ltb-false (s.measures.block_bytes * s.capacities.blocks) (length image) big) (leb-false s.capacities.versions (length (till_of st t).versions) e₃)
    (eqb-false (till_of st t).last 65535 e₄) r₅
  where
    go : (day : ℕ) (o : Outcome Placed) → PlaceOk era s.measures st.storage (joined (image_segments s.measures.block_bytes s.measures.segment_blocks image)) o
        → t < length st.tills → 0 < length image → length image ≤ s.measures.block_bytes * s.capacities.blocks
        → length (till_of st t).versions < s.capacities.versions → ((till_of st t).last ≡ 65535 → ⊥)
        → file_in era s st t day image (image_blocks s.measures.block_bytes image) (till_of st t) o ≡ done a → Filed era s st t day image a
    go day (refused n) ok ht some few room num r = unfold file_in in absurd (no_refusal n a r)
    go day (done p) ok ht some few room num r =
        unfold file_in the_after in subst (Filed era s st t day image) (ap (the_after a) r) (filed era s pr st h t ht day image some few room num p ok)

pub backup_sound : (era : Era) (s : Shape) → Proper s.measures → (t : ℕ) (brought : Option ℕ) (image : List ℕ) (st : State) (a : After) → is_sound s st ≡ true
    → backup era s st t brought image ≡ done a → is_sound s a.state ≡ true
backup_sound era s pr t brought image st a h e = (backup_filed era s pr t brought image st a h e).sound

-- its day is not before that of the till's newest version
pub backup_day : (era : Era) (s : Shape) (t : ℕ) (brought : Option ℕ) (image : List ℕ) (st : State) (a : After) → backup era s st t brought image ≡ done a
    → newest_day (till_of st t).versions ≤ day_for brought (till_of st t).versions
unfolding backup
backup_day era s t brought image st a e =
    let (e₁, r₁) = passed (leb s.capacities.tills t) 3 _ a e in
    let (e₂, r₂) = passed (eqb (length image) 0 || ltb (s.measures.block_bytes * s.capacities.blocks) (length image)) 4 _ a r₁ in
    let (e₃, r₃) = passed (leb s.capacities.versions (length (till_of st t).versions)) 11 _ a r₂ in
    let (e₄, r₄) = passed (eqb (till_of st t).last 65535) 12 _ a r₃ in
    let (e₅, r₅) = passed (ltb (day_for brought (till_of st t).versions) (newest_day (till_of st t).versions)) 28 _ a r₄ in
    ltb-false (day_for brought (till_of st t).versions) (newest_day (till_of st t).versions) e₅
