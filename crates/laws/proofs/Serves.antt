-- Versions read on another storage, which keeps what their pointers lead to; and the equations of a sound state.
use mathlib.Core.Path.{◌≡◌, refl, ap, ap₂, ◌∙◌}
use mathlib.Core.Bool.{Bool, true, false, cond, false≢true}
use mathlib.Core.List.{List, [], ◌∷◌, ◌++◌, map}
use Prim.Native.Nat.{ℕ, ◌+◌, ◌-◌, ◌*◌, ◌≤◌, ◌<◌, suc, zero}
use native.Mathlib.Nat.{not-suc-le-zero, le_refl}
use native.Mathlib.Omega.{arith}
use lib.ListN.{length, get_or, drop}
use lib.Dec.{eqb, ltb}
use borrow.Author.Tests.{eqb-true, eq-eqb, ltb-true, ltb-false}
use Rattle.lists.specs.Lists.{every, all_of, count, all_zero}
use Rattle.lists.specs.Rows.{joined}
use Rattle.lists.proofs.Counts.{count_append}
use Rattle.lists.proofs.Each.{each_every, every_each₂}
use Rattle.lists.proofs.Tests.{all_true, clause, every_head, every_tail}
use Rattle.model.specs.Measures.{Measures, Shape, in_range}
use Rattle.model.specs.State.{Block, Pointer, null_pointer, blank_pointer, direct, indirect, Storage, Version, Till, State, staff}
use Rattle.model.specs.Records.{is_held, cell_at, position_at}
use Rattle.model.specs.Trace.{end_via, end_of, block_at, traced_block}
use Rattle.model.specs.Sound.{is_sound, is_shaped, is_numbered, resolves, next_pointers, ends_zero, are_traceable, is_till, is_free_or_holds, leads_to, all_pointers}
use Rattle.model.specs.Calls.{empty_till}
use Rattle.laws.proofs.Sweep.{count_in, block_in}
use Rattle.laws.specs.Storage.{Exact, SegmentFits, StorageFits}
use Rattle.laws.proofs.Clean.{HasBytes}
use Rattle.laws.proofs.Valid.{sound_exact, exact_sound}
use Rattle.laws.proofs.Counts.{at, Counted, Led, sound_counted, counted_sound, leads_itself, pointer_counted}

-- ---- pointers

abbrev pub pointers_of : List Version → List Pointer
pointers_of vs = joined (map (λ (v : Version). v.pointers) vs)

-- the pointer at which a tracing ends is one of the versions' own
pub end_counted : (k i : ℕ) (vs : List Version) (n : ℕ) → leads_to k i (end_of vs n) ≡ true → 0 < count (leads_to k i) (pointers_of vs)
unfolding end_of joined end_via
end_counted k i [] n h = absurd (false≢true h)
end_counted k i (v ∷ newer) n h = go (get_or v.pointers n null_pointer) refl h (λ b e. end_counted k i newer b e)
  where
    go : (p : Pointer) → get_or v.pointers n null_pointer ≡ p → leads_to k i (end_via p (λ b. end_of newer b)) ≡ true
        → ((b : ℕ) → leads_to k i (end_of newer b) ≡ true → 0 < count (leads_to k i) (pointers_of newer))
        → 0 < count (leads_to k i) (v.pointers ++ pointers_of newer)
    go null_pointer e h r = absurd (false≢true h)
    go blank_pointer e h r = absurd (false≢true h)
    go (direct k' i') e h r =
        omega (arith, count_append (leads_to k i) v.pointers (pointers_of newer), pointer_counted k i v.pointers n (ap (leads_to k i) e ∙ h))
    go (indirect b) e h r = omega (arith, count_append (leads_to k i) v.pointers (pointers_of newer), r b h)

-- a till's pointers are among all
pub till_among : (k i : ℕ) (ts : List Till) (t : ℕ) → count (leads_to k i) (pointers_of (get_or ts t empty_till).versions) ≤ count (leads_to k i) (all_pointers ts)
unfolding all_pointers joined empty_till
till_among k i [] t = le_refl _
till_among k i (x ∷ ts) zero = omega (arith, count_append (leads_to k i) (pointers_of x.versions) (all_pointers ts))
till_among k i (x ∷ ts) (suc t) = omega (arith, till_among k i ts t, count_append (leads_to k i) (pointers_of x.versions) (all_pointers ts))

-- ---- versions that are read on another storage, which keeps what the pointers of a list lead to

pub record Serves (m : Measures) (a b : Storage) (ps : List Pointer) : Type 0 where
  pub holds : (k i : ℕ) → 0 < count (leads_to k i) ps → is_held (at b.records k i) ≡ true
  pub blocks : (k i : ℕ) → 0 < count (leads_to k i) ps → block_in b k i ≡ block_in a k i

module _ (s : Shape) (a b : Storage) (ps : List Pointer) (sv : Serves s.measures a b ps) where
  abbrev Among : List Pointer → Type 0
  Among qs = (k i : ℕ) → count (leads_to k i) qs ≤ count (leads_to k i) ps

  pub resolves_again : (next qs : List Pointer) → every (resolves a next) qs ≡ true → Among qs → every (resolves b next) qs ≡ true
  unfolding every count
  resolves_again next [] h g = refl
  resolves_again next (q ∷ qs) h g =
      rw (one q (every_head (resolves a next) q qs h) (λ k i e. sv.holds k i (omega (arith, g k i, ap {B = ℕ} (λ (t : Bool). cond t 1 0) e))))
      (resolves_again next qs (every_tail (resolves a next) q qs h) (λ k i. omega (arith, g k i)))
    where
      one : (q : Pointer) → resolves a next q ≡ true → ((k i : ℕ) → leads_to k i q ≡ true → is_held (at b.records k i) ≡ true) → resolves b next q ≡ true
      one null_pointer h r = refl
      one blank_pointer h r = refl
      one (direct k i) h r = unfold position_at in r k i (leads_itself k i)
      one (indirect n) h r = h

  block_again : (p : Pointer) → ((k i : ℕ) → leads_to k i p ≡ true → 0 < count (leads_to k i) ps) → block_at s.measures.block_bytes b p ≡ block_at s.measures.block_bytes a p
  unfolding block_at cell_at position_at
  block_again null_pointer h = refl
  block_again blank_pointer h = refl
  block_again (direct k i) h = sv.blocks k i (h k i (leads_itself k i))
  block_again (indirect n) h = refl

  pub traced_again : (vs : List Version) → Among (pointers_of vs) → (n : ℕ) → traced_block s.measures.block_bytes b vs n ≡ traced_block s.measures.block_bytes a vs n
  unfolding traced_block
  traced_again vs g n = block_again (end_of vs n) (λ k i e. omega (arith, g k i, end_counted k i vs n e))

  pub traceable_again : (vs : List Version) → are_traceable s.measures.block_bytes s.capacities.blocks a vs ≡ true → Among (pointers_of vs) → are_traceable s.measures.block_bytes s.capacities.blocks b vs ≡ true
  unfolding are_traceable joined
  traceable_again [] h g = refl
  traceable_again (v ∷ newer) h g =
      all_true _ (
        clause _ 0 h,
        (
          resolves_again (next_pointers newer) v.pointers (clause _ 1 h) (λ k i. omega (arith, g k i, count_append (leads_to k i) v.pointers (pointers_of newer))),
          (
            unfold ends_zero in
                (ap (λ (x : Block). all_zero (drop (v.length - s.measures.block_bytes * (length v.pointers - 1)) x)) (traced_again (v ∷ newer) g (length v.pointers - 1))
                ∙ clause _ 2 h),
            (traceable_again newer (clause _ 3 h) (λ k i. omega (arith, g k i, count_append (leads_to k i) v.pointers (pointers_of newer))), tt),
          ),
        ),
      )

  pub tills_again : (ts : List Till) → every (is_till s a) ts ≡ true → Among (all_pointers ts) → every (is_till s b) ts ≡ true
  unfolding every is_till all_pointers joined
  tills_again [] h g = refl
  tills_again (t ∷ ts) h g =
      let e = every_head (is_till s a) t ts h in
      let sp : (k i : ℕ) → count (leads_to k i) (pointers_of t.versions ++ all_pointers ts) ≡ count (leads_to k i) (pointers_of t.versions) + count (leads_to k i) (all_pointers ts) =
      λ k i. count_append (leads_to k i) (pointers_of t.versions) (all_pointers ts) in
      rw (let z : all_of (is_numbered s.capacities.versions t ∷ are_traceable s.measures.block_bytes s.capacities.blocks b t.versions ∷ eqb (length t.rights) staff ∷ []) ≡ true =
      all_true _ (clause _ 0 e, (traceable_again t.versions (clause _ 1 e) (λ k i. omega (arith, g k i, sp k i)), (clause _ 2 e, tt))) in z)
      (tills_again ts (every_tail (is_till s a) t ts h) (λ k i. omega (arith, g k i, sp k i)))

-- ---- what a sound state has

led_list : (a : Storage) (next qs : List Pointer) → every (resolves a next) qs ≡ true → (k i : ℕ) → 0 < count (leads_to k i) qs → is_held (at a.records k i) ≡ true
unfolding count position_at
led_list a next [] h k i c = absurd (not-suc-le-zero c)
led_list a next (q ∷ qs) h k i c = go (leads_to k i q) refl (λ n. led_list a next qs (every_tail (resolves a next) q qs h) k i n)
  where
    one : (q : Pointer) → resolves a next q ≡ true → leads_to k i q ≡ true → is_held (at a.records k i) ≡ true
    one null_pointer l e = absurd (false≢true e)
    one blank_pointer l e = absurd (false≢true e)
    one (direct k' i') l e =
        ap₂ (λ (x y : ℕ). is_held (at a.records x y)) (eqb-true k k' (clause _ 0 e)) (eqb-true i i' (clause _ 1 e)) ∙ l
    one (indirect n) l e = absurd (false≢true e)

    go : (t : Bool) → leads_to k i q ≡ t → (0 < count (leads_to k i) qs → is_held (at a.records k i) ≡ true) → is_held (at a.records k i) ≡ true
    go true e r = one q (every_head (resolves a next) q qs h) e
    go false e r = r (omega (arith, c, ap {B = ℕ} (λ (t : Bool). cond t 1 0) e))

led_versions : (s : Shape) (a : Storage) (vs : List Version) → are_traceable s.measures.block_bytes s.capacities.blocks a vs ≡ true → (k i : ℕ) → 0 < count (leads_to k i) (pointers_of vs) → is_held (at a.records k i) ≡ true
unfolding are_traceable joined
led_versions s a [] h k i c = unfold count in absurd (not-suc-le-zero c)
led_versions s a (v ∷ newer) h k i c = go (ltb 0 (count (leads_to k i) v.pointers)) refl (λ n. led_versions s a newer (clause _ 3 h) k i n)
  where
    go : (t : Bool) → ltb 0 (count (leads_to k i) v.pointers) ≡ t → (0 < count (leads_to k i) (pointers_of newer) → is_held (at a.records k i) ≡ true)
        → is_held (at a.records k i) ≡ true
    go true e r = led_list a (next_pointers newer) v.pointers (clause _ 1 h) k i (ltb-true 0 _ e)
    go false e r =
        r (omega (arith, c, ltb-false 0 (count (leads_to k i) v.pointers) e, count_append (leads_to k i) v.pointers (pointers_of newer)))

led_tills : (s : Shape) (a : Storage) (ts : List Till) → every (is_till s a) ts ≡ true → Led a (all_pointers ts)
unfolding is_till all_pointers joined
led_tills s a [] h k i c = unfold count in absurd (not-suc-le-zero c)
led_tills s a (t ∷ ts) h k i c = go (ltb 0 (count (leads_to k i) (pointers_of t.versions))) refl (λ n. led_tills s a ts (every_tail (is_till s a) t ts h) k i n)
  where
    go : (q : Bool) → ltb 0 (count (leads_to k i) (pointers_of t.versions)) ≡ q → (0 < count (leads_to k i) (all_pointers ts) → is_held (at a.records k i) ≡ true)
        → is_held (at a.records k i) ≡ true
    go true e r = led_versions s a t.versions (clause _ 1 (every_head (is_till s a) t ts h)) k i (ltb-true 0 _ e)
    go false e r =
        r (omega (arith, c, ltb-false 0 (count (leads_to k i) (pointers_of t.versions)) e, count_append (leads_to k i) (pointers_of t.versions) (all_pointers ts)))

-- the equations of a sound state
pub record Valid (s : Shape) (st : State) : Type 0 where
  pub range : in_range s ≡ true
  pub till_count : length st.tills ≡ s.capacities.tills
  pub record_count : length st.storage.records ≡ s.capacities.records
  pub cell_count : length st.storage.cells ≡ s.capacities.cells
  pub fits : StorageFits s.measures st.storage
  pub exact : Exact st.storage
  pub tills : every (is_till s st.storage) st.tills ≡ true
  pub counts : Counted st.storage (all_pointers st.tills)

pub sound_valid : (s : Shape) (st : State) → is_sound s st ≡ true → Valid s st
unfolding is_sound is_shaped
sound_valid s st h =
    let sh : is_shaped s st ≡ true = clause _ 1 h in
    record {
      range = clause _ 0 h;
      till_count = eqb-true _ _ (clause _ 0 sh);
      record_count = eqb-true _ _ (clause _ 1 sh);
      cell_count = eqb-true _ _ (clause _ 3 sh);
      fits = record {
        records = every_each₂ (SegmentFits s.measures) _ is_free_or_holds (λ seg e u. record { size = eqb-true _ _ e; used = u }) st.storage.records (clause _ 2 sh) (clause _ 2 h);
        cells = every_each₂ (HasBytes s.measures) _ _ (λ b e u. eqb-true _ _ e) st.storage.cells (clause _ 4 sh) (clause _ 4 sh);
      };
      exact = sound_exact st.storage (clause _ 3 h) (clause _ 6 h);
      tills = clause _ 4 h;
      counts = sound_counted st.storage (all_pointers st.tills) (clause _ 5 h) (led_tills s st.storage st.tills (clause _ 4 h));
    }

pub valid_sound : (s : Shape) (st : State) → Valid s st
    → ((k i : ℕ) → is_held (at st.storage.records k i) ≡ true → 0 < count_in st.storage k i) → is_sound s st ≡ true
unfolding is_sound is_shaped
valid_sound s st v g =
    let e = exact_sound st.storage v.exact in
    all_true _ (
      v.range,
      (
        all_true _ (
          eq-eqb _ _ v.till_count,
          (
            eq-eqb _ _ v.record_count,
            (
              each_every (SegmentFits s.measures) _ (λ seg f. eq-eqb _ _ f.size) st.storage.records v.fits.records,
              (eq-eqb _ _ v.cell_count, (each_every (HasBytes s.measures) _ (λ b f. eq-eqb _ _ f) st.storage.cells v.fits.cells, tt)),
            ),
          ),
        ),
        (
          each_every (SegmentFits s.measures) is_free_or_holds (λ seg f. f.used) st.storage.records v.fits.records,
          (e.0, (v.tills, (counted_sound st.storage (all_pointers st.tills) v.counts g, (e.1, tt)))),
        ),
      ),
    )
