-- How large counts get: a position's count, and the sum of all, which is the number of direct pointers.
use mathlib.Core.Path.{◌≡◌, refl, sym, ap, ap₂, ◌∙◌, subst}
use mathlib.Core.Bool.{Bool, true, false, cond}
use mathlib.Core.List.{List, [], ◌∷◌}
use Prim.Native.Nat.{ℕ, ◌+◌, ◌*◌, ◌≤◌, ◌<◌, zero-le}
use native.Mathlib.Nat.{zero-add, suc-mul, mul-le-mul, le_refl}
use native.Mathlib.Omega.{arith}
use lib.ListN.{length, get_or, length-append}
use lib.Dec.{eqb}
use Rattle.lists.specs.Lists.{all_of, count, counted, total}
use Rattle.lists.specs.Rows.{joined}
use Rattle.lists.specs.Each.{Each}
use Rattle.lists.proofs.Counts.{count_most, hit, one_hit, total_at, total_same, total_sum, total_zero}
use Rattle.lists.proofs.Each.{each_at}
use Rattle.model.specs.Measures.{Shape}
use Rattle.model.specs.State.{Pointer, null_pointer, blank_pointer, direct, indirect, null_position, Version, Till, State}
use Rattle.model.specs.Records.{is_held, count_of}
use Rattle.model.specs.Sound.{is_sound, leads_to, all_pointers}
use Rattle.laws.proofs.Sweep.{count_in}
use Rattle.laws.specs.Storage.{SegmentFits}
use Rattle.laws.proofs.Counts.{at, leads_itself}
use Rattle.laws.proofs.Serves.{pointers_of, Valid, sound_valid}
use Rattle.laws.specs.Ranges.{Ranges}
use Rattle.laws.proofs.Ranges.{ranges}
use Rattle.laws.proofs.Fits.{Fit, VersionFits, TillFits, StateFits, state_fits, held_in, record_in_lem}
use Rattle.laws.proofs.Place.{counted_held}

-- ---- the pointers of a store

versions_most : (s : Shape) (vs : List Version) → Each (VersionFits s) vs → length (pointers_of vs) ≤ length vs * s.capacities.blocks
unfolding joined
versions_most s [] h = zero-le
versions_most s (v ∷ vs) h =
    omega (arith, length-append v.pointers (pointers_of vs), versions_most s vs h.1, h.0.most, suc-mul (length vs) s.capacities.blocks)

tills_most : (s : Shape) (ts : List Till) → Each (TillFits s) ts → length (all_pointers ts) ≤ length ts * (s.capacities.versions * s.capacities.blocks)
unfolding all_pointers joined
tills_most s [] h = zero-le
tills_most s (t ∷ ts) h =
    let own : length t.versions * s.capacities.blocks ≤ s.capacities.versions * s.capacities.blocks =
    mul-le-mul h.0.most (le_refl s.capacities.blocks) in
    omega (
      arith,
      length-append (pointers_of t.versions) (all_pointers ts),
      tills_most s ts h.1,
      versions_most s t.versions h.0.versions,
      own,
      suc-mul (length ts) (s.capacities.versions * s.capacities.blocks),
    )

module _ (s : Shape) (fit : Fit s) (st : State) (h : is_sound s st ≡ true) where
  valid : Valid s st
  valid = sound_valid s st h

  pub pointers_most : length (all_pointers st.tills) ≤ 1048576
  pointers_most =
      let f : StateFits s st = state_fits s st fit.proper.bytes fit.most h in
      let r : Ranges s = ranges s valid.range in
      let vb : s.capacities.versions * s.capacities.blocks ≤ 64 * 1024 = mul-le-mul r.versions r.blocks in
      let n : length st.tills ≤ 16 = omega (arith, r.tills, f.till_count) in
      let all : length st.tills * (s.capacities.versions * s.capacities.blocks) ≤ 16 * (64 * 1024) = mul-le-mul n vb in
      omega (arith, tills_most s st.tills f.tills, all)

  -- a position's count
  pub count_bound : (k i : ℕ) → count_in st.storage k i ≤ 1048576
  count_bound k i = omega (arith, valid.counts k i, count_most (leads_to k i) (all_pointers st.tills), pointers_most)

-- ---- the sum of all counts

unfoldable pub is_direct : Pointer → Bool
is_direct null_pointer = false
is_direct blank_pointer = false
is_direct (direct k i) = true
is_direct (indirect n) = false

module _ (rows cols : ℕ) where
  -- the sum over all positions
  grid : (ℕ → ℕ → ℕ) → ℕ
  grid f = total (λ k. total (f k) (counted (λ x. x) 0 cols)) (counted (λ x. x) 0 rows)

  grid_sum : (f g : ℕ → ℕ → ℕ) → grid (λ k i. f k i + g k i) ≡ grid f + grid g
  unfolding grid
  grid_sum f g =
      total_same _ _ (λ k. total_sum (f k) (g k) (counted (λ x. x) 0 cols)) (counted (λ x. x) 0 rows)
      ∙ total_sum (λ k. total (f k) (counted (λ x. x) 0 cols)) (λ k. total (g k) (counted (λ x. x) 0 cols)) (counted (λ x. x) 0 rows)

  grid_zero : grid (λ k i. 0) ≡ 0
  unfolding grid
  grid_zero = total_same _ _ (λ k. total_zero (counted (λ x. x) 0 cols)) (counted (λ x. x) 0 rows) ∙ total_zero (counted (λ x. x) 0 rows)

  grid_one : (k₀ i₀ : ℕ) → k₀ < rows → i₀ < cols → grid (λ k i. cond (leads_to k i (direct k₀ i₀)) 1 0) ≡ 1
  unfolding grid hit
  grid_one k₀ i₀ hk hi =
      total_same _ (hit k₀) row (counted (λ x. x) 0 rows) ∙ one_hit k₀ 0 rows zero-le (subst (λ (n : ℕ). k₀ < n) (sym (zero-add rows)) hk)
    where
      row : (k : ℕ) → total (λ i. cond (leads_to k i (direct k₀ i₀)) 1 0) (counted (λ x. x) 0 cols) ≡ hit k₀ k
      row k = go (eqb k k₀) refl
        where
          cell : (b : Bool) → eqb k k₀ ≡ b → (i : ℕ) → cond (leads_to k i (direct k₀ i₀)) 1 0 ≡ cond b (hit i₀ i) 0
          cell true e i = unfold all_of hit in rw e (last (eqb i i₀))
            where
              last : (b : Bool) → ◌≡◌ {A = ℕ} (cond (cond b true false) 1 0) (cond b 1 0)
              last true = refl
              last false = refl
          cell false e i = unfold all_of in rw e refl

          go : (b : Bool) → eqb k k₀ ≡ b → total (λ i. cond (leads_to k i (direct k₀ i₀)) 1 0) (counted (λ x. x) 0 cols) ≡ hit k₀ k
          go true e =
              total_same _ (hit i₀) (cell true e) (counted (λ x. x) 0 cols)
              ∙ one_hit i₀ 0 cols zero-le (subst (λ (n : ℕ). i₀ < n) (sym (zero-add cols)) hi) ∙ (unfold hit in sym (ap {B = ℕ} (λ (b : Bool). cond b 1 0) e))
          go false e =
              total_same _ (λ i. 0) (cell false e) (counted (λ x. x) 0 cols) ∙ total_zero (counted (λ x. x) 0 cols) ∙ (unfold hit in sym (ap {B = ℕ} (λ (b : Bool). cond b 1 0) e))

  grid_count : (ps : List Pointer) → ((k i : ℕ) → 0 < count (leads_to k i) ps → (k < rows) × (i < cols)) → grid (λ k i. count (leads_to k i) ps) ≡ count is_direct ps
  unfolding count is_direct
  grid_count [] h = grid_zero
  grid_count (p ∷ ps) h =
      grid_sum (λ k i. cond (leads_to k i p) 1 0) (λ k i. count (leads_to k i) ps)
      ∙ ap₂ ◌+◌ (one p (λ k i e. h k i (omega (arith, ap {B = ℕ} (λ (b : Bool). cond b 1 0) e)))) (grid_count ps (λ k i l. h k i (omega (arith, l))))
    where
      one : (p : Pointer) → ((k i : ℕ) → leads_to k i p ≡ true → (k < rows) × (i < cols)) → grid (λ k i. cond (leads_to k i p) 1 0) ≡ cond (is_direct p) 1 0
      one null_pointer h = unfold is_direct in grid_zero
      one blank_pointer h = unfold is_direct in grid_zero
      one (direct k i) h = unfold is_direct in (let z = h k i (leads_itself k i) in grid_one k i z.0 z.1)
      one (indirect n) h = unfold is_direct in grid_zero

module _ (s : Shape) (fit : Fit s) (st : State) (h : is_sound s st ≡ true) where
  -- the tally's third number
  pub counts_sum : total (total count_of) st.storage.records ≡ count is_direct (all_pointers st.tills)
  unfolding grid
  counts_sum =
      let v : Valid s st = sound_valid s st h in
      sym (total_at (total count_of) [] st.storage.records 0 (λ k. total (λ i. count (leads_to k i) (all_pointers st.tills)) (counted (λ x. x) 0 s.measures.segment_blocks)) (row v))
      ∙ grid_count (length st.storage.records) s.measures.segment_blocks (all_pointers st.tills) (inside v)
    where
      size : Valid s st → (k : ℕ) → k < length st.storage.records → length (get_or st.storage.records k []) ≡ s.measures.segment_blocks
      size v k l = (each_at (SegmentFits s.measures) [] st.storage.records v.fits.records k l).size

      row : Valid s st → (k : ℕ) → k < length st.storage.records
          → total (λ i. count (leads_to (0 + k) i) (all_pointers st.tills)) (counted (λ x. x) 0 s.measures.segment_blocks) ≡ total count_of (get_or st.storage.records k [])
      row v k l =
          ap (λ (n : ℕ). total (λ i. count (leads_to (0 + k) i) (all_pointers st.tills)) (counted (λ x. x) 0 n)) (sym (size v k l))
          ∙ total_at count_of null_position (get_or st.storage.records k []) 0 (λ i. count (leads_to (0 + k) i) (all_pointers st.tills))
          (λ j q. ap₂ (λ (a b : ℕ). count (leads_to a b) (all_pointers st.tills)) (zero-add k) (zero-add j) ∙ sym (v.counts k j))

      inside : Valid s st → (k i : ℕ) → 0 < count (leads_to k i) (all_pointers st.tills) → (k < length st.storage.records) × (i < s.measures.segment_blocks)
      inside v k i c =
          let held : is_held (at st.storage.records k i) ≡ true = counted_held (at st.storage.records k i) (omega (arith, c, v.counts k i)) in
          let k_in : k < length st.storage.records = record_in_lem st.storage.records k i held in
          (k_in, subst (λ (n : ℕ). i < n) (size v k k_in) (held_in (get_or st.storage.records k []) i held))

  pub counts_most : total (total count_of) st.storage.records ≤ 1048576
  counts_most = omega (arith, counts_sum, count_most is_direct (all_pointers st.tills), pointers_most s fit st h)
