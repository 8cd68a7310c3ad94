-- On a sound store the two passes give the bill: no two held positions name one cell, and every direct pointer leads to a held one.
use mathlib.Core.Path.{◌≡◌, refl, sym, ap, ap₂, ◌∙◌}
use mathlib.Core.Bool.{Bool, true, false, cond, false≢true}
use mathlib.Core.List.{List, [], ◌∷◌, map}
use Prim.Native.Nat.{ℕ, zero, suc, ◌+◌, ◌*◌, ◌/◌, ◌%◌, ◌≤◌, ◌<◌}
use native.Mathlib.Nat.{zero-add}
use native.Mathlib.Omega.{arith}
use lib.Dec.{ltb}
use lib.ListN.{length, get_or, replicate}
use borrow.Author.Tests.{eqb-true, eq-eqb, le-ltb}
use Rattle.lists.specs.Lists.{count, total, uses}
use Rattle.lists.specs.Masks.{mask_of}
use Rattle.lists.specs.Rows.{joined, fill}
use Rattle.lists.proofs.Rows.{length_fill}
use Rattle.lists.proofs.Each.{each_weaken}
use Rattle.lists.proofs.Counts.{count_append}
use Rattle.lists.proofs.Masks.{mask_map}
use Rattle.lists.proofs.Tests.{clause, all_true}
use Rattle.lists.proofs.Uses.{uses_append, uses_here}
use Rattle.model.specs.Measures.{Shape}
use Rattle.model.specs.State.{Pointer, null_pointer, blank_pointer, direct, indirect, Position, null_position, blank_position, held, removed, Segment, Storage, Till, State}
use Rattle.model.specs.Records.{is_held, cell_of, count_of, cells_of, named_cells, position_at}
use Rattle.model.specs.Sound.{leads_to, all_pointers}
use Rattle.laws.proofs.Sweep.{count_in, named_one, bit_most}
use Rattle.laws.specs.Storage.{SegmentFits}
use Rattle.laws.proofs.Ranges.{ranges}
use Rattle.laws.proofs.Serves.{Valid, pointers_of}
use Rattle.bill.specs.Bill.{refers_to, pays, shares, divided, bill_for, bill}
use Rattle.bill_sums.specs.Marks.{share_all}
use Rattle.bill_sums.proofs.Passes.{zeros_at}
use Rattle.bill_sums.proofs.Marked.{points}
use Rattle.bill_sums.proofs.Shared.{bits, numbers, all_at, length_all, worth, records_total, bill_at, fill_at, alike}

-- ---- a cell has one position

seg_named : (c : ℕ) (seg : Segment) (i : ℕ) → is_held (get_or seg i null_position) ≡ true → cell_of (get_or seg i null_position) ≡ c → 0 < uses c (cells_of seg)
unfolding cells_of
seg_named c [] i h e = absurd (false≢true h)
seg_named c (null_position ∷ seg) zero h e = absurd (false≢true h)
seg_named c (blank_position ∷ seg) zero h e = absurd (false≢true h)
seg_named c (held d n ∷ seg) zero h e = rw e (omega (arith, uses_here c (cells_of seg)))
seg_named c (removed ∷ seg) zero h e = absurd (false≢true h)
seg_named c (null_position ∷ seg) (suc i) h e = seg_named c seg i h e
seg_named c (blank_position ∷ seg) (suc i) h e = seg_named c seg i h e
seg_named c (held d n ∷ seg) (suc i) h e = omega (arith, uses_append c (d ∷ []) (cells_of seg), seg_named c seg i h e)
seg_named c (removed ∷ seg) (suc i) h e = seg_named c seg i h e

-- the uses by a position, and by the rest
uses_first : (c : ℕ) (x : Position) (seg : Segment) → uses c (cells_of seg) ≤ uses c (cells_of (x ∷ seg))
unfolding cells_of
uses_first c null_position seg = omega arith
uses_first c blank_position seg = omega arith
uses_first c (held d n) seg = omega (arith, uses_append c (d ∷ []) (cells_of seg))
uses_first c removed seg = omega arith

uses_more : (c : ℕ) (x : Position) (seg : Segment) → is_held x ≡ true → cell_of x ≡ c → uses c (cells_of (x ∷ seg)) ≡ 1 + uses c (cells_of seg)
unfolding cells_of
uses_more c null_position seg h e = absurd (false≢true h)
uses_more c blank_position seg h e = absurd (false≢true h)
uses_more c (held d n) seg h e = rw e (uses_here c (cells_of seg))
uses_more c removed seg h e = absurd (false≢true h)

seg_one : (c : ℕ) (seg : Segment) → uses c (cells_of seg) ≤ 1 → (i j : ℕ) → is_held (get_or seg i null_position) ≡ true → cell_of (get_or seg i null_position) ≡ c
    → is_held (get_or seg j null_position) ≡ true → cell_of (get_or seg j null_position) ≡ c → i ≡ j
seg_one c [] l i j h e g f = absurd (false≢true h)
seg_one c (x ∷ seg) l zero zero h e g f = refl
seg_one c (x ∷ seg) l zero (suc j) h e g f = absurd (omega (arith, l, uses_more c x seg h e, seg_named c seg j g f))
seg_one c (x ∷ seg) l (suc i) zero h e g f = absurd (omega (arith, l, uses_more c x seg g f, seg_named c seg i h e))
seg_one c (x ∷ seg) l (suc i) (suc j) h e g f = ap suc (seg_one c seg (omega (arith, l, uses_first c x seg)) i j h e g f)

at_one : (c : ℕ) (segs : List Segment) → uses c (named_cells segs) ≤ 1 → (k i k' j : ℕ)
    → is_held (get_or (get_or segs k []) i null_position) ≡ true → cell_of (get_or (get_or segs k []) i null_position) ≡ c
    → is_held (get_or (get_or segs k' []) j null_position) ≡ true → cell_of (get_or (get_or segs k' []) j null_position) ≡ c → (k ≡ k') × (i ≡ j)
unfolding named_cells joined
at_one c [] l k i k' j h e g f = absurd (false≢true h)
at_one c (s ∷ segs) l zero i zero j h e g f = (refl, seg_one c s (omega (arith, l, uses_append c (cells_of s) (named_cells segs))) i j h e g f)
at_one c (s ∷ segs) l zero i (suc k') j h e g f =
    absurd (omega (arith, l, uses_append c (cells_of s) (named_cells segs), seg_named c s i h e, named_one c segs k', seg_named c (get_or segs k' []) j g f))
at_one c (s ∷ segs) l (suc k) i zero j h e g f =
    absurd (omega (arith, l, uses_append c (cells_of s) (named_cells segs), seg_named c s j g f, named_one c segs k, seg_named c (get_or segs k []) i h e))
at_one c (s ∷ segs) l (suc k) i (suc k') j h e g f =
    let r = at_one c segs (omega (arith, l, uses_append c (cells_of s) (named_cells segs))) k i k' j h e g f in (ap suc r.0, r.1)

-- ---- a till pays for a cell if it points to its position

module _ (storage : Storage) (c k i : ℕ) (once : uses c (named_cells storage.records) ≤ 1) (h : is_held (position_at storage k i) ≡ true) (e : cell_of (position_at storage k i) ≡ c) where
  one_pointer : (p : Pointer) → refers_to storage c p ≡ leads_to k i p
  unfolding position_at
  one_pointer null_pointer = refl
  one_pointer blank_pointer = refl
  one_pointer (direct k' i') = go (refers_to storage c (direct k' i')) (leads_to k i (direct k' i')) refl refl
    where
      go : (a b : Bool) → refers_to storage c (direct k' i') ≡ a → leads_to k i (direct k' i') ≡ b → a ≡ b
      go true true p q = refl
      go true false p q =
          let r = at_one c storage.records once k i k' i' h e (clause _ 0 p) (eqb-true _ c (clause _ 1 p)) in
          sym (all_true _ (eq-eqb k k' r.0, (eq-eqb i i' r.1, tt))) ∙ q
      go false true p q =
          let a = sym (eqb-true k k' (clause _ 0 q)) in
          let b = sym (eqb-true i i' (clause _ 1 q)) in
          sym p ∙ all_true _ (ap₂ (λ (x y : ℕ). is_held (position_at storage x y)) a b ∙ h, (eq-eqb _ c (ap₂ (λ (x y : ℕ). cell_of (position_at storage x y)) a b ∙ e), tt))
      go false false p q = refl
  one_pointer (indirect n) = refl

  same_count : (ps : List Pointer) → count (refers_to storage c) ps ≡ count (leads_to k i) ps
  unfolding count
  same_count [] = refl
  same_count (p ∷ ps) = ap₂ {C = ℕ} (λ (b : Bool) (n : ℕ). cond b 1 0 + n) (one_pointer p) (same_count ps)

  pub pays_points : (ts : List Till) → map (points k i) ts ≡ map (pays storage c) ts
  unfolding pays points
  pays_points [] = refl
  pays_points (t ∷ ts) = ap₂ (λ (b : Bool) (bs : List Bool). b ∷ bs) (ap (ltb 0) (sym (same_count (pointers_of t.versions)))) (pays_points ts)

-- ---- nobody pays for a position without pointers

none_points : (k i q r : ℕ) (ts : List Till) (t : ℕ) → count (leads_to k i) (all_pointers ts) ≡ 0 → get_or (shares q r (map (points k i) ts)) t 0 ≡ 0
unfolding all_pointers joined shares points
none_points k i q r [] t h = refl
none_points k i q r (x ∷ ts) t h = go t (λ j g. none_points k i q r ts j g)
  where
    both : count (leads_to k i) (pointers_of x.versions) + count (leads_to k i) (all_pointers ts) ≡ 0
    both = sym (count_append (leads_to k i) (pointers_of x.versions) (all_pointers ts)) ∙ h

    off : ltb 0 (count (leads_to k i) (pointers_of x.versions)) ≡ false
    off = le-ltb 0 (count (leads_to k i) (pointers_of x.versions)) (omega (arith, both))

    go : (t : ℕ) → ((j : ℕ) → count (leads_to k i) (all_pointers ts) ≡ 0 → get_or (shares q r (map (points k i) ts)) j 0 ≡ 0)
        → get_or (shares q r (ltb 0 (count (leads_to k i) (pointers_of x.versions)) ∷ map (points k i) ts)) t 0 ≡ 0
    go zero next = rw off
    go (suc t) next = rw off (next t (omega (arith, both)))

-- ---- the bill of a state

module _ (s : Shape) (st : State) (v : Valid s st) (p : ℕ) where
  abbrev payers : ℕ → List Bool
  payers j = map (points (j / 16) (j % 16)) st.tills

  abbrev price : ℕ → ℕ → ℕ
  price t c = get_or (divided p (map (pays st.storage c) st.tills)) t 0

  unpaid : (k i t : ℕ) → count_in st.storage k i ≡ 0 → get_or (divided p (map (points k i) st.tills)) t 0 ≡ 0
  unfolding divided
  unpaid k i t e = none_points k i _ _ st.tills t (sym (v.counts k i) ∙ e)

  position_worth : (k i t : ℕ) → get_or (divided p (map (points k i) st.tills)) t 0 ≡ worth (price t) (get_or (get_or st.storage.records k []) i null_position)
  unfolding position_at
  position_worth k i t = go (get_or (get_or st.storage.records k []) i null_position) refl
    where
      go : (x : Position) → get_or (get_or st.storage.records k []) i null_position ≡ x → get_or (divided p (map (points k i) st.tills)) t 0 ≡ worth (price t) x
      go null_position e = unpaid k i t (ap count_of e)
      go blank_position e = unpaid k i t (ap count_of e)
      go (held c n) e =
          ap (λ (bs : List Bool). get_or (divided p bs) t 0)
          (pays_points st.storage c k i (omega (arith, v.exact c, bit_most (get_or st.storage.cells c []))) (ap is_held e) (ap cell_of e) st.tills)
      go removed e = unpaid k i t (ap count_of e)

  -- as many marks as m records of 16 positions have
  module _ (m : ℕ) (enough : s.capacities.records ≤ m) (marks : List ℕ) (long : length marks ≡ m * 16)
      (is : (j : ℕ) → j < length marks → get_or marks j 0 ≡ mask_of (points (j / 16) (j % 16)) st.tills) where
    sum_at : (t : ℕ) → t < 16 → get_or (share_all p marks (replicate 16 0)) t 0 ≡ get_or (fill 16 (bill p st)) t 0
    unfolding bill
    sum_at t l =
        let f : ℕ → ℕ = λ j. get_or (divided p (payers j)) t 0 in
        all_at p t payers marks (replicate 16 0) 0 l (λ j b. is j b ∙ sym (mask_map (λ (b : Bool). b) (points (j / 16) (j % 16)) st.tills) ∙ ap (λ (n : ℕ). bits (payers n)) (sym (zero-add j)))
        ∙ ap (λ (n : ℕ). n + total f (numbers 0 (length marks))) (zeros_at 16 t) ∙ zero-add (total f (numbers 0 (length marks)))
        ∙ ap (λ (n : ℕ). total f (numbers 0 n)) long
        ∙ records_total f (price t) 0 m st.storage.records (omega (arith, v.record_count))
        (each_weaken (SegmentFits s.measures) (λ (x : Segment). length x ≤ 16) (λ x g. omega (arith, g.size, (ranges s v.range).measured.most_blocks)) st.storage.records v.fits.records)
        (λ k i b d. ap₂ (λ (x y : ℕ). get_or (divided p (map (points x y) st.tills)) t 0)
        (let a : (0 + (k * 16 + i)) / 16 ≡ k = omega arith in a) (let a : (0 + (k * 16 + i)) % 16 ≡ i = omega arith in a) ∙ position_worth k i t)
        ∙ sym (bill_at p st t (named_cells st.storage.records))
        ∙ sym (fill_at 16 (bill_for p st (named_cells st.storage.records)) t l)

    pub sums_are : share_all p marks (replicate 16 0) ≡ fill 16 (bill p st)
    sums_are =
        let n : length (share_all p marks (replicate 16 0)) ≡ 16 = length_all p marks (replicate 16 0) in
        alike _ _ (n ∙ sym (length_fill 16 (bill p st))) (λ t l. sum_at t (omega (arith, n, l)))
