-- What the second pass adds up: every till's sum is the total of its shares, over the positions as over the occupied cells.
use mathlib.Core.Path.{◌≡◌, refl, sym, ap, ap₂, ◌∙◌}
use mathlib.Core.Bool.{Bool, true, false}
use mathlib.Core.List.{List, [], ◌∷◌, ◌++◌, map}
use Prim.Native.Nat.{ℕ, zero, suc, ◌+◌, ◌*◌, ◌-◌, ◌/◌, ◌%◌, ◌≤◌, ◌<◌}
use native.Mathlib.Nat.{zero-add, add-zero, suc-add, add-suc}
use native.Mathlib.Omega.{arith}
use lib.Count.{ones}
use lib.ListN.{length, get_or}
use Rattle.lists.specs.Lists.{count, total, counted}
use Rattle.lists.specs.Masks.{mask_of}
use Rattle.lists.specs.Rows.{joined, fill}
use Rattle.lists.specs.Each.{Each}
use Rattle.lists.specs.Walk.{walk}
use Rattle.lists.proofs.Masks.{mask_half, mask_odd, ones_mask}
use Rattle.lists.proofs.Walks.{length_walk}
use Rattle.model.specs.State.{Position, null_position, blank_position, held, removed, Segment, State}
use Rattle.model.specs.Records.{cells_of, named_cells}
use Rattle.bill.specs.Bill.{pays, shares, divided, added, bill_for}
use Rattle.bill_sums.specs.Marks.{out_part, next_part, share_out, shared, share_all}
use Rattle.bill_sums.proofs.Passes.{share_none, zeros_at}

-- the tills that pay, as bits of a mark
abbrev pub bits : List Bool → ℕ
bits pay = mask_of (λ b. b) pay

-- ---- one mark

share_at : (q r : ℕ) (pay : List Bool) (sums : List ℕ) (t : ℕ) → t < length sums → get_or (share_out q (bits pay) r sums) t 0 ≡ get_or sums t 0 + get_or (shares q r pay) t 0
unfolding walk shares mask_of
share_at q r pay [] t l = absurd (omega arith)
share_at q r [] (x ∷ xs) t l = sym (ap (λ (ys : List ℕ). get_or ys t 0) (share_none q r (x ∷ xs))) ∙ sym (add-zero (get_or (x ∷ xs) t 0))
share_at q r (false ∷ pay) (x ∷ xs) zero l = rw (mask_odd (λ (b : Bool). b) false pay)
share_at q r (false ∷ pay) (x ∷ xs) (suc t) l = let e : r - 0 ≡ r = omega arith in rw (mask_odd (λ (b : Bool). b) false pay, mask_half (λ (b : Bool). b) false pay, e) (share_at q r pay xs t (omega arith))
share_at q zero (true ∷ pay) (x ∷ xs) zero l = rw (mask_odd (λ (b : Bool). b) true pay)
share_at q zero (true ∷ pay) (x ∷ xs) (suc t) l = rw (mask_odd (λ (b : Bool). b) true pay, mask_half (λ (b : Bool). b) true pay) (share_at q 0 pay xs t (omega arith))
share_at q (suc r) (true ∷ pay) (x ∷ xs) zero l = rw (mask_odd (λ (b : Bool). b) true pay) (omega arith)
share_at q (suc r) (true ∷ pay) (x ∷ xs) (suc t) l = let e : suc r - 1 ≡ r = omega arith in rw (mask_odd (λ (b : Bool). b) true pay, mask_half (λ (b : Bool). b) true pay, e) (share_at q r pay xs t (omega arith))

shared_at : (p : ℕ) (pay : List Bool) (sums : List ℕ) (t : ℕ) → t < length sums → get_or (shared p (bits pay) sums) t 0 ≡ get_or sums t 0 + get_or (divided p pay) t 0
unfolding divided
shared_at p pay sums t l = rw (ones_mask (λ (b : Bool). b) pay) (share_at (p / count (λ (b : Bool). b) pay) (p % count (λ (b : Bool). b) pay) pay sums t l)

-- ---- all marks

-- the numbers of the positions
abbrev pub numbers : ℕ → ℕ → List ℕ
numbers a n = counted (λ c. c) a n

module _ (p t : ℕ) (pay : ℕ → List Bool) where
  pub all_at : (marks sums : List ℕ) (a : ℕ) → t < length sums → ((j : ℕ) → j < length marks → get_or marks j 0 ≡ bits (pay (a + j)))
      → get_or (share_all p marks sums) t 0 ≡ get_or sums t 0 + total (λ j. get_or (divided p (pay j)) t 0) (numbers a (length marks))
  unfolding share_all total counted
  all_at [] sums a l h = sym (add-zero (get_or sums t 0))
  all_at (m ∷ ms) sums a l h =
      let e : m ≡ bits (pay a) = h 0 (omega arith) ∙ ap (λ (n : ℕ). bits (pay n)) (add-zero a) in
      let long : length (shared p m sums) ≡ length sums = length_walk (out_part (p / ones m)) next_part m (p % ones m) sums in
      let rest = all_at ms (shared p m sums) (suc a) (omega (arith, long)) (λ j g. h (suc j) (omega (arith, g)) ∙ ap (λ (n : ℕ). bits (pay n)) (add-suc a j ∙ sym (suc-add a j))) in
      let one : get_or (shared p m sums) t 0 ≡ get_or sums t 0 + get_or (divided p (pay a)) t 0 = ap (λ (n : ℕ). get_or (shared p n sums) t 0) e ∙ shared_at p (pay a) sums t l in
      omega (arith, rest, one)

pub length_all : (p : ℕ) (marks sums : List ℕ) → length (share_all p marks sums) ≡ length sums
unfolding share_all
length_all p [] sums = refl
length_all p (m ∷ ms) sums = length_all p ms (shared p m sums) ∙ length_walk (out_part (p / ones m)) next_part m (p % ones m) sums

-- ---- positions and cells

-- what a position's cell is worth
abbrev pub worth : (ℕ → ℕ) → Position → ℕ
worth g null_position = 0
worth g blank_position = 0
worth g (held c n) = g c
worth g removed = 0

total_split : (f : ℕ → ℕ) (a m n : ℕ) → total f (numbers a (m + n)) ≡ total f (numbers a m) + total f (numbers (a + m) n)
unfolding total counted
total_split f a zero n = ap₂ (λ (x y : ℕ). total f (numbers y x)) (let e : 0 + n ≡ n = omega arith in e) (sym (add-zero a)) ∙ sym (zero-add (total f (numbers (a + 0) n)))
total_split f a (suc m) n =
    let e : suc m + n ≡ suc (m + n) = omega arith in
    ap (λ (x : ℕ). total f (numbers a x)) e ∙ omega (arith, total_split f (suc a) m n, ap (λ (x : ℕ). total f (numbers x n)) (suc-add a m ∙ sym (add-suc a m)))

module _ (f g : ℕ → ℕ) where
  segment_total : (a m : ℕ) (seg : Segment) → length seg ≤ m → ((i : ℕ) → i < m → f (a + i) ≡ worth g (get_or seg i null_position)) → total f (numbers a m) ≡ total g (cells_of seg)
  unfolding total counted cells_of
  segment_total a zero [] l h = refl
  segment_total a zero (x ∷ seg) l h = absurd (omega arith)
  segment_total a (suc m) [] l h =
      omega (arith, ap f (add-zero a), h 0 (omega arith), segment_total (suc a) m [] (omega arith) (λ i b. ap f (suc-add a i ∙ sym (add-suc a i)) ∙ h (suc i) (omega arith)))
  segment_total a (suc m) (x ∷ seg) l h =
      go x (h 0 (omega arith)) (segment_total (suc a) m seg (omega (arith, l)) (λ i b. ap f (suc-add a i ∙ sym (add-suc a i)) ∙ h (suc i) (omega arith)))
    where
      go : (x : Position) → f (a + 0) ≡ worth g x → total f (numbers (suc a) m) ≡ total g (cells_of seg) → f a + total f (numbers (suc a) m) ≡ total g (cells_of (x ∷ seg))
      go null_position e r = omega (arith, e, r, ap f (add-zero a))
      go blank_position e r = omega (arith, e, r, ap f (add-zero a))
      go (held c n) e r = omega (arith, e, r, ap f (add-zero a))
      go removed e r = omega (arith, e, r, ap f (add-zero a))

  total_both : (xs ys : List ℕ) → total g (xs ++ ys) ≡ total g xs + total g ys
  unfolding total
  total_both [] ys = sym (zero-add (total g ys))
  total_both (x ∷ xs) ys = omega (arith, total_both xs ys)

  pub records_total : (a m : ℕ) (segs : List Segment) → length segs ≤ m → Each (λ (s : Segment). length s ≤ 16) segs
      → ((k i : ℕ) → k < m → i < 16 → f (a + (k * 16 + i)) ≡ worth g (get_or (get_or segs k []) i null_position)) → total f (numbers a (m * 16)) ≡ total g (named_cells segs)
  unfolding total named_cells joined counted cells_of
  records_total a zero [] l e h = refl
  records_total a zero (s ∷ segs) l e h = absurd (omega arith)
  records_total a (suc m) [] l e h =
      let q : suc m * 16 ≡ 16 + m * 16 = omega arith in
      ap (λ (n : ℕ). total f (numbers a n)) q ∙ total_split f a 16 (m * 16)
      ∙ ap₂ (λ (x y : ℕ). x + y) (segment_total a 16 [] (omega arith) (λ i b. ap (λ (n : ℕ). f (a + n)) (let z : i ≡ 0 * 16 + i = omega arith in z) ∙ h 0 i (omega arith) b))
      (records_total (a + 16) m [] (omega arith) tt (λ k i b d. ap f (let z : a + 16 + (k * 16 + i) ≡ a + (suc k * 16 + i) = omega arith in z) ∙ h (suc k) i (omega arith) d))
      ∙ add-zero (total g (cells_of []))
  records_total a (suc m) (s ∷ segs) l e h =
      let q : suc m * 16 ≡ 16 + m * 16 = omega arith in
      ap (λ (n : ℕ). total f (numbers a n)) q ∙ total_split f a 16 (m * 16)
      ∙ ap₂ (λ (x y : ℕ). x + y) (segment_total a 16 s e.0 (λ i b. ap (λ (n : ℕ). f (a + n)) (let z : i ≡ 0 * 16 + i = omega arith in z) ∙ h 0 i (omega arith) b))
      (records_total (a + 16) m segs (omega (arith, l)) e.1 (λ k i b d. ap f (let z : a + 16 + (k * 16 + i) ≡ a + (suc k * 16 + i) = omega arith in z) ∙ h (suc k) i (omega arith) d))
      ∙ sym (total_both (cells_of s) (named_cells segs))

-- ---- the definition

added_at : (xs ys : List ℕ) (t : ℕ) → get_or (added xs ys) t 0 ≡ get_or xs t 0 + get_or ys t 0
unfolding added
added_at [] ys t = omega arith
added_at (x ∷ xs) [] t = omega arith
added_at (x ∷ xs) (y ∷ ys) zero = refl
added_at (x ∷ xs) (y ∷ ys) (suc t) = added_at xs ys t

pub bill_at : (p : ℕ) (st : State) (t : ℕ) (cells : List ℕ) → get_or (bill_for p st cells) t 0 ≡ total (λ c. get_or (divided p (map (pays st.storage c) st.tills)) t 0) cells
unfolding bill_for total
bill_at p st t [] = zeros_at (length st.tills) t
bill_at p st t (c ∷ cells) = added_at (divided p (map (pays st.storage c) st.tills)) (bill_for p st cells) t ∙ omega (arith, bill_at p st t cells)

pub fill_at : (n : ℕ) (xs : List ℕ) (t : ℕ) → t < n → get_or (fill n xs) t 0 ≡ get_or xs t 0
unfolding fill
fill_at zero xs t l = absurd (omega arith)
fill_at (suc n) [] zero l = refl
fill_at (suc n) [] (suc t) l = fill_at n [] t (omega arith)
fill_at (suc n) (x ∷ xs) zero l = refl
fill_at (suc n) (x ∷ xs) (suc t) l = fill_at n xs t (omega arith)

-- lists of one length that are read alike
pub alike : (xs ys : List ℕ) → length xs ≡ length ys → ((t : ℕ) → t < length xs → get_or xs t 0 ≡ get_or ys t 0) → xs ≡ ys
alike [] [] e h = refl
alike [] (y ∷ ys) e h = absurd (omega arith)
alike (x ∷ xs) [] e h = absurd (omega arith)
alike (x ∷ xs) (y ∷ ys) e h = ap₂ (λ (z : ℕ) (zs : List ℕ). z ∷ zs) (h 0 (omega arith)) (alike xs ys (omega arith) (λ t l. h (suc t) (omega arith)))
