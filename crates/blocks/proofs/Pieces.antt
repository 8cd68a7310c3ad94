-- Tests in pieces, and byte by byte with a count.
use Rattle.std.proofs.Common.{◌≡◌, refl, sym, ap, ap₂, ◌∙◌, Bool, true, false, cond, not, ◌&&◌, List, [], ◌∷◌, ℕ, zero, suc, ◌+◌, ◌*◌, ◌/◌, ◌%◌, ◌≤◌, ◌<◌, length, get_or, take, drop, replicate, eqb, length-drop, take-append-drop, arith, add-zero}
use Rattle.std.proofs.Math.Nat.{suc-mul, zero-mul}
use Rattle.std.proofs.Math.Seq.{length-take-le, drop-drop}
use Rattle.std.proofs.lemmas.List.{take-replicate}
use Rattle.std.specs.List.{list_all, zip}
use Rattle.std.specs.Simd.{first_chunks}
use mir.Val.{bool_byte}
use borrow.Author.Tests.{ne_eqb}
use Rattle.lists.specs.Lists.{every, same_numbers}
use Rattle.lists.proofs.Tests.{cond_self}
use Rattle.lists.proofs.Slices.{drop_next, drop_end, take_next}
use Rattle.lists.proofs.Appends.{every_append, same_append}

-- ---- a count that is 0 just where a test holds so far

module _ (c n : ℕ) where
  pub count_more : (p q : Bool) → eqb c 0 ≡ p → n ≡ bool_byte (not q) → eqb (c + n) 0 ≡ cond p q false
  count_more true true e f = rw (f, add-zero) e
  count_more false true e f = rw (f, add-zero) e
  count_more true false e f = rw f (ne_eqb (c + 1) 0 (λ z. omega arith))
  count_more false false e f = rw f (ne_eqb (c + 1) 0 (λ z. omega arith))

  pub one_more : (q : Bool) → n ≡ bool_byte (not q) → n ≤ 1
  one_more true f = omega arith
  one_more false f = omega arith

pub same_next : (a b : List ℕ) (i : ℕ) → i < length a → i < length b
    → same_numbers (take (i + 1) a) (take (i + 1) b) ≡ cond (same_numbers (take i a) (take i b)) (eqb (get_or a i 0) (get_or b i 0)) false
same_next a b i h k =
    let n : length (take i a) ≡ length (take i b) = length-take-le i a (omega arith) ∙ sym (length-take-le i b (omega arith)) in
    ap₂ same_numbers (take_next a i 0 h) (take_next b i 0 k)
    ∙ same_append (take i a) (get_or a i 0 ∷ []) (take i b) (get_or b i 0 ∷ []) n
    ∙ ap (λ (t : Bool). cond (same_numbers (take i a) (take i b)) t false) (unfold same_numbers in cond_self (eqb (get_or a i 0) (get_or b i 0)))

-- the first bytes settle it
pub first_other : (a b : List ℕ) → 0 < length a → 0 < length b → (get_or a 0 0 ≡ get_or b 0 0 → ⊥) → eqb (get_or a 0 0) (get_or b 0 0) ≡ same_numbers a b
unfolding same_numbers
first_other [] b h k e = absurd (omega arith)
first_other (x ∷ a) [] h k e = absurd (omega arith)
first_other (x ∷ a) (y ∷ b) h k e = rw (ne_eqb x y e)

pub same_first : (a b : List ℕ) (at n : ℕ) → at < length a → at < length b → 0 < n → (get_or a at 0 ≡ get_or b at 0 → ⊥) → same_numbers (take n (drop at a)) (take n (drop at b)) ≡ false
unfolding same_numbers
same_first a b at zero h k z e = absurd (omega arith)
same_first a b at (suc n) h k z e = rw (drop_next a at 0 h, drop_next b at 0 k, ne_eqb (get_or a at 0) (get_or b at 0) e)

-- ---- all the same byte, as a row of it is the same

pub same_row : (v : ℕ) (xs : List ℕ) → same_numbers xs (replicate (length xs) v) ≡ every (λ x. eqb x v) xs
unfolding same_numbers every
same_row v [] = refl
same_row v (x ∷ xs) = rw (same_row v xs)

pub same_part : (v n : ℕ) (xs : List ℕ) → length xs ≤ n → same_numbers xs (take (length xs) (replicate n v)) ≡ every (λ x. eqb x v) xs
same_part v n xs h = rw (take-replicate (length xs) n v h) (same_row v xs)

-- ---- in pieces, and what is left

both : (p l e r : Bool) → cond l e false ≡ r → cond (p && l) e false ≡ cond p r false
both true l e r h = h
both false l e r h = refl

module _ (n : ℕ) where
  past : (k : ℕ) (xs : List ℕ) → drop (suc k * n) xs ≡ drop (k * n) (drop n xs)
  past k xs = ap (λ (m : ℕ). drop m xs) (let e = suc-mul k n in omega (arith, e)) ∙ sym (drop-drop (k * n) n xs)

  room : (k : ℕ) (xs : List ℕ) → suc k * n ≤ length xs → k * n ≤ length (drop n xs)
  room k xs h = let e = suc-mul k n in omega (arith, e, length-drop n xs)

  front : (k : ℕ) (xs : List ℕ) → suc k * n ≤ length xs → length (take n xs) ≡ n
  front k xs h = let e = suc-mul k n in length-take-le n xs (omega (arith, e))

  pub filled_pieces : (v k : ℕ) (xs : List ℕ) → k * n ≤ length xs
      → cond (list_all (λ p. same_numbers p (replicate n v)) (first_chunks n k xs)) (every (λ x. eqb x v) (drop (k * n) xs)) false ≡ every (λ x. eqb x v) xs
  filled_pieces v zero xs h = rw (zero-mul n) refl
  filled_pieces v (suc k) xs h =
      let f : Bool = every (λ x. eqb x v) (take n xs) in
      let one : same_numbers (take n xs) (replicate n v) ≡ f = rw (front k xs h) at (same_row v (take n xs)) in
      rw (past k xs, one) (both f _ _ _ (filled_pieces v k (drop n xs) (room k xs h)))
      ∙ sym (ap (every (λ x. eqb x v)) (sym (take-append-drop n xs)) ∙ every_append (λ x. eqb x v) (take n xs) (drop n xs))

  pub same_pieces : (k : ℕ) (a b : List ℕ) → k * n ≤ length a → k * n ≤ length b
      → cond (list_all (λ p. same_numbers p.0 p.1) (zip (first_chunks n k a) (first_chunks n k b))) (same_numbers (drop (k * n) a) (drop (k * n) b)) false ≡ same_numbers a b
  same_pieces zero a b h h' = rw (zero-mul n) refl
  same_pieces (suc k) a b h h' =
      rw (past k a, past k b) (both (same_numbers (take n a) (take n b)) _ _ _ (same_pieces k (drop n a) (drop n b) (room k a h) (room k b h')))
      ∙ sym (ap₂ same_numbers (sym (take-append-drop n a)) (sym (take-append-drop n b))
      ∙ same_append (take n a) (drop n a) (take n b) (drop n b) (front k a h ∙ sym (front k b h')))

  module _ (pos : 0 < n) (xs : List ℕ) (pieces : List (List ℕ)) (ep : pieces ≡ first_chunks n (length xs / n) xs) where
    pub filled_all : (v : ℕ) (rest : List ℕ) (p : Bool) → rest ≡ drop (length xs / n * n) xs → p ≡ list_all (λ q. same_numbers q (replicate n v)) pieces
        → cond p (every (λ x. eqb x v) rest) false ≡ every (λ x. eqb x v) xs
    filled_all v rest p er e = rw (e, ep, er) (filled_pieces v (length xs / n) xs (omega arith))

    pub same_all : (ys : List ℕ) (others : List (List ℕ)) (rest end : List ℕ) (p : Bool) → length xs ≡ length ys → others ≡ first_chunks n (length ys / n) ys
        → rest ≡ drop (length xs / n * n) xs → end ≡ drop (length ys / n * n) ys → p ≡ list_all (λ q. same_numbers q.0 q.1) (zip pieces others)
        → cond p (same_numbers rest end) false ≡ same_numbers xs ys
    same_all ys others rest end p l eo er ee e = rw (e, ep, eo, er, ee, ← l) (same_pieces (length xs / n) xs ys (omega arith) (omega (arith, l)))

-- nothing is left
pub whole : (n : ℕ) (xs : List ℕ) → length xs % n ≡ 0 → 0 < n → drop (length xs / n * n) xs ≡ []
whole n xs e p = drop_end xs (length xs / n * n) (omega arith)
