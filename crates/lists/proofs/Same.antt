-- Laws of `same_numbers` and `all_zero`.
use mathlib.Core.Path.{◌≡◌, refl, sym, ap₂}
use mathlib.Core.Bool.{true, false≢true}
use mathlib.Core.List.{List, [], ◌∷◌}
use Prim.Native.Nat.{ℕ, zero, suc}
use native.Mathlib.Nat.{suc-ne-zero, suc_inj}
use lib.ListN.{length, replicate}
use lib.Dec.{eqb}
use borrow.Author.Tests.{eqb-true, eq-eqb}
use Rattle.lists.specs.Lists.{every, same_numbers, all_zero}
use Rattle.lists.proofs.Tests.{cond_true, every_head, every_tail}

-- ---- same_numbers

pub same_refl : (xs : List ℕ) → same_numbers xs xs ≡ true
unfolding same_numbers
same_refl [] = refl
same_refl (x ∷ xs) = rw (eq-eqb x x refl) (same_refl xs)

pub same_eq : (xs ys : List ℕ) → same_numbers xs ys ≡ true → xs ≡ ys
unfolding same_numbers
same_eq [] [] h = refl
same_eq [] (y ∷ ys) h = absurd (false≢true h)
same_eq (x ∷ xs) [] h = absurd (false≢true h)
same_eq (x ∷ xs) (y ∷ ys) h =
    let (a, b) = cond_true (eqb x y) (same_numbers xs ys) h in ap₂ ◌∷◌ (eqb-true x y a) (same_eq xs ys b)

-- ---- all_zero

pub zeros_are : (xs : List ℕ) → all_zero xs ≡ true → xs ≡ replicate (length xs) 0
unfolding all_zero
zeros_are [] h = refl
zeros_are (x ∷ xs) h = ap₂ ◌∷◌ (eqb-true x 0 (every_head (λ y. eqb y 0) x xs h)) (zeros_are xs (every_tail (λ y. eqb y 0) x xs h))

-- a list all of one number
pub all_eq : (v : ℕ) (b : List ℕ) (n : ℕ) → every (λ x. eqb x v) b ≡ true → length b ≡ n → replicate n v ≡ b
unfolding every
all_eq v [] zero h e = refl
all_eq v [] (suc n) h e = absurd (suc-ne-zero n (sym e))
all_eq v (x ∷ b) zero h e = absurd (suc-ne-zero (length b) e)
all_eq v (x ∷ b) (suc n) h e =
    let (p, q) = cond_true (eqb x v) (every (λ y. eqb y v) b) h in ap₂ ◌∷◌ (sym (eqb-true x v p)) (all_eq v b n q (suc_inj e))

pub zeros_eq : (b : List ℕ) (n : ℕ) → all_zero b ≡ true → length b ≡ n → replicate n 0 ≡ b
unfolding all_zero
zeros_eq b n h e = all_eq 0 b n h e

pub zeros_zero : (n : ℕ) → all_zero (replicate n 0) ≡ true
unfolding all_zero every
zeros_zero zero = refl
zeros_zero (suc n) = zeros_zero n
