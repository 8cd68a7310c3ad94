-- What a checker's answer tells, and the ends of parts.
use mathlib.Core.Path.{◌≡◌, refl, sym, ap, ◌∙◌, subst}
use mathlib.Core.Bool.{Bool, true, false, not}
use mathlib.Core.List.{List, [], ◌∷◌, map}
use Prim.Native.Nat.{ℕ, zero, suc, ◌+◌, ◌-◌, ◌≤◌}
use native.Mathlib.Omega.{arith}
use lib.ListN.{length, take, drop, length-drop}
use lib.Dec.{eqb}
use lib.Seq.{length-take-le}
use borrow.Author.Tests.{not-true, not-false}
use Rattle.lists.specs.Lists.{every, all_zero}
use Rattle.lists.specs.Decides.{Decides}
use Rattle.lists.proofs.Checkers.{clash}
use Rattle.lists.proofs.Slices.{every_end}

-- ---- Decides

-- a fact about x, where x is y
pub decides_at : {A : Type 0} {r : Bool} (P : A → Type 0) {x y : A} → x ≡ y → Decides r (P x) → Decides r (P y)
decides_at {A} {r} P e t = subst (λ (z : A). Decides r (P z)) e t

-- a call's answer that is a test's, negated, taken and left
pub answer_no : {r b : Bool} → r ≡ b → not r ≡ true → b ≡ true → ⊥
answer_no {r} e h g = clash (sym e ∙ not-true r h) g

pub answer_yes : {r b : Bool} → r ≡ b → not r ≡ false → b ≡ true
answer_yes {r} e h = sym e ∙ not-false r h

-- ---- parts

-- n elements from a on, lent by their end
pub part_is {ℓ} : {A : Type ℓ} (xs : List A) (a n : ℕ) → take (a + n - a) (drop a xs) ≡ take n (drop a xs)
part_is xs a n = let e : a + n - a ≡ n = omega arith in rw e

pub part_long {ℓ} : {A : Type ℓ} (xs : List A) (a n : ℕ) → a + n ≤ length xs → length (take (a + n - a) (drop a xs)) ≡ n
part_long xs a n h = rw (part_is xs a n) (length-take-le n (drop a xs) (omega (arith, length-drop a xs)))

-- cut, then its first f taken off
-- as many as there are
pub take_length {ℓ} : {A : Type ℓ} (n : ℕ) (xs : List A) → take (length (take n xs)) xs ≡ take n xs
take_length zero xs = refl
take_length (suc n) [] = refl
take_length (suc n) (x ∷ xs) = ap (λ l. x ∷ l) (take_length n xs)

-- ---- every

pub every_map {ℓ κ} : {A : Type ℓ} {B : Type κ} (f : B → Bool) (g : A → B) (xs : List A) → every f (map g xs) ≡ every (λ x. f (g x)) xs
unfolding every
every_map f g [] = refl
every_map f g (x ∷ xs) = rw (every_map f g xs)

pub zero_end : (l : List ℕ) (i : ℕ) → length l ≤ i → all_zero (drop i l) ≡ true
unfolding all_zero
zero_end l i h = every_end (λ x. eqb x 0) l i h
