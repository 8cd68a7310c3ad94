-- The first element that passes a test, and a search's answer as a number.
use Rattle.std.specs.Prelude.{ℕ, Bool, cond, List, [], ◌∷◌, ltb}
use Rattle.std.proofs.Math.Option.{Option, none, some}

unfoldable pub first_that {ℓ} : {A : Type ℓ} → (A → Bool) → List A → Option A
first_that f [] = none
first_that f (x ∷ xs) = let r = first_that f xs in cond (f x) (some x) r

-- a search's answer: a place, or the length where there is none
abbrev pub as_option : ℕ → ℕ → Option ℕ
as_option n r = cond (ltb r n) (some r) none
