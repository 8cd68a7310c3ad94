-- The number whose bits, lowest first, say which elements of a list pass a test.
use Rattle.std.specs.Prelude.{ℕ, ◌+◌, ◌*◌, Bool, cond, List, [], ◌∷◌}

module _ {ℓ} {A : Type ℓ} where
  unfoldable pub mask_of : (A → Bool) → List A → ℕ
  mask_of f [] = 0
  mask_of f (x ∷ xs) = cond (f x) 1 0 + 2 * mask_of f xs
