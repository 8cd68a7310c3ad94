-- A list changed element by element by another that runs beside it.
use mathlib.Core.List.{List, [], ◌∷◌}

module _ {ℓ κ} {A : Type ℓ} {B : Type κ} where
  -- `f` of each element and the one beside it; what has none beside it stays
  abbrev pub over : (A → B → A) → List A → List B → List A
  over f [] ts = []
  over f (w ∷ ws) [] = w ∷ ws
  over f (w ∷ ws) (t ∷ ts) = f w t ∷ over f ws ts
