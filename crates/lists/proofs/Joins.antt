-- Rows of joined lists.
use mathlib.Core.Path.{◌≡◌, sym, ap, ◌∙◌}
use mathlib.Core.List.{List, [], ◌++◌}
use Prim.Native.Nat.{ℕ, ◌*◌, ◌<◌}
use lib.ListN.{length, get_or, set, take, drop}
use Rattle.lists.specs.Each.{Each}
use Rattle.lists.specs.Rows.{joined}
use Rattle.lists.proofs.Rows.{joined_rows, row_rows, paste_rows}

-- ---- joined, of rows of one width

module _ {ℓ} {A : Type ℓ} (k : ℕ) (xs : List (List A)) (w : Each (λ (x : List A). length x ≡ k) xs) (i : ℕ) where
  pub row_joined : i < length xs → take k (drop (i * k) (joined xs)) ≡ get_or xs i []
  row_joined h = ap (λ (l : List A). take k (drop (i * k) l)) (joined_rows xs) ∙ row_rows (λ x. x) k [] xs w i h

  pub paste_joined : (x : List A) → i < length xs → take (i * k) (joined xs) ++ (x ++ drop k (drop (i * k) (joined xs))) ≡ joined (set xs i x)
  paste_joined x h =
      ap (λ (l : List A). take (i * k) l ++ (x ++ drop k (drop (i * k) l))) (joined_rows xs) ∙ paste_rows (λ x. x) k xs w i x h ∙ sym (joined_rows (set xs i x))
