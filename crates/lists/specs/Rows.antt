-- Things laid out one after the other in rows of one width, and a list cut into rows again.
use Rattle.std.specs.Prelude.{ℕ, zero, suc, ◌/◌, List, [], ◌∷◌, ◌++◌, map, length, take, drop}

module _ {ℓ} {A : Type ℓ} where
  -- the lists one after the other
  unfoldable pub joined : List (List A) → List A
  joined [] = []
  joined (x ∷ xs) = x ++ joined xs

  -- the first `n` parts of `k` elements each
  unfoldable pub parts : ℕ → ℕ → List A → List (List A)
  parts k zero xs = []
  parts k (suc n) xs = take k xs ∷ parts k n (drop k xs)

  -- the parts of those lengths, one after the other
  unfoldable pub parts_by : List ℕ → List A → List (List A)
  parts_by [] xs = []
  parts_by (n ∷ ns) xs = take n xs ∷ parts_by ns (drop n xs)

  -- as many parts of `k` as there are; what is left over is dropped
  unfoldable pub chunks : ℕ → List A → List (List A)
  chunks k xs = parts k (length xs / k) xs

-- the words of each thing, one after the other
abbrev pub rows {ℓ κ} : {A : Type ℓ} {B : Type κ} → (A → List B) → List A → List B
rows words xs = joined (map words xs)

-- a list cut, or filled up with zeros, to exactly `n` numbers
unfoldable pub fill : ℕ → List ℕ → List ℕ
fill zero xs = []
fill (suc n) [] = 0 ∷ fill n []
fill (suc n) (x ∷ xs) = x ∷ fill n xs
