-- Bytes and words that differ from what they should be, counted.
use Rattle.std.specs.Prelude.{◌≡◌, Bool, true, false, List, [], ◌∷◌, ℕ, ◌+◌, ◌-◌, ◌≤◌, eqb, length, take}

unfoldable pub one_if_not : Bool → ℕ
one_if_not true = 0
one_if_not false = 1

-- the first of the bytes is not this one, or there is none
unfoldable pub wrong_head : ℕ → List ℕ → ℕ
wrong_head x [] = 1
wrong_head x (y ∷ ys) = one_if_not (eqb y x)

unfoldable pub tail : List ℕ → List ℕ
tail [] = []
tail (y ∷ ys) = ys

-- at how many of its places the first list differs from the second, which may be longer
unfoldable pub differing : List ℕ → List ℕ → ℕ
differing [] ys = 0
differing (x ∷ xs) ys = wrong_head x ys + differing xs (tail ys)

-- at how many places two lists differ; a place that one of them has alone counts too
unfoldable pub wrong_bytes : List ℕ → List ℕ → ℕ
wrong_bytes xs ys = differing xs ys + (length ys - length xs)

-- how many are not this byte
unfoldable pub others : ℕ → List ℕ → ℕ
others x [] = 0
others x (y ∷ ys) = one_if_not (eqb y x) + others x ys

-- the count, and that none wrong means the same bytes
pub record Compared (a b : List ℕ) (r : ℕ) : Type 0 where
  pub count : r ≡ wrong_bytes a b
  pub same : r ≡ 0 → a ≡ b

-- the count, and that none means that the second begins with the first
pub record FirstCompared (a b : List ℕ) (r : ℕ) : Type 0 where
  pub count : r ≡ differing a b
  pub few : r ≤ length a
  pub same : r ≡ 0 → take (length a) b ≡ a
