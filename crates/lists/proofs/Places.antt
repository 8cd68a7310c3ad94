-- Where row k of rows of w elements lies. Products of two variables: `omega` is linear and takes each product as it stands, so these are its facts.
use mathlib.Core.Path.{◌≡◌}
use mathlib.Core.Logic.{◌↔◌}
use Prim.Native.Nat.{ℕ, suc, ◌+◌, ◌*◌, ◌/◌, ◌≤◌, ◌<◌}
use native.Mathlib.Nat.{suc-mul, mul_comm, mul-le-mul_right, le_of_mul-le-mul_right, le_of_suc-le-suc, le-div_iff_mul-le, div-lt_iff_lt-mul, div-le_of_le-mul}
use native.Mathlib.Numerals.{add-one}
use native.Mathlib.Omega.{arith}

module _ (k l w : ℕ) where
  -- row k, one of l, is within them
  pub row_room : k < l → k * w + w ≤ l * w
  row_room h = let p : suc k * w ≤ l * w = mul-le-mul_right w h in omega (arith, suc-mul k w)

  -- a row that is within l rows is one of them
  pub row_below : 0 < w → k * w + w ≤ l * w → k < l
  row_below z h = let p : suc k * w ≤ l * w = omega (arith, suc-mul k w) in le_of_mul-le-mul_right p z

-- how many whole rows of w there are in l elements
module _ (l w : ℕ) (some : 0 < w) where
  pub row_in : (k : ℕ) → k < l / w → k * w + w ≤ l
  row_in k h = let e : (suc k ≤ l / w) ↔ (suc k * w ≤ l) = le-div_iff_mul-le some in omega (arith, e.0 h, suc-mul k w)

  pub in_row : (k : ℕ) → k * w + w ≤ l → k < l / w
  in_row k h = let e : (suc k ≤ l / w) ↔ (suc k * w ≤ l) = le-div_iff_mul-le some in e.1 (omega (arith, suc-mul k w))

  pub rows_few : (c : ℕ) → l ≤ c * w → l / w ≤ c
  rows_few c h = div-le_of_le-mul w (omega (arith, mul_comm w c))

  pub rows_short : (k : ℕ) → l < k * w + w → l / w ≤ k
  rows_short k h = le_of_suc-le-suc ((div-lt_iff_lt-mul some).1 (omega (arith, suc-mul k w)))

-- the next row begins where row k ends
pub row_next : (k w : ℕ) → (k + 1) * w ≡ k * w + w
row_next k w = rw (add-one k) (suc-mul k w)
