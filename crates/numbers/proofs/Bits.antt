-- The lowest set bit of a mask of sixteen.
use Rattle.std.proofs.Common.{◌≡◌, ℕ, ◌*◌, ◌%◌, ◌^◌, ◌≤◌, ◌<◌, arith}
use Rattle.std.proofs.Math.Pow.{pow_pos}
use Rattle.std.specs.Int.Count.{ones, count_trailing_zeros}
use Rattle.lists.proofs.Masks.{First, trailing_first, first_le, first_lt, first_ones, one_shl}

module _ (left : ℕ) (some : left ≡ 0 → ⊥) (small : left < 65536) where
  pub lowest : First left (count_trailing_zeros 32 left)
  lowest = trailing_first 32 left (omega arith) (omega arith)

  pub bit_place : count_trailing_zeros 32 left < 16
  bit_place = first_lt 16 lowest small

  -- its value, as the code shifts it
  pub bit_value : 1 * 2 ^ count_trailing_zeros 32 left % 2 ^ 32 ≡ 2 ^ count_trailing_zeros 32 left
  bit_value = one_shl (count_trailing_zeros 32 left) 32 (omega (arith, bit_place))

  pub bit_inside : 1 * 2 ^ count_trailing_zeros 32 left % 2 ^ 32 ≤ left
  bit_inside = omega (arith, bit_value, first_le lowest)

  pub bit_some : 0 < 1 * 2 ^ count_trailing_zeros 32 left % 2 ^ 32
  bit_some = omega (arith, bit_value, pow_pos (count_trailing_zeros 32 left))

  pub bit_counts : 0 < ones left
  bit_counts = omega (arith, first_ones lowest)

pub ruleset bits = (bit_place, bit_inside, bit_some, bit_counts)
