-- More laws of a number's bits, n / 2 ^ i % 2: which are set, and how large the number is.
use mathlib.Core.Path.{◌≡◌, refl, sym, ap, ◌∙◌}
use mathlib.Core.Bool.{Bool, true, false}
use Prim.Native.Nat.{ℕ, zero, suc, ◌+◌, ◌/◌, ◌%◌, ◌^◌, ◌≤◌, ◌<◌}
use native.Mathlib.Nat.{pow-suc, one-mul}
use native.Mathlib.Omega.{arith}
use lib.Pow.{pow_pos, pow_mono, shr_le, shr_mono, shl-shr, shr-shr}
use lib.Count.{count_trailing_zeros}
use lib.Dec.{leb, ltb}
use borrow.Author.Tests.{leb-true, leb-false, ltb-true, ltb-false}
use Rattle.lists.proofs.Masks.{First, here, later, bit_zero, half_bit, bit_le, trailing_first, first_bit}

-- the bits of a number shifted right
pub shifted_bit : (m k j : ℕ) → m / 2 ^ k / 2 ^ j % 2 ≡ m / 2 ^ (k + j) % 2
shifted_bit m k j = ap (λ (x : ℕ). x % 2) (shr-shr m k j)

-- no bit below the first is set
pub first_clear : {m t : ℕ} → First m t → (j : ℕ) → j < t → m / 2 ^ j % 2 ≡ 0
first_clear (here e) j h = absurd (omega arith)
first_clear (later {m} {t} e f) zero h = bit_zero m ∙ e
first_clear (later {m} {t} e f) (suc j) h = sym (half_bit m j) ∙ first_clear f j (omega arith)

-- a bit of a number of n bits
pub bit_below : (m n t : ℕ) → m < 2 ^ n → m / 2 ^ t % 2 ≡ 1 → t < n
bit_below m n t l e = go (leb n t) refl
  where
    go : (b : Bool) → leb n t ≡ b → t < n
    go true h = absurd (omega (arith, bit_le m t e, pow_mono (leb-true n t h)))
    go false h = leb-false n t h

below_power : (n : ℕ) → n < 2 ^ n
below_power zero = omega arith
below_power (suc n) = omega (arith, pow-suc 2 n, pow_pos n, below_power n)

-- a number with no bit from n on has n bits
pub few_bits : (m n : ℕ) → ((t : ℕ) → n ≤ t → m / 2 ^ t % 2 ≡ 0) → m < 2 ^ n
few_bits m n h = go (ltb m (2 ^ n)) refl
  where
    first : 0 < m / 2 ^ n → First (m / 2 ^ n) (count_trailing_zeros m (m / 2 ^ n))
    first p = trailing_first m (m / 2 ^ n) p (omega (arith, below_power m, shr_le m n))

    high : 2 ^ n ≤ m → 0 < m / 2 ^ n
    high l =
        let e : 2 ^ n / 2 ^ n ≡ 1 = rw (one-mul (2 ^ n)) at (shl-shr 1 n) in
        omega (arith, shr_mono n l)

    go : (b : Bool) → ltb m (2 ^ n) ≡ b → m < 2 ^ n
    go true e = ltb-true m (2 ^ n) e
    go false e =
        let f : First (m / 2 ^ n) (count_trailing_zeros m (m / 2 ^ n)) = first (high (ltb-false m (2 ^ n) e)) in
        let a : m / 2 ^ (n + count_trailing_zeros m (m / 2 ^ n)) % 2 ≡ 1 = sym (shifted_bit m n (count_trailing_zeros m (m / 2 ^ n))) ∙ first_bit f in
        absurd (omega (arith, h (n + count_trailing_zeros m (m / 2 ^ n)) (omega arith)))
