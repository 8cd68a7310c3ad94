-- A till's mark as a bit of the mask, and the bound of the marks.
use mathlib.Core.Path.{◌≡◌, refl}
use mathlib.Core.Bool.{Bool, true, false}
use Prim.Native.Nat.{ℕ, ◌/◌, ◌%◌, ◌^◌, ◌≤◌, ◌<◌}
use native.Mathlib.Nat.{zero-div}
use native.Mathlib.Omega.{arith}
use borrow.Author.Tests.{ltb-true, lt-ltb, eqb-true, eqb-false, eq-eqb, ne_eqb}
use Rattle.lists.proofs.Bits.{bit_below, few_bits}
use Rattle.dispatcher.specs.Turns.{waits, marks_present}
use Rattle.dispatcher.specs.Claims.{MarksBelow}

module _ (m t : ℕ) where
  pub bit_waits : m / 2 ^ t % 2 ≡ 1 → waits m t ≡ true
  unfolding waits
  bit_waits e = eq-eqb (m / 2 ^ t % 2) 1 e

  pub bit_rests : m / 2 ^ t % 2 ≡ 0 → waits m t ≡ false
  unfolding waits
  bit_rests e = ne_eqb (m / 2 ^ t % 2) 1 (λ h. omega arith)

  pub waits_bit : waits m t ≡ true → m / 2 ^ t % 2 ≡ 1
  unfolding waits
  waits_bit e = eqb-true (m / 2 ^ t % 2) 1 e

  pub rests_bit : waits m t ≡ false → m / 2 ^ t % 2 ≡ 0
  unfolding waits
  rests_bit e = let n : m / 2 ^ t % 2 ≡ 1 → ⊥ = eqb-false (m / 2 ^ t % 2) 1 e in omega arith

-- no mark of 0
pub none_waits : (t : ℕ) → waits 0 t ≡ false
none_waits t = bit_rests 0 t (rw (zero-div (2 ^ t)))

-- ---- marks of present tills

pub marks_lt : (tills mask : ℕ) → marks_present tills mask ≡ true → mask < 2 ^ tills
unfolding marks_present
marks_lt tills mask e = ltb-true mask (2 ^ tills) e

pub lt_marks : (tills mask : ℕ) → mask < 2 ^ tills → marks_present tills mask ≡ true
unfolding marks_present
lt_marks tills mask l = lt-ltb mask (2 ^ tills) l

-- a till that waits is present
pub waits_below : (mask tills t : ℕ) → mask < 2 ^ tills → waits mask t ≡ true → t < tills
waits_below mask tills t l e = bit_below mask tills t l (waits_bit mask t e)

pub marks_below : MarksBelow
marks_below tills mask = (λ e t h. none_above (marks_lt tills mask e) t h (waits mask t) refl, λ h. lt_marks tills mask (few_bits mask tills (λ t l. rests_bit mask t (h t l))))
  where
    none_above : mask < 2 ^ tills → (t : ℕ) → tills ≤ t → (b : Bool) → waits mask t ≡ b → waits mask t ≡ false
    none_above l t h true e = absurd (omega (arith, waits_below mask tills t l e))
    none_above l t h false e = e
