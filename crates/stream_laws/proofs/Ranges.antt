-- The lengths that an image may have.
use mathlib.Core.Path.{◌≡◌, refl}
use mathlib.Core.Bool.{true, false}
use Prim.Native.Nat.{ℕ, suc, ◌-◌, ◌≤◌, ◌<◌}
use native.Mathlib.Omega.{arith}
use borrow.Author.Tests.{le-leb, lt-leb}
use Rattle.lists.specs.Lists.{all_of}
use Rattle.model.specs.Measures.{is_within, parts_for}
use Rattle.stream.specs.Stream.{has_stream}

pub has_yes : (n : ℕ) → (n ≡ 0 → ⊥) → n ≤ 65536 → has_stream n ≡ true
unfolding has_stream is_within all_of
has_yes n z h = let s : 1 ≤ n = omega (arith, z) in rw (le-leb 1 n s, le-leb n 65536 h)

pub has_none : has_stream 0 ≡ false
unfolding has_stream is_within all_of
has_none = refl

pub has_more : (n : ℕ) → 65536 < n → has_stream n ≡ false
unfolding has_stream is_within all_of
has_more n h = let s : 1 ≤ n = omega arith in rw (le-leb 1 n s, lt-leb n 65536 h)

-- one block, and those of what is left
pub parts_next : (n : ℕ) → 0 < n → parts_for 64 n ≡ suc (parts_for 64 (n - 64))
unfolding parts_for
parts_next n h = omega arith
