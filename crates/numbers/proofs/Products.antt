-- Products of a number of 32 bits and a measure.
use Rattle.std.proofs.Common.{◌≡◌, ℕ, zero, suc, ◌+◌, ◌-◌, ◌*◌, ◌/◌, ◌%◌, ◌≤◌, ◌<◌, min, arith}
use Rattle.std.proofs.Math.Nat.{mul-le-mul, mod-lt, add-mul, one-mul}
use Rattle.std.proofs.lemmas.Nat.{div-add-mod', div-mul-add}
use Rattle.model.specs.Measures.{parts_for}

pub product_fits : (n k : ℕ) → n < 4294967296 → k ≤ 512 → n * k < 18446744073709551616
product_fits n k h l =
    let a : n ≤ 4294967295 = omega arith in
    let p : n * k ≤ 2199023255040 = mul-le-mul a l in
    omega arith

-- a segment's bytes
pub segment_most : (k b : ℕ) → k ≤ 16 → b ≤ 512 → k * b ≤ 8192
segment_most k b h l = mul-le-mul h l

pub segment_some : (k b : ℕ) → 4 ≤ k → 64 ≤ b → 256 ≤ k * b
segment_some k b h l = let p : 4 * 64 ≤ k * b = mul-le-mul h l in p

-- rounded up, as `div_ceil` says it
pub parts_up : (n w : ℕ) → 0 < w → n / w + min 1 (n % w) ≡ parts_for w n
unfolding parts_for
parts_up n w h = go (n % w) (mod-lt n h) (div-add-mod' n w)
  where
    go : (r : ℕ) → r < w → n / w * w + r ≡ n → n / w + min 1 r ≡ (n + (w - 1)) / w
    go zero l e =
        let k : n + (w - 1) ≡ n / w * w + (w - 1) = omega (arith, e) in
        rw k (rw (div-mul-add (n / w) w (w - 1) (omega arith)) (omega arith))
    go (suc r) l e =
        let k : n + (w - 1) ≡ (n / w + 1) * w + r = omega (arith, e, add-mul (n / w) 1 w, one-mul w) in
        rw k (rw (div-mul-add (n / w + 1) w r (omega arith)) (omega arith))
