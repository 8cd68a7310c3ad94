-- Laws of `parts_for`: parts of `k` hold all, the last of them not too much, and there is one if there is anything; and how many words tills have.
use mathlib.Core.Path.{◌≡◌, sym, ap, subst}
use mathlib.Core.Logic.{◌↔◌}
use Prim.Native.Nat.{ℕ, zero, suc, ◌+◌, ◌-◌, ◌*◌, ◌/◌, ◌≤◌, ◌<◌}
use native.Mathlib.Nat.{suc-mul, mul-le-mul, not-suc-le-zero, le_of_suc-le-suc, div-mul-le_self, lt-div-mul-add, le-div_iff_mul-le, div-lt_iff_lt-mul}
use native.Mathlib.Omega.{arith}
use Rattle.model.specs.Measures.{parts_for}

pub parts_enough : (k n : ℕ) → 0 < k → n ≤ parts_for k n * k
unfolding parts_for
parts_enough k n h =
    let a : n + (k - 1) < (n + (k - 1)) / k * k + k = lt-div-mul-add h in omega (arith, a, h)

pub parts_few : (k n : ℕ) → 0 < k → parts_for k n * k < n + k
unfolding parts_for
parts_few k n h =
    let a : (n + (k - 1)) / k * k ≤ n + (k - 1) = div-mul-le_self (n + (k - 1)) k in omega (arith, a, h)

pub parts_some : (k n : ℕ) → 0 < k → 0 < n → 0 < parts_for k n
unfolding parts_for
parts_some k n h g =
    let e : (1 ≤ (n + (k - 1)) / k) ↔ (1 * k ≤ n + (k - 1)) = le-div_iff_mul-le h in e.1 (omega (arith, h, g))

-- no more parts than any number of them that is enough
pub parts_least : (k n q : ℕ) → 0 < k → n ≤ q * k → parts_for k n ≤ q
unfolding parts_for
parts_least k n q h g = le_of_suc-le-suc ((div-lt_iff_lt-mul h).1 (omega (arith, g, h, suc-mul q k)))

-- the parts before the last are full
pub before_last : (k n p : ℕ) → 0 < k → 0 < n → p ≡ parts_for k n → (p - 1) * k ≤ n
before_last k n zero h g e = absurd (not-suc-le-zero (subst (λ (q : ℕ). 0 < q) (sym e) (parts_some k n h g)))
before_last k n (suc p) h g e =
    let a : suc p * k < n + k = subst (λ (q : ℕ). q * k < n + k) (sym e) (parts_few k n h) in
    let b : suc p * k ≡ p * k + k = suc-mul p k in
    let c : (suc p - 1) * k ≡ p * k = ap (λ (q : ℕ). q * k) (let z : suc p - 1 ≡ p = omega arith in z) in
    omega (arith, a, b, c)

-- the slots of a till, and all tills
pub sizes : (t v b : ℕ) → t ≤ 16 → v ≤ 64 → b ≤ 1024 → (v * (3 + b) ≤ 65728) × (t * (4 + v * (3 + b)) ≤ 1051712)
sizes t v b ht hv hb =
    let hb3 : 3 + b ≤ 1027 = omega arith in
    let w : v * (3 + b) ≤ 65728 = mul-le-mul hv hb3 in
    let w4 : 4 + v * (3 + b) ≤ 65732 = omega arith in
    (w, mul-le-mul ht w4)
