-- Laws of blocks moved within the pool.
use mathlib.Core.Path.{◌≡◌, refl}
use mathlib.Core.List.{List, [], ◌∷◌}
use Prim.Native.Nat.{ℕ, zero, suc, ◌+◌, ◌-◌, ◌/◌, ◌%◌, ◌^◌, ◌≤◌, ◌<◌}
use native.Mathlib.Nat.{pow-zero, pow-suc, add-zero}
use native.Mathlib.Omega.{arith}
use lib.ListN.{length, get_or}
use Rattle.lists.specs.Rows.{fill}
use Rattle.lists.proofs.Masks.{First, here, later, first_le}
use Rattle.pool.specs.Pool.{along, choose}

-- the marked cells, one set bit at a time
pub first_along : {S : Type 0} (step : S → ℕ → ℕ → S) {m t : ℕ} (at : ℕ) (cs : List ℕ) (s : S) → t < length cs → First m t
    → along step m at cs s ≡ along step (m - 2 ^ t) (at + 1) cs (step s (get_or cs t 0) at)
unfolding along
first_along step at [] s l f = absurd (omega arith)
first_along step at (c ∷ cs) s l (here {m} e) =
    let a : (m - 1) % 2 ≡ 0 = omega arith in
    let b : (m - 1) / 2 ≡ m / 2 = omega arith in
    rw (e, a, b, add-zero (at + 1))
first_along step {m = m'} at (c ∷ cs) s l (later {m} {t} e f) =
    let a : (m - 2 ^ suc t) % 2 ≡ 0 = omega (arith, pow-suc 2 t, first_le f) in
    let b : (m - 2 ^ suc t) / 2 ≡ m / 2 - 2 ^ t = omega (arith, pow-suc 2 t, first_le f) in
    rw (e, a, b, add-zero (at + 1), add-zero at) (first_along step {m = m / 2} at cs s (omega arith) f)

pub along_none : {S : Type 0} (step : S → ℕ → ℕ → S) (at : ℕ) (cs : List ℕ) (s : S) → along step 0 at cs s ≡ s
unfolding along
along_none step at [] s = refl
along_none step at (c ∷ cs) s = along_none step (at + 0) cs s

-- zeros after the last cell that a mask can mark
pub along_fill : {S : Type 0} (step : S → ℕ → ℕ → S) (k m at : ℕ) (cs : List ℕ) (s : S) → m < 2 ^ length cs → length cs ≤ k → along step m at (fill k cs) s ≡ along step m at cs s
unfolding along fill
along_fill step zero m at [] s h l = refl
along_fill step zero m at (c ∷ cs) s h l = absurd (omega arith)
along_fill step (suc k) m at [] s h l = let z : m ≡ 0 = omega (arith, pow-zero 2) in rw z (along_none step at (fill (suc k) []) s)
along_fill step (suc k) m at (c ∷ cs) s h l = along_fill step k (m / 2) (at + m % 2) cs (choose (m % 2) s (step s c at)) (omega (arith, pow-suc 2 (length cs))) (omega arith)
