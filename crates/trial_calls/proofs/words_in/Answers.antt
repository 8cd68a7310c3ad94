use native.Mathlib.Omega.{arith}
use Prim.Native.Nat.{ℕ, ◌+◌, ◌*◌, ◌≤◌}
use native.Mathlib.Nat.{mul-le-mul}
use Rattle.trial_calls.proofs.words_in.Goals as goal

slots : (v b : ℕ) → v ≤ 64 → b ≤ 1024 → v * (3 + b) ≤ 64 * 1027
slots v b h k = let l : 3 + b ≤ 1027 = omega (arith, k) in mul-le-mul h l

all-tills : (t v b : ℕ) → t ≤ 16 → v ≤ 64 → b ≤ 1024 → t * (4 + v * (3 + b)) ≤ 16 * 65732
all-tills t v b h k l = let m : 4 + v * (3 + b) ≤ 65732 = omega (arith, slots v b k l) in mul-le-mul h m

all-records : (r s : ℕ) → r ≤ 4096 → s ≤ 16 → r * (3 + 2 * s) ≤ 4096 * 35
all-records r s h k = let l : 3 + 2 * s ≤ 35 = omega (arith, k) in mul-le-mul h l

pub overflow_mul-result : goal.overflow_mul-result
overflow_mul-result c = omega (arith, slots c.args.versions c.args.blocks c.requires.1 c.requires.2)

pub overflow_add-result-2 : goal.overflow_add-result-2
overflow_add-result-2 c = omega (arith, slots c.args.versions c.args.blocks c.requires.1 c.requires.2)

pub overflow_mul-result-2 : goal.overflow_mul-result-2
overflow_mul-result-2 c = omega (arith, all-tills c.args.tills c.args.versions c.args.blocks c.requires.0 c.requires.1 c.requires.2)

pub overflow_add-result-3 : goal.overflow_add-result-3
overflow_add-result-3 c = omega (arith, all-tills c.args.tills c.args.versions c.args.blocks c.requires.0 c.requires.1 c.requires.2)

pub overflow_mul-result-4 : goal.overflow_mul-result-4
overflow_mul-result-4 c = omega (arith, all-records c.args.records c.args.segment c.requires.3 c.requires.4)

pub overflow_add-result-5 : goal.overflow_add-result-5
overflow_add-result-5 c = omega (arith, all-tills c.args.tills c.args.versions c.args.blocks c.requires.0 c.requires.1 c.requires.2, all-records c.args.records c.args.segment c.requires.3 c.requires.4)
