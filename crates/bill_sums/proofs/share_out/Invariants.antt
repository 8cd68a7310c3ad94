use mathlib.Core.Path.{◌≡◌}
use Prim.Native.Nat.{ℕ, ◌+◌, ◌*◌, ◌≤◌, ◌<◌}
use lib.Count.{ones}
use lib.ListN.{length, get_or}
use Rattle.bill_sums.specs.Marks.{share_out}
use Rattle.bill_sums.proofs.share_out.Given as goal

abbrev pub invariant-loop-m : goal.invariant-loop-m
invariant-loop-m l = (l.m < 65536)
    × (length l.sums ≡ length l.initial.sums)
    × (share_out l.quotient l.m l.left l.sums ≡ share_out l.quotient l.mark l.rest l.initial.sums)
    × ((t : ℕ) → get_or l.sums t 0 + 10001 * ones l.m ≤ 1000160016)

abbrev pub decreases-loop-m : goal.decreases-loop-m
decreases-loop-m l = l.m
