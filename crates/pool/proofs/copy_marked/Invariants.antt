use mathlib.Core.Path.{◌≡◌}
use Prim.Native.Nat.{◌+◌, ◌≤◌, ◌<◌}
use lib.Count.{ones}
use lib.ListN.{length}
use Rattle.pool.specs.Pool.{along, copy_to, take_at}
use Rattle.pool.proofs.copy_marked.Given as goal

abbrev pub invariant-loop-left : goal.invariant-loop-left
invariant-loop-left l = (l.left < 65536)
    × (l.at + ones l.left ≤ length l.initial.occupied)
    × (length l.pool ≡ length l.initial.pool)
    × (length l.occupied ≡ length l.initial.occupied)
    × (along (copy_to l.bytes) l.left l.at l.cells l.pool ≡ along (copy_to l.bytes) l.mask l.initial.at l.cells l.initial.pool)
    × (along take_at l.left l.at l.cells l.occupied ≡ along take_at l.mask l.initial.at l.cells l.initial.occupied)

abbrev pub decreases-loop-left : goal.decreases-loop-left
decreases-loop-left l = l.left
