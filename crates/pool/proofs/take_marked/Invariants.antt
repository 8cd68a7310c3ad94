use mathlib.Core.Path.{◌≡◌}
use Prim.Native.Nat.{◌-◌, ◌^◌, ◌≤◌, ◌<◌}
use lib.Count.{ones}
use lib.ListN.{length}
use Rattle.pool.specs.Pool.{along, mark_at}
use Rattle.pool.proofs.take_marked.Given as goal

abbrev pub invariant-loop-left : goal.invariant-loop-left
invariant-loop-left l = (l.left < 65536)
    × (ones l.left ≤ ones l.mask)
    × (length l.occupied ≡ length l.initial.occupied)
    × (along mark_at l.left (ones l.mask - ones l.left) l.cells l.occupied ≡ along mark_at l.mask 0 l.cells l.initial.occupied)
    × (l.left < 2 ^ length l.cells)

abbrev pub decreases-loop-left : goal.decreases-loop-left
decreases-loop-left l = l.left
