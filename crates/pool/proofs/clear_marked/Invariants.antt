use mathlib.Core.Path.{◌≡◌}
use Prim.Native.Nat.{◌-◌, ◌≤◌, ◌<◌}
use lib.Count.{ones}
use lib.ListN.{length}
use Rattle.pool.specs.Pool.{along, clear_at, free_at}
use Rattle.pool.proofs.clear_marked.Given as goal

abbrev pub invariant-loop-left : goal.invariant-loop-left
invariant-loop-left l = (l.left < 65536)
    × (ones l.left ≤ ones l.mask)
    × (length l.pool ≡ length l.initial.pool)
    × (length l.occupied ≡ length l.initial.occupied)
    × (along (clear_at l.bytes) l.left (ones l.mask - ones l.left) l.cells l.pool ≡ along (clear_at l.bytes) l.mask 0 l.cells l.initial.pool)
    × (along free_at l.left (ones l.mask - ones l.left) l.cells l.occupied ≡ along free_at l.mask 0 l.cells l.initial.occupied)

abbrev pub decreases-loop-left : goal.decreases-loop-left
decreases-loop-left l = l.left
