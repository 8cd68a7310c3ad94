use Prim.Native.Nat.{◌+◌, ◌-◌, ◌<◌}
use lib.ListN.{length}
use Rattle.stream_write.proofs.Laws.{groups_from}
use Rattle.lists.proofs.Pieces.{Putting}
use Rattle.stream_write.proofs.put_groups.Given as goal

abbrev pub invariant-loop-from : goal.invariant-loop-from
invariant-loop-from l = (l.from < length l.image + 512) × Putting l.initial.output 4 (groups_from l.image 0) l.output l.at (groups_from l.image l.from)

abbrev pub decreases-loop-from : goal.decreases-loop-from
decreases-loop-from l = length l.image - l.from
