use Prim.Native.Nat.{◌-◌}
use lib.ListN.{length, drop}
use Rattle.stream_laws.proofs.Steps.{groups_of}
use Rattle.stream_read.proofs.Laws.{Filling}
use Rattle.stream_read.proofs.fill_image.Given as goal

abbrev pub invariant-loop-to : goal.invariant-loop-to
invariant-loop-to l = Filling l.stream l.initial.image 0 (groups_of (length l.initial.image) (drop 4 l.stream)) l.image l.at l.to (groups_of (length l.image - l.to) (drop l.at l.stream))

abbrev pub decreases-loop-to : goal.decreases-loop-to
decreases-loop-to l = length l.image - l.to
