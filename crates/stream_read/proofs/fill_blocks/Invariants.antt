use Prim.Native.Nat.{◌-◌}
use lib.ListN.{length, drop}
use Rattle.stream.specs.Stream.{read_blocks}
use Rattle.stream_read.proofs.Laws.{Filling}
use Rattle.stream_read.proofs.fill_blocks.Given as goal

abbrev pub invariant-loop-i : goal.invariant-loop-i
invariant-loop-i l = Filling l.stream l.initial.image l.start (read_blocks 8 l.bits (length l.initial.image - l.start) (drop l.from l.stream)) l.image l.at l.to (read_blocks (8 - l.i) l.m (length l.image - l.to) (drop l.at l.stream))
