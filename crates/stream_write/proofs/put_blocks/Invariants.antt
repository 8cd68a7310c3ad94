use Rattle.stream_write.proofs.Laws.{bytes_left}
use Rattle.lists.proofs.Pieces.{Putting}
use Rattle.stream_write.proofs.put_blocks.Given as goal

abbrev pub invariant-loop-i : goal.invariant-loop-i
invariant-loop-i l = Putting l.initial.output l.at (bytes_left l.image l.from 0) l.output l.to (bytes_left l.image l.from l.i)
