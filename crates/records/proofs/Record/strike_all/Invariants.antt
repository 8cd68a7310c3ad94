use Rattle.records.proofs.Records.{Striking}
use Rattle.records.proofs.Record.strike_all.Given as goal

abbrev pub invariant-loop-left : goal.invariant-loop-left
invariant-loop-left l = Striking l.initial.now l.now l.left

abbrev pub decreases-loop-left : goal.decreases-loop-left
decreases-loop-left l = l.left
