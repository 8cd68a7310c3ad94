use Rattle.sent_offer.proofs.Marking.{MarkedTo}
use Rattle.sent_offer.proofs.write_marks.Given as goal

abbrev pub invariant-loop-j : goal.invariant-loop-j
invariant-loop-j l = MarkedTo l.print l.fingerprints l.numbers l.count l.initial.marks l.marks l.j
