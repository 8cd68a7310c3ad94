use Rattle.sent_find.proofs.Numbers.{PutTo}
use Rattle.sent_find.proofs.put_number.Given as goal

abbrev pub invariant-loop-j : goal.invariant-loop-j
invariant-loop-j l = PutTo l.print l.fingerprints l.number.0 l.initial.numbers l.numbers l.j
