use Rattle.sent_bring.proofs.Prints.{Printed}
use Rattle.sent_bring.proofs.print_segments.Given as goal

abbrev pub invariant-loop-i : goal.invariant-loop-i
invariant-loop-i l = Printed l.width l.segments l.initial.prints l.prints l.i
