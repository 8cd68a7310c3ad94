use Rattle.sweep_laws.proofs.Named.{Marking}
use Rattle.sweep.proofs.mark_named.Given as goal

abbrev pub invariant-loop-k : goal.invariant-loop-k
invariant-loop-k l = Marking l.n l.words l.initial.occupied l.count l.occupied l.k
