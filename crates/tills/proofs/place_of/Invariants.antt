use Rattle.tills.specs.Answers.{numbers_held}
use Rattle.tills.proofs.Cases.{NoneBefore}
use Rattle.tills.proofs.place_of.Given as goal

abbrev pub invariant-loop-j : goal.invariant-loop-j
invariant-loop-j l = NoneBefore (numbers_held l.pool l.table l.till) l.version l.j
