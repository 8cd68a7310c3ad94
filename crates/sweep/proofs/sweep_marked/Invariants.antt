use Rattle.numbers.specs.Measures.{measures_of}
use Rattle.sweep_laws.proofs.Sweeps.{Swept}
use Rattle.sweep.proofs.sweep_marked.Given as goal

abbrev pub invariant-loop-k : goal.invariant-loop-k
invariant-loop-k l = Swept (measures_of l.m) l.initial.pool l.initial.words l.initial.occupied l.n l.pool l.words l.occupied l.k
