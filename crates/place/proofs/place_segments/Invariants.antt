use Rattle.numbers.specs.Measures.{measures_of}
use Rattle.place.proofs.Along.{Along}
use Rattle.place.proofs.place_segments.Given as goal

abbrev pub invariant-loop-j : goal.invariant-loop-j
invariant-loop-j l = Along (measures_of l.m) l.image l.initial.pool l.initial.records l.initial.free l.initial.placed l.initial.words l.n l.used l.pool l.records l.free l.placed l.words l.j
