use mathlib.Core.Path.{◌≡◌}
use mathlib.Core.List.{◌++◌, map}
use lib.ListN.{drop, take}
use Rattle.numbers.specs.Measures.{measures_of}
use Rattle.turn.specs.Turn.{target_of}
use Rattle.turn.proofs.find_targets.Given as goal

abbrev pub invariant-loop-b : goal.invariant-loop-b
invariant-loop-b l = l.targets ≡ map (target_of (measures_of l.m) l.image l.pool l.records) (take l.b l.pointers) ++ drop l.b l.initial.targets
