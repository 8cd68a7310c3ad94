use mathlib.Core.Path.{◌≡◌}
use mathlib.Core.Bool.{not}
use mathlib.Core.List.{◌++◌, map}
use lib.ListN.{drop, take}
use Rattle.sweep.proofs.flip.Given as goal

abbrev pub invariant-loop-mark : goal.invariant-loop-mark
invariant-loop-mark l = take l.mark-index l.marks ++ map not (drop l.mark-index l.marks) ≡ map not l.initial.marks
