use mathlib.Core.Path.{◌≡◌}
use mathlib.Core.List.{◌++◌, map}
use lib.ListN.{take, drop}
use Rattle.retire.specs.Answers.{taken_word, take_over_word}
use Rattle.retire.proofs.take_over.Given as goal

abbrev pub invariant-loop-i : goal.invariant-loop-i
invariant-loop-i l = (l.older ≡ map (take_over_word l.gone) (take l.i l.initial.older) ++ drop l.i l.initial.older) × (l.taken ≡ map (taken_word l.gone) (take l.i l.initial.older) ++ drop l.i l.initial.taken)
