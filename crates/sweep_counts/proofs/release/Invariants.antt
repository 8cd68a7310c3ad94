use Prim.Native.Nat.{◌≤◌}
use Rattle.model.specs.Sweep.{one_less}
use Rattle.storage.proofs.Changes.{Changing}
use Rattle.sweep_counts.proofs.release.Given as goal

abbrev pub invariant-loop-word : goal.invariant-loop-word
invariant-loop-word l = (l.n ≤ 16) × Changing one_less l.n l.initial.words l.pointers l.words l.word-index
