use Prim.Native.Nat.{◌≤◌}
use Rattle.storage.proofs.Changes.{Raising}
use Rattle.sweep_counts.proofs.claim.Given as goal

abbrev pub invariant-loop-word : goal.invariant-loop-word
invariant-loop-word l = (l.n ≤ 16) × Raising l.n l.initial.words l.pointers l.words l.word-index
