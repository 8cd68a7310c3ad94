use Rattle.std.proofs.Common.{◌≡◌, ◌*◌, ◌≤◌}
use Rattle.lists.proofs.Lengths.{part_from}
use Rattle.lengths.proofs.sum_to.Given as goal

abbrev pub invariant-loop-n : goal.invariant-loop-n
invariant-loop-n l = (l.sum ≤ l.n-index * 4294967295) × (l.sum ≡ part_from l.lengths l.n-index)
