use Rattle.std.proofs.Common.{◌≤◌}
use Rattle.trial_compare.proofs.filled_cells.Given as goal

abbrev pub invariant-loop-cell : goal.invariant-loop-cell
invariant-loop-cell l = l.n ≤ l.cell
