use Rattle.std.proofs.Common.{◌*◌}
use Rattle.storage.proofs.Along.{AtRow}
use Rattle.backup_steps.proofs.Counting.{Leaving}
use Rattle.backup_steps.proofs.cells_left.Given as goal

abbrev pub invariant-loop-k : goal.invariant-loop-k
invariant-loop-k l = AtRow l.n l.records l.width l.rows (l.k * l.width) l.k × Leaving l.n l.records l.k l.left
