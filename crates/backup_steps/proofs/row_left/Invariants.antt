use Rattle.std.proofs.Common.{◌+◌, drop}
use Rattle.lists.specs.Lists.{count}
use Rattle.backup_steps.specs.Limit.{is_count}
use Rattle.backup_steps.proofs.Counting.{Counting}
use Rattle.backup_steps.proofs.row_left.Given as goal

abbrev pub invariant-loop-count : goal.invariant-loop-count
invariant-loop-count l = let counts = drop (3 + l.n) l.row in Counting counts (count is_count counts) l.count-index l.left
