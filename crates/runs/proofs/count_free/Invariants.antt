use Rattle.std.proofs.Common.{◌≡◌, ◌≤◌, take}
use Rattle.lists.specs.Lists.{count as free_marks}
use Rattle.runs.specs.Runs.{free_if}
use Rattle.runs.proofs.count_free.Given as goal

abbrev pub invariant-loop-mark : goal.invariant-loop-mark
invariant-loop-mark l = (l.count ≤ l.mark-index) × (l.count ≡ free_marks (free_if l.free) (take l.mark-index l.piece))
