use Rattle.std.proofs.Common.{◌≡◌, ◌+◌, ◌≤◌, ◌++◌, Bool, List, map, take}
use Rattle.runs.specs.Runs.{free_if, left}
use Rattle.runs.proofs.by_cell.Given as goal

abbrev pub invariant-loop-mark : goal.invariant-loop-mark
invariant-loop-mark l = (l.search.at ≡ l.initial.search.at + l.mark-index) × (l.search.run ≤ l.search.at) × ((fs : List Bool) → left l.need fs l.search ≡ left l.need (map (free_if l.free) (take l.mark-index l.part) ++ fs) l.initial.search)
