use Rattle.std.proofs.Common.{◌+◌, ◌≤◌}
use Rattle.lists.specs.Walk.{next_add, out_pick}
use Rattle.lists.proofs.Walks.{Walked}
use Rattle.place_words.proofs.number.Given as goal

abbrev pub invariant-loop-cell : goal.invariant-loop-cell
invariant-loop-cell l = (l.at ≤ l.initial.at + l.cell-index) × (l.initial.at ≤ 65536) × Walked out_pick next_add l.mask l.initial.at l.initial.cells l.m l.at l.cell-index l.cells
