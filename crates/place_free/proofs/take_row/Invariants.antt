use Rattle.std.proofs.Common.{◌≡◌, length}
use Rattle.model.specs.State.{Segment}
use Rattle.model.specs.Table.{record_to_words}
use Rattle.place_words.proofs.Cells.{Acted}
use Rattle.place_free.specs.Free.{without_cells}
use Rattle.place_free.proofs.take_row.Given as goal

abbrev pub invariant-loop-i : goal.invariant-loop-i
invariant-loop-i l = (length l.free ≡ length l.initial.free) × ((seg : Segment) → length seg ≡ l.n → l.row ≡ record_to_words seg → Acted without_cells seg l.initial.free l.m l.i l.free)
