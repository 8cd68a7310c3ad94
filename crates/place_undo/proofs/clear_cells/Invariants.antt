use mathlib.Core.Path.{◌≡◌}
use lib.ListN.{length}
use Rattle.model.specs.State.{Segment}
use Rattle.model.specs.Sweep.{clear_cells}
use Rattle.model.specs.Table.{cells_in, record_to_words}
use Rattle.place_words.proofs.Cells.{Acted}
use Rattle.place_undo.proofs.clear_cells.Given as goal

abbrev pub invariant-loop-i : goal.invariant-loop-i
invariant-loop-i l = (length l.pool ≡ length l.initial.pool) × ((seg : Segment) → length seg ≡ l.n → l.row ≡ record_to_words seg → Acted (λ cs cells. clear_cells l.bytes cells cs) seg (cells_in l.bytes l.initial.pool) l.m l.i (cells_in l.bytes l.pool))
