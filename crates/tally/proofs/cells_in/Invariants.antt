use Rattle.std.proofs.Common.{◌≡◌, ◌+◌, ◌*◌, length, drop}
use Rattle.model.specs.Measures.{record_words}
use Rattle.model.specs.Records.{named_cells}
use Rattle.model.specs.Table.{records_in}
use Rattle.tally.proofs.cells_in.Given as goal

abbrev pub invariant-loop-row : goal.invariant-loop-row
invariant-loop-row l = record {
  can_next : (goal.iterator-loop-row).can_next l.row-iterator;
  is_finite : (goal.iterator-loop-row).is_finite l.row-iterator;
  width : l.row-iterator.size ≡ record_words l.n;
  left : drop (length l.yielded * record_words l.n) l.words ≡ l.row-iterator.rest.now;
  cells : l.cells + length (named_cells (drop (length l.yielded) (records_in l.n l.words))) ≡ length (named_cells (records_in l.n l.words));
}
