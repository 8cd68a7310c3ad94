use Rattle.std.proofs.Common.{◌≡◌, ◌*◌, length, drop}
use Rattle.model.specs.Measures.{record_words}
use Rattle.model.specs.Table.{records_in}
use Rattle.tally.proofs.Cases.{Going}
use Rattle.tally.proofs.tally_rows.Given as goal

abbrev pub invariant-loop-row : goal.invariant-loop-row
invariant-loop-row l = record {
  can_next : (goal.iterator-loop-row).can_next l.row-iterator;
  is_finite : (goal.iterator-loop-row).is_finite l.row-iterator;
  width : l.row-iterator.size ≡ record_words l.n;
  left : drop (length l.yielded * record_words l.n) l.words ≡ l.row-iterator.rest.now;
  going : Going (records_in l.n l.words) (length l.yielded) l.cells l.records l.counts;
}
