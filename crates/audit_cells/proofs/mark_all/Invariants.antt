use Rattle.std.proofs.Common.{◌≡◌}
use Rattle.model.specs.Measures.{record_words}
use Rattle.audit_cells.proofs.Records.{Going}
use Rattle.audit_cells.proofs.mark_all.Given as goal

abbrev pub invariant-loop-row : goal.invariant-loop-row
invariant-loop-row l = record {
  can_next : (goal.iterator-loop-row).can_next l.row-iterator;
  is_finite : (goal.iterator-loop-row).is_finite l.row-iterator;
  width : l.row-iterator.size ≡ record_words l.n;
  going : Going l.n l.cells l.records l.row-iterator.rest.now l.initial.occupied l.occupied;
}
