use Rattle.std.proofs.Common.{◌≡◌}
use Rattle.lists.specs.Rows.{chunks}
use Rattle.lists.specs.Each.{Each}
use Rattle.model.specs.Measures.{record_words}
use Rattle.audit_words.specs.Words.{RecordForm}
use Rattle.audit_words.proofs.records_form.Given as goal

abbrev pub invariant-loop-row : goal.invariant-loop-row
invariant-loop-row l = record {
  can_next : (goal.iterator-loop-row).can_next l.row-iterator;
  is_finite : (goal.iterator-loop-row).is_finite l.row-iterator;
  size : l.row-iterator.size ≡ record_words l.n;
  left : Each (RecordForm l.n) (chunks (record_words l.n) l.row-iterator.rest.now) → Each (RecordForm l.n) (chunks (record_words l.n) l.records);
  all : Each (RecordForm l.n) (chunks (record_words l.n) l.records) → Each (RecordForm l.n) (chunks (record_words l.n) l.row-iterator.rest.now);
}
