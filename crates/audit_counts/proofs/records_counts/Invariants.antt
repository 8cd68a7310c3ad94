use Rattle.std.proofs.Common.{◌≡◌, ◌*◌, length, drop}
use Rattle.std.specs.Iterator.Adapters.{zip_first, zip_second}
use Rattle.model.specs.Measures.{record_words}
use Rattle.audit_counts.proofs.Rows.{Upto}
use Rattle.audit_counts.proofs.records_counts.Given as goal

abbrev pub invariant-loop-row : goal.invariant-loop-row
invariant-loop-row l = record {
  can_next : (goal.iterator-loop-row).can_next l.row-iterator;
  is_finite : (goal.iterator-loop-row).is_finite l.row-iterator;
  width : (zip_first l.row-iterator).size ≡ record_words l.n;
  most : (zip_second l.row-iterator).size ≡ 16;
  records : drop (length l.yielded * record_words l.n) l.records ≡ (zip_first l.row-iterator).rest.now;
  counts : drop (length l.yielded * 16) l.counts ≡ (zip_second l.row-iterator).rest.now;
  upto : Upto l.n (length l.yielded) l.counts l.records;
}
