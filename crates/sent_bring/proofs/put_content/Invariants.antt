use mathlib.Core.Path.{◌≡◌}
use lib.ListN.{length}
use Rattle.model.specs.State.{Segment, Storage}
use Rattle.model.specs.Table.{cells_in, record_to_words}
use Rattle.sent_bring.proofs.Contents.{PutTo}
use Rattle.sent_bring.proofs.put_content.Given as goal

abbrev pub invariant-loop-i : goal.invariant-loop-i
invariant-loop-i l = (length l.out ≡ length l.initial.out) × ((s : Storage) (seg : Segment) → s.cells ≡ cells_in l.bytes l.pool → length seg ≡ l.n → l.row ≡ record_to_words seg → PutTo l.bytes s seg l.out l.held l.blank l.i)
