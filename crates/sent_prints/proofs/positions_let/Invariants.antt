use mathlib.Core.Path.{◌≡◌}
use lib.ListN.{length}
use Rattle.model.specs.State.{Segment, Storage}
use Rattle.model.specs.Table.{cells_in, record_to_words}
use Rattle.sent_prints.proofs.Lets.{LetsTo}
use Rattle.sent_prints.proofs.positions_let.Given as goal

abbrev pub invariant-loop-i : goal.invariant-loop-i
invariant-loop-i l = (s : Storage) (seg : Segment) → s.cells ≡ cells_in l.bytes l.pool → length seg ≡ l.n → l.row ≡ record_to_words seg → LetsTo s seg l.held l.i
