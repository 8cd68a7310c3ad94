use Rattle.std.proofs.Common.{◌≡◌, ◌*◌, ◌+◌, ◌-◌, length}
use Rattle.model.specs.Image.{blocks_from}
use Rattle.model.specs.State.{Segment, Storage}
use Rattle.model.specs.Table.{cells_in, record_to_words}
use Rattle.place_words.specs.Marks.{stored_mask}
use Rattle.place_match.proofs.Matching.{EqualTo}
use Rattle.place_match.proofs.positions_equal.Given as goal

abbrev pub invariant-loop-i : goal.invariant-loop-i
invariant-loop-i l = (l.m ≡ stored_mask (blocks_from l.bytes l.image (l.from + l.i * l.bytes) (l.n - l.i))) × ((s : Storage) (seg : Segment) → s.cells ≡ cells_in l.bytes l.pool → length seg ≡ l.n → l.row ≡ record_to_words seg → EqualTo s l.bytes l.image l.from l.n seg l.held (l.from + l.i * l.bytes) l.i)
