use Rattle.std.proofs.Common.{◌≡◌, ◌*◌, ◌+◌, ◌-◌}
use Rattle.model.specs.Image.{blocks_from}
use Rattle.place_words.specs.Marks.{blank_mask, stored_mask}
use Rattle.place_match.proofs.segment_masks.Given as goal

abbrev pub invariant-loop-i : goal.invariant-loop-i
invariant-loop-i l = (l.stored ≡ stored_mask (blocks_from l.bytes l.image (l.from + l.i * l.bytes) (l.n - l.i))) × (l.blank ≡ blank_mask (blocks_from l.bytes l.image (l.from + l.i * l.bytes) (l.n - l.i)))
