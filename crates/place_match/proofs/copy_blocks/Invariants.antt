use Rattle.std.proofs.Common.{◌*◌, ◌+◌}
use Rattle.std.proofs.lemmas.List.Edits.{sets}
use Rattle.model.specs.Image.{blocks_from, with_blanks}
use Rattle.model.specs.Place.{stored_blocks}
use Rattle.model.specs.Table.{cells_in}
use Rattle.place_match.proofs.Copying.{Copied}
use Rattle.place_match.proofs.copy_blocks.Given as goal

abbrev pub invariant-loop-i : goal.invariant-loop-i
invariant-loop-i l = Copied l.bytes l.image l.initial.pool l.n (sets (cells_in l.bytes l.initial.pool) l.initial.cell (stored_blocks with_blanks (blocks_from l.bytes l.image l.from l.n))) l.pool l.m l.cell (l.from + l.i * l.bytes) l.i
