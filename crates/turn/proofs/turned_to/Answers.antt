use mathlib.Core.Path.{◌∙◌, sym}
use Rattle.model.specs.Image.{image_blocks}
use Rattle.turn.proofs.Turning.{blank_turns, other_turns}
use Rattle.turn.proofs.turned_to.Goals as goal

-- By `cc`, so that no call is named: an edit that gives another pointer is refused for its value.
pub returns-then-pieces_filled : goal.returns-then-pieces_filled
returns-then-pieces_filled c = let a = c.args in
    let e = blank_turns a.pointer.0 (image_blocks a.bytes a.image.now) a.cell.now (sym c.if-pieces_filled.true ∙ c.pieces_filled.ensures) in cc

pub returns-else-pieces_filled : goal.returns-else-pieces_filled
returns-else-pieces_filled c = let a = c.args in
    c.find_block.ensures ∙ other_turns a.pointer.0 (image_blocks a.bytes a.image.now) a.cell.now (sym c.if-pieces_filled.false ∙ c.pieces_filled.ensures)
