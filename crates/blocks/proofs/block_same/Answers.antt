use Rattle.std.proofs.Common.{arith, ◌∙◌}
use Rattle.blocks.proofs.Parts.{whole_same}
use Rattle.blocks.proofs.block_same.Goals as goal

pub returns-then-end-image : goal.returns-then-end-image
returns-then-end-image c = let a = c.args in
    c.pieces_same.ensures ∙ whole_same a.image.now a.cell.now a.at a.bytes (omega arith)
