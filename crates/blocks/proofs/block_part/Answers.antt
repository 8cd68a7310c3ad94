use Rattle.blocks.proofs.Parts.{cut_block, cut_fits}
use Rattle.blocks.proofs.block_part.Goals as goal

pub returns : goal.returns
returns c = let a = c.args in
    let s = c.min-start in
    let e = c.min-end in
    (cut_fits a.image.now a.at a.bytes s.result e.result s.ensures e.ensures, cut_block a.image.now a.at a.bytes s.result e.result s.ensures e.ensures)
