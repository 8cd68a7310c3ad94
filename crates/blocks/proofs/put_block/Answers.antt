use Rattle.std.proofs.Common.{ap, refl, ◌∙◌, List, ℕ, ◌++◌, drop, length}
use Rattle.blocks.proofs.Parts.{put_filled}
use Rattle.blocks.proofs.put_block.Goals as goal

pub returns : goal.returns
returns c =
    let b = c.block_part-part in
    let p = b.result.now in
    put_filled p c.args.cell.now _ _ (length p) c.args.bytes refl b.ensures.0 c.requires.2 (ap (λ (l : List ℕ). l ++ drop (length p) c.args.cell.now) c.copy_from_slice.ensures.after) (c.fill.ensures.after (λ y e. e))
    ∙ b.ensures.1
