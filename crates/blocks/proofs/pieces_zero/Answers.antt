use Rattle.lists.specs.Lists.{all_zero}
use Rattle.blocks.proofs.pieces_zero.Goals as goal

pub returns : goal.returns
unfolding all_zero
returns c = c.pieces_filled.ensures
