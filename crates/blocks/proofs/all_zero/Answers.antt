use Rattle.lists.specs.Lists.{all_zero}
use Rattle.blocks.proofs.all_zero.Goals as goal

pub returns : goal.returns
unfolding all_zero
returns c = c.filled.ensures
