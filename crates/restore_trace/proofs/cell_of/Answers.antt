use Rattle.restore_trace.proofs.Images.{cell_word}
use Rattle.restore_trace.proofs.cell_of.Goals as goal

pub returns : goal.returns
returns c = rw c.word.ensures (cell_word _ _ _ c.requires.n_bound.1 _ _ c.requires.n_in_bounds.0 c.requires.n_in_bounds.1)
