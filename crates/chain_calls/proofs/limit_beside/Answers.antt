use mathlib.Core.Path.{refl}
use Rattle.chain_calls.proofs.limit_beside.Goals as goal

pub returns : goal.returns
returns c = (c.other_cells-others.ensures.0, c.other_cells-others.ensures.1, refl)
