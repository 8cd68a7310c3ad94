use Rattle.layout.proofs.Laws.{capacities_read}
use Rattle.layout.proofs.capacities_in.Goals as goal

pub returns : goal.returns
returns c = capacities_read _ _ c.measures_in.ensures
