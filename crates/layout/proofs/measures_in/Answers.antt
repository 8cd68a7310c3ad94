use Rattle.model.specs.Table.{shape_of}
use Rattle.layout.proofs.measures_in.Goals as goal

pub returns : goal.returns
unfolding shape_of
returns c = c.of_words.ensures
