use Rattle.std.proofs.Common.{refl}
use Rattle.sha1_definition.specs.Sha1.{added}
use Rattle.sha1_chunk.proofs.add.Goals as goal

pub returns : goal.returns
unfolding added
returns c = refl
