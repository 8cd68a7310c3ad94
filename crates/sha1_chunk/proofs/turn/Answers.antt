use Rattle.sha1_definition.specs.Sha1.{turned}
use Rattle.sha1_chunk.proofs.turn.Goals as goal

pub returns : goal.returns
unfolding turned
returns c = rw (c.rotate_left.ensures, c.rotate_left-2.ensures)
