use Rattle.stream.specs.Stream.{four_bytes}
use Rattle.lists.specs.Written.{written}
use Rattle.stream_write.proofs.put_length.Goals as goal

pub returns : goal.returns
unfolding written four_bytes
returns c = rw (c.copy_from_slice.ensures.after, c.to_le_bytes.ensures)
