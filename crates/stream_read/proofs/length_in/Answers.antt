use native.Mathlib.Omega.{arith}
use Rattle.stream.specs.Stream.{length_in}
use Rattle.stream_read.proofs.length_in.Goals as goal

pub returns : goal.returns
unfolding length_in
returns c = omega (arith, c.from_le_bytes.ensures)
