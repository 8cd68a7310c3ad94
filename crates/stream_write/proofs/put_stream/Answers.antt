use native.Mathlib.Omega.{arith}
use Rattle.stream_write.proofs.Answers.{stream_long, stream_put}
use Rattle.stream_write.proofs.put_stream.Goals as goal

pub put_length-requires : goal.put_length-requires
put_length-requires c = omega (arith, c.requires.1, stream_long c.args.image.now c.args.output.now)

pub put_groups-requires : goal.put_groups-requires
put_groups-requires c = (omega arith, omega (arith, c.requires.1, stream_long c.args.image.now c.args.output.now))

pub returns : goal.returns
returns c = stream_put c.args.image.now c.args.output.now _ _ c.requires.1 c.put_length.ensures c.put_groups.ensures
