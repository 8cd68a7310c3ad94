use native.Mathlib.Omega.{arith}
use Rattle.stream_write.proofs.Answers.{refused_short, accepted}
use Rattle.stream_write.proofs.write_stream.Goals as goal

pub returns-then-output-n : goal.returns-then-output-n
returns-then-output-n c = let a = c.args in refused_short a.image.now a.output.now (omega (arith, c.stream_length-n.ensures.0))

pub returns : goal.returns
returns c = let a = c.args in accepted a.image.now a.output.now _ _ (omega (arith, c.stream_length-n.ensures.0)) c.stream_length-n.ensures.0 c.put_stream.ensures
