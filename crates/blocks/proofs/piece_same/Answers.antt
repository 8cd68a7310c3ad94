use Rattle.std.proofs.Common.{arith}
use Rattle.blocks.proofs.Pieces.{first_other}
use Rattle.blocks.proofs.piece_same.Goals as goal

pub returns-else-a-b : goal.returns-else-a-b
returns-else-a-b c = first_other c.args.a.now c.args.b.now (omega arith) (omega arith) c.if-a-b.false
