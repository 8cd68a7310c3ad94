use Rattle.std.proofs.Common.{arith, ◌∙◌}
use Rattle.blocks.proofs.Pieces.{filled_all, same_part}
use Rattle.blocks.proofs.filled.Goals as goal

pub returns-then-pieces_are : goal.returns-then-pieces_are
returns-then-pieces_are c =
    let a = c.as_chunks in
    let h = filled_all 64 (omega arith) c.args.part.now _ a.ensures.front c.args.byte _ _ a.ensures.back c.pieces_are.ensures in
    c.differing.ensures ∙ same_part c.args.byte 64 a.result.1.now (omega arith) ∙ (rw c.if-pieces_are.true at h)

pub returns-else-pieces_are : goal.returns-else-pieces_are
returns-else-pieces_are c =
    let a = c.as_chunks in
    let h = filled_all 64 (omega arith) c.args.part.now _ a.ensures.front c.args.byte _ _ a.ensures.back c.pieces_are.ensures in
    c.if-pieces_are.false ∙ (rw c.if-pieces_are.false at h)
