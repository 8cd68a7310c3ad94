use Rattle.std.proofs.Common.{arith, sym, ◌∙◌}
use Rattle.lists.proofs.Tests.{cond_self}
use Rattle.lists.specs.Lists.{every}
use Rattle.blocks.proofs.Pieces.{filled_all, whole}
use Rattle.blocks.proofs.pieces_filled.Goals as goal

pub returns : goal.returns
unfolding every
returns c =
    let a = c.as_chunks in
    let h = filled_all 64 (omega arith) c.args.part.now _ a.ensures.front c.args.byte _ _ (sym (whole 64 c.args.part.now c.requires.1 (omega arith))) c.pieces_are.ensures in
    sym (cond_self c.pieces_are.result) ∙ h
