use Rattle.std.proofs.Common.{arith, sym, ◌∙◌, ◌≡◌, ◌%◌, length}
use Rattle.lists.proofs.Tests.{cond_self}
use Rattle.lists.specs.Lists.{same_numbers}
use Rattle.blocks.proofs.Pieces.{same_all, whole}
use Rattle.blocks.proofs.pieces_same.Goals as goal

pub returns : goal.returns
unfolding same_numbers
returns c =
    let a = c.args.a.now in
    let b = c.args.b.now in
    let m : length b % 64 ≡ 0 = rw (sym c.requires.0) c.requires.2 in
    let h = same_all 64 (omega arith) a _ c.as_chunks.ensures.front b _ _ _ _ c.requires.0 c.as_chunks-2.ensures.front (sym (whole 64 a c.requires.2 (omega arith))) (sym (whole 64 b m (omega arith))) c.pairs_same.ensures in
    sym (cond_self c.pairs_same.result) ∙ h
