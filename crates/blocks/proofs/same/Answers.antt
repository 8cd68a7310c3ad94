use Rattle.std.proofs.Common.{arith, sym, ◌∙◌}
use Rattle.lists.proofs.Appends.{same_lengths}
use Rattle.blocks.proofs.Pieces.{same_all}
use Rattle.blocks.proofs.same.Goals as goal

pub returns-then-a-b : goal.returns-then-a-b
returns-then-a-b c = sym (same_lengths _ _ c.if-a-b.true)

pub returns-then-pairs_same : goal.returns-then-pairs_same
returns-then-pairs_same c =
    let x = c.as_chunks.ensures in
    let y = c.as_chunks-2.ensures in
    let h = same_all 64 (omega arith) c.args.a.now _ x.front c.args.b.now _ _ _ _ c.if-a-b.false y.front x.back y.back c.pairs_same.ensures in
    c.differing.ensures ∙ (rw c.if-pairs_same.true at h)

pub returns-else-pairs_same : goal.returns-else-pairs_same
returns-else-pairs_same c =
    let x = c.as_chunks.ensures in
    let y = c.as_chunks-2.ensures in
    let h = same_all 64 (omega arith) c.args.a.now _ x.front c.args.b.now _ _ _ _ c.if-a-b.false y.front x.back y.back c.pairs_same.ensures in
    c.if-pairs_same.false ∙ (rw c.if-pairs_same.false at h)
