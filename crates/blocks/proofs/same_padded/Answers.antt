use Rattle.std.proofs.Common.{◌∙◌}
use Rattle.blocks.proofs.Parts.{padded}
use Rattle.blocks.proofs.same_padded.Goals as goal

pub returns-then-same : goal.returns-then-same
returns-then-same c = let s = c.split_at.ensures in
    let h = padded c.args.part.now c.args.block.now c.requires _ _ _ s.front s.back c.same.ensures in
    c.all_zero.ensures ∙ (rw c.if-same.true at h)

pub returns-else-same : goal.returns-else-same
returns-else-same c = let s = c.split_at.ensures in
    let h = padded c.args.part.now c.args.block.now c.requires _ _ _ s.front s.back c.same.ensures in
    c.if-same.false ∙ (rw c.if-same.false at h)
