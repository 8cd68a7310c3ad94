use Rattle.std.proofs.Common.{refl, sym, ◌∙◌, arith}
use Rattle.lists.specs.Lists.{same_numbers}
use Rattle.blocks.proofs.Pieces.{count_more, one_more, same_next}
use Rattle.blocks.proofs.differing.Goals as goal

pub loop-i-init : goal.loop-i-init
unfolding same_numbers
loop-i-init c = (omega arith, refl)

pub loop-i-preserved : goal.loop-i-preserved
loop-i-preserved c = let l = c.loop-i in (
  omega (arith, one_more l.count _ _ c.from-count.ensures),
  count_more l.count _ _ _ l.invariant.1 c.from-count.ensures ∙ sym (same_next c.args.a.now c.args.b.now l.i (omega arith) (omega arith)),
)
