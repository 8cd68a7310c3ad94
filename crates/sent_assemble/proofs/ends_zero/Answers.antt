use mathlib.Core.Path.{sym, ap, ◌∙◌}
use native.Mathlib.Omega.{arith}
use Rattle.lists.specs.Lists.{every, all_zero}
use Rattle.lists.proofs.Slices.{drop_end, tail_all}
use Rattle.sent_assemble.proofs.ends_zero.Goals as goal

pub returns-then-segment-left : goal.returns-then-segment-left
unfolding all_zero every
returns-then-segment-left c = sym (ap all_zero (drop_end c.args.segment.now c.args.left c.if-segment-left.true))

pub slice_bounds-all_zero-count : goal.slice_bounds-all_zero-count
slice_bounds-all_zero-count c = omega (arith, c.if-segment-left.false)

pub slice_bounds-all_zero-start : goal.slice_bounds-all_zero-start
slice_bounds-all_zero-start c = omega (arith, c.if-segment-left.false)

pub returns : goal.returns
returns c = c.all_zero.ensures ∙ ap all_zero (tail_all c.args.segment.now c.args.left)
