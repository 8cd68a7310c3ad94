use Rattle.std.proofs.Common.{◌≡◌, refl, ◌<◌, get_or, take, length-take, get_or-take, arith}
use Rattle.lists.specs.Lists.{total}
use Rattle.lists.proofs.Lengths.{part_next}
use Rattle.lengths.proofs.sum_to.Goals as goal

pub loop-n-init : goal.loop-n-init
unfolding total
loop-n-init c = (omega arith, refl)

pub loop-n-preserved : goal.loop-n-preserved
loop-n-preserved c =
    let ns = c.args.lengths.now in
    let i = c.loop-n.n-index in
    let h : i < c.args.count = omega (arith, length-take c.args.count ns) in
    let e : get_or (take c.args.count ns) i 0 ≡ get_or ns i 0 = get_or-take c.args.count ns i 0 h in
    (omega (arith, e, c.type_inv.lengths i), omega (arith, e, part_next ns i (omega arith), c.loop-n.invariant.1))
