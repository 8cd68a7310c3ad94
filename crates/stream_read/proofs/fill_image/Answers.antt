use native.Mathlib.Omega.{arith}
use Prim.Native.Nat.{◌-◌}
use lib.ListN.{length}
use Rattle.stream_read.proofs.Laws.{image_start, group_ok, groups_on, image_end}
use Rattle.stream_read.proofs.fill_image.Goals as goal

pub loop-to-init : goal.loop-to-init
loop-to-init c = let a = c.args in image_start a.stream.now a.image.now c.requires.1 c.requires.0

pub fill_group-at-requires : goal.fill_group-at-requires
fill_group-at-requires c = let l = c.loop-to in
    (l.invariant.within, l.invariant.inside, group_ok l.invariant (omega arith))

pub loop-to-preserved : goal.loop-to-preserved
loop-to-preserved c = let l = c.loop-to in
    groups_on l.invariant (omega arith) _ _ 512 c.fill_group-at.ensures (omega (arith, c.fill_group-at.auto.image))

pub returns : goal.returns
returns c = let l = c.loop-to in
    let a = c.args in
    image_end a.stream.now a.image.now c.requires.1 l.image l.at l.to l.invariant (omega arith)

-- after the last group
pub returns-2 : goal.returns-2
returns-2 c = let l = c.loop-to in
    let a = c.args in
    let g = c.fill_group-at in
    let n = length g.new.image - l.to in
    image_end a.stream.now a.image.now c.requires.1 g.new.image _ _ (groups_on l.invariant (omega arith) _ _ n g.ensures (omega (arith, g.auto.image))) (omega (arith, g.auto.image))
