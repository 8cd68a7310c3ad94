use native.Mathlib.Omega.{arith}
use mathlib.Core.Path.{◌≡◌}
use Prim.Native.Nat.{◌-◌}
use lib.ListN.{length}
use Rattle.stream_laws.proofs.Steps.{blocks_none}
use Rattle.stream_read.proofs.Laws.{fill_start, block_ok, blocks_on_lem, fill_end}
use Rattle.stream_read.proofs.fill_blocks.Goals as goal

pub loop-i-init : goal.loop-i-init
loop-i-init c = let a = c.args in
    fill_start a.stream.now a.image.now a.from a.start _ c.requires.0 c.requires.1 c.requires.2

pub fill_block-at-requires : goal.fill_block-at-requires
fill_block-at-requires c = let l = c.loop-i in
    (l.invariant.within, l.invariant.inside, block_ok l.i l.m l.invariant (omega arith))

pub loop-i-preserved : goal.loop-i-preserved
loop-i-preserved c = let l = c.loop-i in
    blocks_on_lem l.i l.m l.invariant (omega arith) _ _ _ c.fill_block-at.ensures c.min-to.ensures

pub shape_of-image : goal.shape_of-image
shape_of-image c = c.loop-i.invariant.same

pub returns : goal.returns
returns c = let l = c.loop-i in
    let z : 8 - l.i ≡ 0 = omega arith in
    fill_end l.invariant (rw z (blocks_none l.m (length l.image - l.to) _))
