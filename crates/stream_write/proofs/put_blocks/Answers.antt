use native.Mathlib.Omega.{arith}
use Rattle.lists.proofs.Pieces.{put_start, put_end}
use Rattle.stream_write.proofs.Laws.{bytes_start, bytes_end, block_room, block_next}
use Rattle.stream_write.proofs.put_blocks.Goals as goal

pub loop-i-init : goal.loop-i-init
loop-i-init c = put_start _ _ _

pub put_if-to-requires : goal.put_if-to-requires
put_if-to-requires c = let a = c.args in
    let l = c.loop-i in
    (omega arith, block_room a.image.now a.from a.at c.requires.1 l.i (omega arith) l.invariant)

pub loop-i-preserved : goal.loop-i-preserved
loop-i-preserved c = let a = c.args in
    let l = c.loop-i in
    let e = c.put_if-to.ensures in
    block_next a.image.now a.from a.at c.requires.1 l.i (omega arith) l.invariant _ _ e.0 e.1

pub shape_of-output : goal.shape_of-output
shape_of-output c = c.loop-i.invariant.same

pub returns : goal.returns
returns c = let a = c.args in
    let l = c.loop-i in
    rw (bytes_start a.image.now a.from) (put_end l.invariant (bytes_end a.image.now a.from l.i (omega arith)))
