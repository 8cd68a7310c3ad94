use native.Mathlib.Omega.{arith}
use Rattle.lists.proofs.Pieces.{put_start}
use Rattle.stream_write.proofs.Laws.{group_room, group_next, all_put}
use Rattle.stream_write.proofs.put_groups.Goals as goal

pub loop-from-init : goal.loop-from-init
loop-from-init c = (omega arith, put_start _ _ _)

pub put_group-at-requires : goal.put_group-at-requires
put_group-at-requires c = let l = c.loop-from in (omega arith, group_room c.args.image.now c.requires.1 l.from (omega arith) l.invariant.1)

pub loop-from-preserved : goal.loop-from-preserved
loop-from-preserved c = let l = c.loop-from in
    let e = c.put_group-at.ensures in
    (omega arith, group_next c.args.image.now c.requires.1 l.from (omega arith) l.invariant.1 _ _ e.0 e.1)

pub shape_of-output : goal.shape_of-output
shape_of-output c = c.loop-from.invariant.1.same

pub returns : goal.returns
returns c = let l = c.loop-from in all_put c.args.image.now l.invariant.1 (omega arith)

-- after the last group
pub returns-2 : goal.returns-2
returns-2 c = let l = c.loop-from in
    let e = c.put_group-at.ensures in
    all_put c.args.image.now (group_next c.args.image.now c.requires.1 l.from (omega arith) l.invariant.1 _ _ e.0 e.1) (omega arith)
