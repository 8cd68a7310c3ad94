use Rattle.std.proofs.Common.{arith, refl, ◌<◌, length}
use Rattle.lists.specs.Walk.{next_add, out_pick}
use Rattle.lists.proofs.Walks.{walk_end, walk_step}
use Rattle.place_words.proofs.number.Goals as goal

pub loop-cell-preserved : goal.loop-cell-preserved
loop-cell-preserved c = let l = c.loop-cell in
    let h : l.cell-index < length c.args.cells.now = omega arith in
    (omega arith, omega arith, walk_step out_pick next_add l.invariant.2 0 h c.picked.ensures refl refl)

pub returns : goal.returns
returns c = walk_end out_pick next_add c.loop-cell.invariant.2 (omega arith)
