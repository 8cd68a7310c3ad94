use Rattle.std.proofs.Common.{arith, length-drop, ◌+◌}
use Rattle.backup_steps.proofs.Counting.{counting_end, counting_next, part_count, row_few}
use Rattle.backup_steps.proofs.row_left.Goals as goal

pub overflow_add-left : goal.overflow_add-left
overflow_add-left c = omega (arith, (counting_next _ _ _ _ _ (omega (arith, length-drop (3 + c.args.n) c.args.row.now)) c.loop-count.invariant (part_count c.args.row.now (3 + c.args.n) c.loop-count.count-index _ c.from-left.ensures)).1, row_few c.args.n c.args.row.now c.requires.1, c.requires.0)

pub loop-count-preserved : goal.loop-count-preserved
loop-count-preserved c = counting_next _ _ _ _ _ (omega (arith, length-drop (3 + c.args.n) c.args.row.now)) c.loop-count.invariant (part_count c.args.row.now (3 + c.args.n) c.loop-count.count-index _ c.from-left.ensures)

pub returns : goal.returns
returns c = counting_end _ _ _ _ (omega (arith, length-drop (3 + c.args.n) c.args.row.now)) c.loop-count.invariant
