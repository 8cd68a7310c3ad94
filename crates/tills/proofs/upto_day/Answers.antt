use Rattle.std.proofs.Common.{arith}
use Rattle.tills.proofs.Days.{among_less}
use Rattle.tills.proofs.upto_day.Goals as goal

pub loop-newest-preserved : goal.loop-newest-preserved
loop-newest-preserved c = let a = c.args in
    let l = c.loop-newest in
    among_less a.pool.now a.table.now a.till a.day _ (omega arith) (omega (arith, c.requires.2.held)) l.invariant (omega (arith, c.day_at.ensures, c.if-day_at-day.false))
