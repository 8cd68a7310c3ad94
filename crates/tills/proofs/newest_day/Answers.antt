use Rattle.tills.proofs.Days.{no_till_day, no_day, last_day}
use Rattle.tills.proofs.newest_day.Goals as goal

pub returns-then-table-till : goal.returns-then-table-till
returns-then-table-till c = no_till_day c.requires _ c.if-table-till.true

pub returns-then-head-eq0 : goal.returns-then-head-eq0
returns-then-head-eq0 c = no_day c.requires _ _ c.till_head-head.ensures c.if-head-eq0.true

pub returns : goal.returns
returns c = last_day c.requires _ _ c.till_head-head.ensures c.if-head-eq0.false _ c.day_at.ensures
