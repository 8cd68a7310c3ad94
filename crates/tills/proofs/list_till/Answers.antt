use Rattle.tills.proofs.Cases.{no_till_lem, none_held, some_held}
use native.Mathlib.Omega.{arith}
use Rattle.tills.proofs.list_till.Goals as goal

pub returns-then-table-till : goal.returns-then-table-till
returns-then-table-till c = no_till_lem c.requires _ c.if-table-till.true

pub returns-then-head-eq0 : goal.returns-then-head-eq0
returns-then-head-eq0 c = none_held c.requires _ (omega (arith, c.if-table-till.false)) _ c.till_head-head.ensures c.if-head-eq0.true

pub returns : goal.returns
returns c = some_held c.requires _ (omega (arith, c.if-table-till.false)) _ c.till_head-head.ensures c.if-head-eq0.false _ _
    c.number_at.ensures c.number_at-2.ensures
