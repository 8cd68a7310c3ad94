use native.Mathlib.Omega.{arith}
use Rattle.tills.proofs.Days.{no_till_on, none_on, found_on_lem}
use Rattle.tills.proofs.version_on.Goals as goal

pub returns-then-table-till : goal.returns-then-table-till
returns-then-table-till c = no_till_on c.requires _ _ c.if-table-till.true

pub returns-in-Some : goal.returns-in-Some
returns-in-Some c = found_on_lem c.requires _ (omega (arith, c.if-table-till.false)) _ _ c.in-Some.ensures _ c.number_at.ensures

pub returns-in-None : goal.returns-in-None
returns-in-None c = none_on c.requires _ (omega (arith, c.if-table-till.false)) _ c.in-None.ensures
