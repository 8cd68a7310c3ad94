use native.Mathlib.Omega.{arith}
use Rattle.bill_sums.proofs.Passes.{part_quotient, part_more}
use Rattle.bill_sums.proofs.part.Goals as goal

pub returns-then-left-eq0 : goal.returns-then-left-eq0
returns-then-left-eq0 c = (part_quotient _ _ c.if-left-eq0.true, omega arith)

pub returns-else-left-eq0 : goal.returns-else-left-eq0
returns-else-left-eq0 c = (part_more _ _ c.if-left-eq0.false, omega arith)
