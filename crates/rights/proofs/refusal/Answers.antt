use Rattle.std.proofs.Common.{arith, sym, ◌∙◌}
use Rattle.laws.proofs.Stores.{header}
use Rattle.rights.proofs.Cases.{one_of_staff, no_till_lem, not_staff, judged}
use Rattle.rights.proofs.refusal.Goals.{in_default-via-then-user-lt1, in_default-via-else-user-lt1+else-user-lt8}
use Rattle.rights.proofs.refusal.Goals as goal

pub bounds-table-0 : goal.bounds-table-0
bounds-table-0 c = omega (arith, (header c.requires).eight)

pub returns-then-table-till : goal.returns-then-table-till
returns-then-table-till c = no_till_lem c.requires _ _ _ c.if-table-till.true

pub returns-then-allows : goal.returns-then-allows
returns-then-allows c = judged c.requires _ (omega arith) _ c.rights_at-at.ensures _ _ _ (omega arith) (omega arith) (sym c.if-allows.true ∙ c.allows.ensures)

pub returns-else-allows : goal.returns-else-allows
returns-else-allows c = judged c.requires _ (omega arith) _ c.rights_at-at.ensures _ _ _ (omega arith) (omega arith) (sym c.if-allows.false ∙ c.allows.ensures)

pub returns-in_default : goal.returns-in_default
returns-in_default c = c.owner_refusal.ensures
    ∙ not_staff c.requires _ _ _ (omega arith) (λ e. let (l, m) = one_of_staff c.args.user e in
    elim c.in_default.branch [ in_default-via-then-user-lt1 w ↦ omega (arith, l) | in_default-via-else-user-lt1+else-user-lt8 w ↦ omega (arith, m) ])
