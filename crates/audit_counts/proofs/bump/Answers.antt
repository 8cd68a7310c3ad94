use Rattle.std.proofs.Common.{sym}
use borrow.Author.Tests.{eq-eqb, ne_eqb}
use lib.Seq.{set_out}
use Rattle.audit_counts.specs.Counters.{bumped}
use Rattle.audit_counts.proofs.bump.Goals.{else-kind-eq1-via-then-kind-eq1+else-at-counts, else-kind-eq1-via-else-kind-eq1}
use Rattle.audit_counts.proofs.bump.Goals as goal

pub returns-then-at-counts : goal.returns-then-at-counts
unfolding bumped
returns-then-at-counts c = simp (eq-eqb _ _ c.if-kind-eq1.true)

pub returns-else-kind-eq1 : goal.returns-else-kind-eq1
unfolding bumped
returns-else-kind-eq1 c = elim c.else-kind-eq1.branch [
  | else-kind-eq1-via-then-kind-eq1+else-at-counts w ↦ simp (eq-eqb _ _ w.if-kind-eq1.true) (sym (set_out _ _ _ w.if-at-counts.false))
  | else-kind-eq1-via-else-kind-eq1 w ↦ simp (ne_eqb _ _ w.if-kind-eq1.false)
]
