use Rattle.bill_sums.proofs.Passes.{none_marked}
use mathlib.Core.Path.{sym, ◌∙◌}
use Rattle.bill_sums.proofs.mark_group.Goals as goal

pub returns-else-not-none_direct : goal.returns-else-not-none_direct
returns-else-not-none_direct c = none_marked _ _ _ (sym c.none_direct.ensures ∙ c.if-not-none_direct.false) c.requires.0
