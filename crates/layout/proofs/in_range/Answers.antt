use mathlib.Core.Path.{sym, ◌∙◌}
use Rattle.layout.proofs.Laws.{out_of}
use Rattle.layout.proofs.in_range.Goals as goal

pub returns-else-are_measures : goal.returns-else-are_measures
returns-else-are_measures c = c.if-are_measures.false ∙ out_of _ 5 (sym c.are_measures.ensures ∙ c.if-are_measures.false)
