use mathlib.Core.Path.{sym, ◌∙◌}
use Rattle.laws.proofs.Ranges.{ranges}
use Rattle.layout.proofs.Laws.{out_of_range_length, in_range_length}
use Rattle.layout.proofs.table_length.Goals as goal

pub returns-then-not-in_range : goal.returns-then-not-in_range
returns-then-not-in_range c = out_of_range_length _ (sym c.in_range.ensures ∙ c.if-not-in_range.true)

pub table_words-requires : goal.table_words-requires
table_words-requires c = ranges _ (sym c.in_range.ensures ∙ c.if-not-in_range.false)

pub returns : goal.returns
returns c = in_range_length _ _ (sym c.in_range.ensures ∙ c.if-not-in_range.false) c.table_words.ensures.0
