use mathlib.Core.Path.{sym, ◌∙◌}
use Rattle.layout.proofs.Laws.{no_measures, by_percent}
use Rattle.layout.proofs.are_measures.Goals as goal
use Rattle.layout.proofs.are_measures.Goals.{then-is_block_size, else-is_block_size}

pub returns-then-is_segment_size : goal.returns-then-is_segment_size
returns-then-is_segment_size c = elim c.if-is_block_size.branch [
  | then-is_block_size w ↦ by_percent _ (sym c.is_block_size.ensures ∙ w.if-is_block_size.true) (sym w.is_segment_size.ensures ∙ (sym w.value-is ∙ c.if-is_segment_size.true))
  | else-is_block_size w ↦ cc
]

pub returns-else-is_segment_size : goal.returns-else-is_segment_size
returns-else-is_segment_size c = c.if-is_segment_size.false ∙ elim c.if-is_block_size.branch [
  | then-is_block_size w ↦ no_measures _ 1 (sym w.is_segment_size.ensures ∙ (sym w.value-is ∙ c.if-is_segment_size.false))
  | else-is_block_size w ↦ no_measures _ 0 (sym c.is_block_size.ensures ∙ w.if-is_block_size.false)
]
