use mathlib.Core.Path.{◌∙◌, sym}
use Rattle.retire.specs.Answers.{take_over_word, taken_word}
use Rattle.retire.proofs.pointer_after.Goals as goal

pub returns-then-is_indirect : goal.returns-then-is_indirect
unfolding taken_word take_over_word
returns-then-is_indirect c = λ gone e. e ∙ rw (sym c.is_indirect.ensures ∙ c.if-is_indirect.true)

pub returns-else-is_indirect : goal.returns-else-is_indirect
unfolding taken_word take_over_word
returns-else-is_indirect c = λ gone e. rw (sym c.is_indirect.ensures ∙ c.if-is_indirect.false)
