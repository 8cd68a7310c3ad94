use native.Mathlib.Omega.{arith}
use borrow.Author.Rules.{rules}
use mathlib.Core.Path.{refl, sym, ap, ◌∙◌}
use Rattle.bill_sums.specs.Marks.{mark_words}
use Rattle.bill_sums.proofs.Passes.{words_turn, words_done}
use Rattle.bill_sums.proofs.mark_each.Goals as goal

pub loop-w-init : goal.loop-w-init
loop-w-init c = (refl, refl)

pub mark_word-requires : goal.mark_word-requires
mark_word-requires c = (c.loop-w.invariant.0 ∙ c.requires.0, search rules)

pub loop-w-preserved : goal.loop-w-preserved
loop-w-preserved c = (c.mark_word.auto.marks ∙ c.loop-w.invariant.0, ap (mark_words _ _) c.mark_word.ensures ∙ sym (words_turn _ _ c.loop-w.w-index _ (search rules)) ∙ c.loop-w.invariant.1)

pub shape_of-marks : goal.shape_of-marks
shape_of-marks c = c.loop-w.invariant.0

pub returns : goal.returns
returns c = words_done _ _ c.loop-w.w-index _ _ (search rules) c.loop-w.invariant.1
