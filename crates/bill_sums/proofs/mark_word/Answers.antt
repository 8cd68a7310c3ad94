use Rattle.bill_sums.proofs.Passes.{word_direct, word_other}
use Rattle.bill_sums.proofs.mark_word.Goals as goal

pub returns-then-w-eq256 : goal.returns-then-w-eq256
returns-then-w-eq256 c = word_direct _ _ _ _ c.if-w-eq256.true c.with_bit.ensures

pub returns-else-w-eq256 : goal.returns-else-w-eq256
returns-else-w-eq256 c = word_other _ _ _ c.if-w-eq256.false c.requires.0
