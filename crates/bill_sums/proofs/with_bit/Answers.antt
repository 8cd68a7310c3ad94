use Rattle.bill_sums.proofs.Passes.{bit_new, bit_old}
use Rattle.bill_sums.proofs.with_bit.Goals as goal

pub returns-then-mark-bit : goal.returns-then-mark-bit
returns-then-mark-bit c = bit_new _ _ c.if-mark-bit.true

pub returns-else-mark-bit : goal.returns-else-mark-bit
returns-else-mark-bit c = bit_old _ _ c.if-mark-bit.false
