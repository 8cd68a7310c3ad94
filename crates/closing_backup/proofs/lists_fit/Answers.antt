use native.Mathlib.Omega.{arith}
use Rattle.closing_backup.proofs.Fits.{fits_many, fits_unequal, fits_sum}
use Rattle.closing_backup.proofs.lists_fit.Goals as goal

pub returns-then-tills-gt16 : goal.returns-then-tills-gt16
returns-then-tills-gt16 c = fits_many c.args.tills.now c.args.lengths.now c.args.images.now (omega (arith, c.if-tills-gt16.true))

pub returns-then-lengths-tills : goal.returns-then-lengths-tills
returns-then-lengths-tills c = fits_unequal c.args.tills.now c.args.lengths.now c.args.images.now (omega arith) (λ q. omega (arith, q, c.if-lengths-tills.true))

pub sum_to-requires : goal.sum_to-requires
sum_to-requires c = (omega (arith, c.if-lengths-tills.false), omega arith)

pub returns : goal.returns
returns c = fits_sum c.args.tills.now c.args.lengths.now c.args.images.now (omega arith) (omega (arith, c.if-lengths-tills.false)) _ c.sum_to.ensures.0
