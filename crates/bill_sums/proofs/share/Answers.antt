use Rattle.std.proofs.Common.{◌≡◌, ap, arith}
use native.Mathlib.Nat.{div-le_self}
use lib.Count.{ones}
use Rattle.bill_sums.proofs.Passes.{ones_some, one_shared}
use Rattle.bill_sums.proofs.share.Goals as goal

pub nonzero_div-price : goal.nonzero_div-price
nonzero_div-price c = let e : c.from-tills.result ≡ c.args.mark = omega (arith, c.from-tills.ensures) in omega (arith, ap ones e, ones_some c.args.mark c.requires.0)

pub nonzero_rem-price : goal.nonzero_rem-price
nonzero_rem-price c = let e : c.from-tills.result ≡ c.args.mark = omega (arith, c.from-tills.ensures) in omega (arith, ap ones e, ones_some c.args.mark c.requires.0)

pub returns-then-n-eq1 : goal.returns-then-n-eq1
returns-then-n-eq1 c = let e : c.from-tills.result ≡ c.args.mark = omega (arith, c.from-tills.ensures) in rw (← e) (one_shared c.args.price c.from-tills.result _ _ c.if-n-eq1.true c.share_out.ensures)

pub share_out-requires-else-n-eq1 : goal.share_out-requires-else-n-eq1
share_out-requires-else-n-eq1 c = (omega (arith, div-le_self c.args.price (ones c.from-tills.result), c.requires.1), omega (arith, c.from-tills.ensures), c.requires.2, c.requires.3)

pub returns-else-n-eq1 : goal.returns-else-n-eq1
returns-else-n-eq1 c = let e : c.from-tills.result ≡ c.args.mark = omega (arith, c.from-tills.ensures) in rw (← e) c.share_out-else-n-eq1.ensures
