use native.Mathlib.Omega.{arith}
use Rattle.rights.proofs.Cases.{begins_few, word_at}
use Rattle.rights.proofs.rights_at.Goals as goal

pub till_head-head-requires : goal.till_head-head-requires
till_head-head-requires c = (c.requires.0, omega (arith, c.requires.1))

pub overflow_add-result : goal.overflow_add-result
overflow_add-result c = omega (arith, begins_few c.requires.0 c.args.till c.requires.1 c.till_head-head.result.at c.till_head-head.ensures.at)

pub returns : goal.returns
returns c = word_at c.requires.0 c.args.till c.requires.1 c.till_head-head.result.at c.till_head-head.ensures.at
