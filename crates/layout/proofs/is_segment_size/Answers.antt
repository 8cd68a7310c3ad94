use Rattle.std.proofs.Common.{arith}
use Rattle.std.proofs.lemmas.Bool.Decides.{nat_tests}
use Rattle.lists.specs.Lists.{is_in}
use Rattle.layout.proofs.is_segment_size.Goals as goal

pub returns-in-4 : goal.returns-in-4
unfolding is_in
returns-in-4 c = grind (arith, nat_tests)

pub returns-in_default : goal.returns-in_default
unfolding is_in
returns-in_default c = grind (arith, nat_tests)
