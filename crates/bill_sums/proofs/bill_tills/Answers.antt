use Rattle.std.proofs.Common.{◌≡◌, ◌*◌, ℕ, refl, length-take, arith, rules}
use Rattle.bill_sums.specs.Marks.{no_marks}
use Rattle.bill_sums.proofs.Passes.{zeros_at, bill_is}
use Rattle.bill_sums.proofs.bill_tills.Goals as goal

pub share_all-requires : goal.share_all-requires
share_all-requires c = (search rules, omega (arith, length-take (c.args.records * 16) c.mark_tills.new.marks, c.requires.5), refl, zeros_at 16)

pub returns : goal.returns
unfolding no_marks
returns c = bill_is _ (c.args.records * 16) _ _ _ c.mark_tills.ensures c.share_all.ensures
