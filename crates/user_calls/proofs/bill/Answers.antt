use Rattle.std.proofs.lemmas.Result.{err_from_is_err_and}
use mathlib.Core.Path.{refl}
use Rattle.refusals.proofs.Numbers.{not_accepted}
use Rattle.lists.specs.Rows.{fill}
use Rattle.bill.specs.Bill.{bill_refused, bill_as}
use Rattle.laws.proofs.Unless.{user_refused, user_served}
use Rattle.user_calls.proofs.Owner.{for_owner}
use Rattle.user_calls.proofs.bill.Goals as goal

pub returns-in_err-owner : goal.returns-in_err-owner
returns-in_err-owner c = let p = err_from_is_err_and c.from_residual.result c.from_residual.ensures.1 in
    rw (p.1, p.2) (unfold bill_as bill_refused fill in user_refused bill_refused _ _ _ (for_owner _ _ c.requires _ _ c.in_err-owner.ensures) (not_accepted _))

pub returns : goal.returns
returns c = unfold bill_as in
    user_served bill_refused _ _ _ (for_owner _ _ c.requires _ _ c.in_ok-owner.ensures) refl _ c.bill_store.ensures
