use Rattle.std.proofs.lemmas.Result.{err_from_is_err_and}
use mathlib.Core.Path.{refl}
use Rattle.refusals.proofs.Numbers.{not_accepted}
use Rattle.model.specs.Rights.{tally_refusal, tally_as}
use Rattle.laws.proofs.Unless.{user_refused, user_served}
use Rattle.user_calls.proofs.Owner.{for_owner}
use Rattle.user_calls.proofs.tally.Goals as goal

pub returns-in_err-owner_refusal : goal.returns-in_err-owner_refusal
returns-in_err-owner_refusal c = let p = err_from_is_err_and c.from_residual.result c.from_residual.ensures.1 in
    rw (p.1, p.2) (unfold tally_as tally_refusal in user_refused tally_refusal _ _ _ (for_owner _ _ c.requires _ _ c.in_err-owner_refusal.ensures) (not_accepted _))

pub returns : goal.returns
returns c = unfold tally_as in
    user_served tally_refusal _ _ _ (for_owner _ _ c.requires _ _ c.in_ok-owner_refusal.ensures) refl _ c.tally_store.ensures
