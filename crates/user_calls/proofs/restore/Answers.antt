use Rattle.std.proofs.lemmas.Result.{err_from_is_err_and}
use mathlib.Core.Path.{refl}
use Rattle.refusals.proofs.Numbers.{not_accepted}
use Rattle.model.specs.Calls.{restore_refusal}
use Rattle.model.specs.Rights.{restore_as}
use Rattle.laws.proofs.Unless.{user_refused, user_served}
use Rattle.user_calls.proofs.restore.Goals as goal

pub returns-in_err-refusal : goal.returns-in_err-refusal
returns-in_err-refusal c = let p = err_from_is_err_and c.from_residual.result c.from_residual.ensures.1 in
    rw (p.1, p.2) (unfold restore_as restore_refusal in user_refused (λ n. restore_refusal n c.args.output.now) _ _ _ c.in_err-refusal.ensures (not_accepted _))

pub returns : goal.returns
returns c = unfold restore_as in
    user_served (λ n. restore_refusal n c.args.output.now) _ _ _ c.in_ok-refusal.ensures refl _ c.restore_version.ensures
