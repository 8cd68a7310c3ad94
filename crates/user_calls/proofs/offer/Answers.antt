use Rattle.std.proofs.lemmas.Result.{err_from_is_err_and}
use mathlib.Core.Path.{refl}
use Rattle.refusals.proofs.Numbers.{not_accepted}
use Rattle.sent.specs.Sent.{offer_as}
use Rattle.laws.proofs.Unless.{user_refused, user_served}
use Rattle.user_calls.proofs.offer.Goals as goal

pub returns-in_err-refusal : goal.returns-in_err-refusal
returns-in_err-refusal c = let p = err_from_is_err_and c.from_residual.result c.from_residual.ensures.1 in
    rw (p.1, p.2) (unfold offer_as in user_refused (λ n. record { refusal = n; marks = c.args.marks.now }) _ _ _ c.in_err-refusal.ensures (not_accepted _))

pub returns : goal.returns
returns c = unfold offer_as in
    user_served (λ n. record { refusal = n; marks = c.args.marks.now }) _ _ _ c.in_ok-refusal.ensures refl _ c.offer_segments.ensures
