use Rattle.std.proofs.lemmas.Result.{err_from_is_err_and}
use mathlib.Core.Path.{refl}
use Rattle.refusals.proofs.Numbers.{not_accepted}
use Rattle.stream.specs.Stream.{stream_refusal}
use Rattle.stream.specs.Version.{write_stream_as}
use Rattle.laws.proofs.Unless.{user_refused, user_served}
use Rattle.user_calls.proofs.write_stream.Goals as goal

pub returns-in_err-refusal : goal.returns-in_err-refusal
returns-in_err-refusal c = let p = err_from_is_err_and c.from_residual.result c.from_residual.ensures.1 in
    rw (p.1, p.2) (unfold write_stream_as stream_refusal in user_refused (λ n. stream_refusal n c.args.output.now) _ _ _ c.in_err-refusal.ensures (not_accepted _))

pub returns : goal.returns
returns c = unfold write_stream_as in
    user_served (λ n. stream_refusal n c.args.output.now) _ _ _ c.in_ok-refusal.ensures refl _ c.write_version.ensures
