use Rattle.std.proofs.lemmas.Result.{err_from_is_err_and}
use Rattle.refusals.proofs.Numbers.{not_accepted}
use mathlib.Core.Path.{refl, sym, ◌∙◌}
use Rattle.model.specs.Rights.{backup_refusal}
use Rattle.sent.specs.Sent.{backup_sent_as}
use Rattle.chain.proofs.Within.{within_still}
use Rattle.laws.proofs.Unless.{user_refused, user_served}
use Rattle.user_calls.proofs.Sent.{within_sent}
use Rattle.user_calls.proofs.backup_sent.Goals as goal

pub returns-in_err-refusal : goal.returns-in_err-refusal
returns-in_err-refusal c = let a = c.args in
    let p = err_from_is_err_and c.from_residual.result c.from_residual.ensures.1 in
    rw (p.1, p.2) (unfold backup_sent_as backup_refusal in within_still a.limit.others a.limit.most a.pool.now a.table.now _ _ (user_refused (backup_refusal _ _) _ _ _ c.in_err-refusal.ensures (not_accepted _)) (not_accepted _))

pub returns : goal.returns
returns c = let a = c.args in
    user_served (backup_refusal _ _) _ _ _ c.in_ok-refusal.ensures refl _ c.back_up_sent.ensures
    ∙ sym (within_sent a.limit.others a.limit.most a.pool.now a.table.now a.user a.till a.length a.fingerprints.now a.marks.now a.segments.now)
