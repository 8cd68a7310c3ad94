use Rattle.std.proofs.Common.{arith, refl}
use Rattle.std.proofs.lemmas.Result.{err_from_is_err_and}
use Rattle.refusals.proofs.Numbers.{not_accepted}
use Rattle.backup_accept.proofs.Deciding.{dated_first, dated_28, dated_0}
use Rattle.backup_accept.proofs.dated_refusal.Goals as goal

pub returns-in_err-till_refusal : goal.returns-in_err-till_refusal
returns-in_err-till_refusal c =
    let p = err_from_is_err_and c.from_residual.result c.from_residual.ensures.1 in
    rw (p.1, p.2) (dated_first c.requires.0 _ c.args.day _ c.in_err-till_refusal.ensures (not_accepted _))

pub returns-then-day-newest_day : goal.returns-then-day-newest_day
returns-then-day-newest_day c = dated_28 c.requires.0 _ c.args.day _ c.in_ok-till_refusal.ensures refl (omega (arith, c.newest_day.ensures, c.if-day-newest_day.true))

pub returns : goal.returns
returns c = dated_0 c.requires.0 _ c.args.day _ c.in_ok-till_refusal.ensures refl (omega (arith, c.newest_day.ensures, c.if-day-newest_day.false))
