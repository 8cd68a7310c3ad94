use mathlib.Core.Path.{refl, sym}
use Rattle.std.proofs.lemmas.Result.{err_from_is_err_and}
use Rattle.refusals.proofs.Numbers.{not_accepted}
use Rattle.chain.proofs.Within.{within_still}
use Rattle.backup.proofs.back_up_dated.Goals as goal

pub returns-in_err-backup_refusal : goal.returns-in_err-backup_refusal
returns-in_err-backup_refusal c = let r = c.in_err-backup_refusal in
    let p = err_from_is_err_and c.from_residual.result c.from_residual.ensures.1 in
    rw (p.1, p.2) (within_still c.args.limit.others c.args.limit.most c.args.pool.now c.args.table.now _ _ (sym (r.ensures.refusal (not_accepted _))) (not_accepted _))

pub back_up_accepted-requires : goal.back_up_accepted-requires
back_up_accepted-requires c = (c.requires.0, c.in_ok-backup_refusal.ensures.accepted refl, c.requires.1)
