use Rattle.std.proofs.lemmas.Result.{err_from_is_err_and}
use Rattle.store.proofs.Refusals.{is_sound_lem, passed, unsound, restore_10}
use mathlib.Core.Path.{refl}
use Rattle.store.proofs.restore.Goals as goal

pub returns-in_err-check : goal.returns-in_err-check
returns-in_err-check c = let p = err_from_is_err_and c.from_residual.result c.from_residual.ensures.1 in
    let (n, e) = unsound _ _ c.in_err-check.ensures in
    rw (p.1, p.2, e) (restore_10 _ _ _ refl n _ _ _ _)

pub restore-requires : goal.restore-requires
restore-requires c = is_sound_lem _ _ _ refl (passed _ c.in_ok-check.ensures)
