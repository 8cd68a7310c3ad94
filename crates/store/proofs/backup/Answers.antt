use Rattle.std.proofs.lemmas.Result.{err_from_is_err_and}
use native.Mathlib.Omega.{arith}
use Rattle.store.proofs.Refusals.{is_sound_lem, passed, unsound, backup_10}
use Rattle.store.proofs.Alone.{alone}
use mathlib.Core.Path.{refl}
use Rattle.store.proofs.backup.Goals as goal

pub returns-in_err-check : goal.returns-in_err-check
returns-in_err-check c = let p = err_from_is_err_and c.from_residual.result c.from_residual.ensures.1 in
    let (n, e) = unsound _ _ c.in_err-check.ensures in
    rw (p.1, p.2, e) (backup_10 _ _ _ refl n _ _ _ _)

pub backup-requires : goal.backup-requires
backup-requires c = (is_sound_lem _ _ _ refl (passed _ c.in_ok-check.ensures), omega (arith, c.none.ensures))

pub returns : goal.returns
returns c = alone _ _ c.none.ensures _ _ _ _ c.backup.ensures
