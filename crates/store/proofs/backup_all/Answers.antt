use Rattle.std.proofs.lemmas.Result.{err_from_is_err_and}
use native.Mathlib.Omega.{arith}
use mathlib.Core.Path.{refl}
use Rattle.lists.specs.Rows.{fill}
use Rattle.store.proofs.Refusals.{is_sound_lem, passed, unsound, all_10}
use Rattle.store.proofs.Alone.{all_alone}
use mathlib.Core.Path.{refl}
use Rattle.store.proofs.backup_all.Goals as goal

pub returns-in_err-check : goal.returns-in_err-check
returns-in_err-check c = let p = err_from_is_err_and c.from_residual.result c.from_residual.ensures.1 in
    let (n, e) = unsound _ _ c.in_err-check.ensures in
    rw (p.1, p.2, e) (all_10 _ _ _ refl n _ _ _ _ _ (unfold fill in refl))

pub back_up_all-requires : goal.back_up_all-requires
back_up_all-requires c = (is_sound_lem _ _ _ refl (passed _ c.in_ok-check.ensures), omega (arith, c.none.ensures))

pub returns : goal.returns
returns c = all_alone _ _ c.none.ensures _ _ (is_sound_lem _ _ _ refl (passed _ c.in_ok-check.ensures)) _ _ _ _ _ c.back_up_all.ensures
