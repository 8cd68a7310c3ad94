use Rattle.store.proofs.Refusals.{is_sound_lem, passed, unsound, rights_10}
use mathlib.Core.Path.{refl}
use Rattle.store.proofs.set_rights.Goals as goal

pub returns-in-Err : goal.returns-in-Err
returns-in-Err c = let (n, e) = unsound _ _ c.in-Err.ensures in rw e (rights_10 _ _ _ refl n _ _ _ _)

pub set_rights-requires : goal.set_rights-requires
set_rights-requires c = is_sound_lem _ _ _ refl (passed _ c.in_default.ensures)
