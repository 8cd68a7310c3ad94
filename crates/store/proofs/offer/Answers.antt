use Rattle.store.proofs.Refusals.{is_sound_lem, passed, unsound, offer_10}
use mathlib.Core.Path.{refl}
use Rattle.store.proofs.offer.Goals as goal

pub returns-in-Err : goal.returns-in-Err
returns-in-Err c = let (n, e) = unsound _ _ c.in-Err.ensures in rw e (offer_10 _ _ _ refl n _ _ _ _)

pub offer-requires : goal.offer-requires
offer-requires c = is_sound_lem _ _ _ refl (passed _ c.in_default.ensures)
