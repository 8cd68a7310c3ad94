use mathlib.Core.Path.{refl}
use Rattle.slots.proofs.Slots.{slot_dropped}
use Rattle.slots.proofs.drop_slot.Goals as goal

pub returns : goal.returns
returns c = λ v last rights older u newer lo few et. slot_dropped _ _ _ v last rights older u newer lo few et _ _ refl c.shift.ensures
