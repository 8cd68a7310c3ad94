use mathlib.Core.Path.{ap}
use mathlib.Core.List.{List, ◌++◌}
use Prim.Native.Nat.{ℕ}
use native.Mathlib.Omega.{arith}
use lib.ListN.{drop}
use Rattle.backup_file.proofs.Slots.{slot_put}
use Rattle.backup_file.proofs.put_slot.Goals as goal

pub returns : goal.returns
returns c = slot_put c.args.slot.now _ _ c.args.pointers.now c.args.number c.args.bytes c.args.day (omega (arith, c.requires)) (ap (λ (x : List ℕ). x ++ drop 3 c.args.slot.now) c.copy_from_slice.ensures.after) c.copy_in.ensures
