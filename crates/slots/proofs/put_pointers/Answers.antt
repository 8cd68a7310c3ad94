use native.Mathlib.Omega.{arith}
use Prim.Native.Nat.{◌+◌, ◌*◌}
use Rattle.slots.proofs.Slots.{slot_room, head_still, pointers_put}
use Rattle.slots.proofs.put_pointers.Goals as goal

pub returns : goal.returns
returns c = (
  λ v last rights older u newer ps lo few et ep lp. pointers_put _ _ _ v last rights older u newer lo few et _ _ ps c.requires.1 ep lp c.copy_in.ensures,
  head_still (4 + c.args.j * (3 + c.args.b) + 3) c.args.till.now _ (omega arith) (omega (arith, slot_room _ _ _ c.requires.0)),
)
