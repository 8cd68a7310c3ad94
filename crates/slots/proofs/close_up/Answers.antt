use native.Mathlib.Omega.{arith}
use mathlib.Core.Path.{subst}
use mathlib.Core.List.{List}
use Prim.Native.Nat.{ℕ}
use Rattle.slots.proofs.Slots.{Drops, closed_first, closed_later}
use Rattle.slots.proofs.close_up.Goals as goal
use Rattle.slots.proofs.close_up.Goals.{then-j-gt0, else-j-gt0}

pub returns : goal.returns
returns c = λ v last rights older u newer ps lo few et ep lp.
    elim c.if-j-gt0.branch [
      | then-j-gt0 w ↦ closed_later _ _ v last rights _ older u newer ps lo few et (λ z. omega arith) _ ep lp _ _ w.put_pointers.ensures.0
          (subst (λ (t : List ℕ). Drops c.args.b c.args.j t c.drop_slot.new.till) w.till-is c.drop_slot.ensures)
      | else-j-gt0 w ↦ closed_first _ _ v last rights _ older u newer ps lo few et (omega arith) _
          (subst (λ (t : List ℕ). Drops c.args.b c.args.j t c.drop_slot.new.till) w.till-is c.drop_slot.ensures)
    ]
