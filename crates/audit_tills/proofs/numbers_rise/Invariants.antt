use Prim.Native.Nat.{◌-◌}
use Rattle.audit_tills.proofs.Numbers.{StillRises}
use Rattle.audit_tills.proofs.numbers_rise.Given as goal

abbrev pub invariant-loop-i : goal.invariant-loop-i
invariant-loop-i l = StillRises l.blocks l.last l.count l.least l.i l.slots
