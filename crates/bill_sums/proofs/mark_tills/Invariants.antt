use mathlib.Core.Path.{◌≡◌}
use Prim.Native.Nat.{◌-◌, ◌≤◌}
use lib.ListN.{length}
use Rattle.bill_sums.specs.Marks.{mark_tills}
use Rattle.bill_sums.proofs.mark_tills.Given as goal

abbrev pub invariant-loop-t : goal.invariant-loop-t
invariant-loop-t l = (length l.marks ≡ length l.initial.marks) × (l.marks ≡ mark_tills l.bytes l.blocks l.width l.tills l.t l.initial.marks)
