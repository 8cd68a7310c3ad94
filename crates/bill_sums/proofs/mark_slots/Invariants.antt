use mathlib.Core.Path.{◌≡◌}
use Prim.Native.Nat.{◌-◌, ◌≤◌}
use lib.ListN.{length}
use Rattle.audit_tills.specs.Sound.{slots_pointers}
use Rattle.bill_sums.specs.Marks.{mark_words}
use Rattle.bill_sums.proofs.mark_slots.Given as goal

abbrev pub invariant-loop-i : goal.invariant-loop-i
invariant-loop-i l = (length l.marks ≡ length l.initial.marks) × (l.marks ≡ mark_words l.bit (slots_pointers l.bytes l.blocks l.i l.slots) l.initial.marks)
