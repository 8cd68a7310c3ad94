use mathlib.Core.Path.{◌≡◌}
use Prim.Native.Nat.{◌-◌, ◌≤◌}
use lib.ListN.{length, drop}
use Rattle.bill_sums.specs.Marks.{mark_words}
use Rattle.bill_sums.proofs.mark_each.Given as goal

abbrev pub invariant-loop-w : goal.invariant-loop-w
invariant-loop-w l = (length l.marks ≡ length l.initial.marks) × (mark_words l.bit (drop l.w-index l.words) l.marks ≡ mark_words l.bit l.words l.initial.marks)
