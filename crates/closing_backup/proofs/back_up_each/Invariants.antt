use mathlib.Core.Path.{◌≡◌}
use Prim.Native.Nat.{◌-◌}
use lib.ListN.{length}
use Rattle.closing_backup.proofs.Going.{Going}
use Rattle.closing_backup.proofs.back_up_each.Given as goal

abbrev pub invariant-loop-i : goal.invariant-loop-i
invariant-loop-i l = Going l.limit.others l.limit.most l.initial.pool l.initial.table l.user l.tills l.lengths l.images l.pool l.table l.refusals l.versions l.from l.i × (length l.pool ≡ length l.initial.pool) × (length l.table ≡ length l.initial.table)
