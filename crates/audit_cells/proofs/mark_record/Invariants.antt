use Prim.Native.Nat.{◌^◌, ◌<◌}
use Rattle.audit_cells.proofs.Held.{Left}
use Rattle.audit_cells.proofs.mark_record.Given as goal

abbrev pub invariant-loop-m : goal.invariant-loop-m
invariant-loop-m l = (l.m < 2 ^ 32) × Left l.n l.cells l.m l.row l.initial.occupied l.occupied

abbrev pub decreases-loop-m : goal.decreases-loop-m
decreases-loop-m l = l.m
