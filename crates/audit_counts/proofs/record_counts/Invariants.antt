use Prim.Native.Nat.{◌^◌, ◌<◌}
use Rattle.audit_counts.proofs.Held.{Left}
use Rattle.audit_counts.proofs.record_counts.Given as goal

abbrev pub invariant-loop-m : goal.invariant-loop-m
invariant-loop-m l = (l.m < 2 ^ 32) × Left l.n l.m l.row l.counts

abbrev pub decreases-loop-m : goal.decreases-loop-m
decreases-loop-m l = l.m
