use Prim.Native.Nat.{◌≤◌, ◌-◌}
use lib.ListN.{length, drop}
use Rattle.stream_laws.proofs.Steps.{Alike, groups_of}
use Rattle.stream_check.proofs.check_body.Given as goal

abbrev pub invariant-loop-start : goal.invariant-loop-start
invariant-loop-start l = (l.at ≤ length l.stream) × Alike (groups_of l.n (drop 4 l.stream)) (groups_of (l.n - l.start) (drop l.at l.stream))

abbrev pub decreases-loop-start : goal.decreases-loop-start
decreases-loop-start l = l.n - l.start
