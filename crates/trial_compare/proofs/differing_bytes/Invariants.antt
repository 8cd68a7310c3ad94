use Rattle.std.proofs.Common.{◌≡◌, ◌≤◌, ◌+◌, drop}
use Rattle.trial_compare.specs.Bytes.{differing}
use Rattle.trial_compare.proofs.differing_bytes.Given as goal

abbrev pub invariant-loop-i : goal.invariant-loop-i
invariant-loop-i l = (l.n ≤ l.i) × (l.n + differing (drop l.i l.a) (drop l.i l.b) ≡ differing l.a l.b)
