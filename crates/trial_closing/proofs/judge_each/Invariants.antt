use Rattle.std.proofs.Common.{◌≤◌, length}
use Rattle.trial_closing.proofs.judge_each.Given as goal

abbrev pub invariant-loop-i : goal.invariant-loop-i
invariant-loop-i l = l.from ≤ length l.sent
