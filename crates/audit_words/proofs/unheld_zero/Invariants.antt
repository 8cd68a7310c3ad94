use Rattle.std.proofs.Common.{ℕ, ◌<◌}
use lib.Dec.{eqb}
use Rattle.lists.specs.Decides.{Decides}
use Rattle.audit_words.proofs.Disjoint.{Clear}
use Rattle.audit_words.proofs.unheld_zero.Given as goal

abbrev pub invariant-loop-i : goal.invariant-loop-i
invariant-loop-i l = Decides (eqb l.all 0) ((k : ℕ) → k < l.i → Clear l.n l.row k)
