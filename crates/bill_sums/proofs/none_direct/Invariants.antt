use Rattle.std.proofs.Common.{◌≡◌, false, cond, drop}
use Rattle.bill_sums.specs.Marks.{none_direct}
use Rattle.bill_sums.proofs.none_direct.Given as goal

abbrev pub invariant-loop-w : goal.invariant-loop-w
invariant-loop-w l = cond l.none (none_direct (drop l.w-index l.words)) false ≡ none_direct l.words
