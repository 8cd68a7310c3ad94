use Rattle.std.proofs.Common.{◌≡◌, ℕ, ◌*◌, ◌≤◌, length, get_or, drop}
use Rattle.bill_sums.specs.Marks.{share_all}
use Rattle.bill_sums.proofs.share_all.Given as goal

abbrev pub invariant-loop-mark : goal.invariant-loop-mark
invariant-loop-mark l = (length l.sums ≡ length l.initial.sums) × (share_all l.price (drop l.mark-index l.marks) l.sums ≡ share_all l.price l.marks l.initial.sums) × ((t : ℕ) → get_or l.sums t 0 ≤ 10001 * l.mark-index)
