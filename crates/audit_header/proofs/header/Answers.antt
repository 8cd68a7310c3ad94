use Rattle.std.proofs.Common.{◌≡◌, false, not, sym, ap, ◌∙◌, arith}
use Rattle.lists.proofs.Checkers.{clash}
use Rattle.audit_header.proofs.Answers.{too_short, out_of_range, not_written, by_lengths}
use Rattle.audit_header.proofs.header.Goals.{then-in_range, else-in_range}
use Rattle.audit_header.proofs.header.Goals as goal

pub returns-then-table-lt-HEADER_WORDS : goal.returns-then-table-lt-HEADER_WORDS
returns-then-table-lt-HEADER_WORDS c = too_short _ _ (omega arith)

pub returns-then-measures_written : goal.returns-then-measures_written
returns-then-measures_written c = elim c.if-in_range.branch [
  | then-in_range w ↦ by_lengths _ _ _ c.capacities_in-c.ensures (omega arith) (sym c.in_range.ensures ∙ w.if-in_range.true) (w.measures_written.ensures.holds (sym w.value-is ∙ c.if-measures_written.true)) c.lengths_fit.ensures
  | else-in_range w ↦ absurd (clash (w.value-is ∙ w.if-in_range.false) c.if-measures_written.true)
]

pub returns-else-measures_written : goal.returns-else-measures_written
returns-else-measures_written c = rw c.if-measures_written.false (elim c.if-in_range.branch [
  | then-in_range w ↦ not_written _ _ _ c.capacities_in-c.ensures w.measures_written.ensures (ap not (sym w.value-is ∙ c.if-measures_written.false))
  | else-in_range w ↦ out_of_range _ _ _ c.capacities_in-c.ensures (sym c.in_range.ensures ∙ w.if-in_range.false)
])
