use Rattle.std.proofs.Common.{sym, ◌∙◌, get_or}
use borrow.Author.Tests.{eqb-false, eqb-true}
use Rattle.storage.proofs.Free.{row_by, row_not_held, row_not_whole}
use Rattle.place_free.proofs.row_free.Goals as goal
use Rattle.place_free.proofs.row_free.Goals.{then-row-eq0, else-row-eq0}

pub returns-then-row-eq0-2 : goal.returns-then-row-eq0-2
returns-then-row-eq0-2 c = λ seg s.
    let row = c.args.row.now in
    elim c.if-row-eq0.branch [
      | then-row-eq0 w ↦ row_by seg row s w.if-row-eq0.true (eqb-true (get_or row 1 0) 0 (sym w.value-is ∙ c.if-row-eq0-2.true))
      | else-row-eq0 w ↦ absurd (w.if-row-eq0.false (eqb-true (get_or row 0 0) 0 (sym w.value-is ∙ c.if-row-eq0-2.true)))
    ]

pub returns-else-row-eq0-2 : goal.returns-else-row-eq0-2
returns-else-row-eq0-2 c = λ seg s.
    let row = c.args.row.now in
    elim c.if-row-eq0.branch [
      | then-row-eq0 w ↦ c.if-row-eq0-2.false ∙ row_not_whole seg row s (eqb-false (get_or row 1 0) 0 (sym w.value-is ∙ c.if-row-eq0-2.false))
      | else-row-eq0 w ↦ c.if-row-eq0-2.false ∙ row_not_held seg row s w.if-row-eq0.false
    ]
