use Rattle.lists.proofs.Marks.{one_out, one_twice, one_marked}
use Rattle.audit_cells.proofs.mark_cell.Goals.{then-cells-c-via-then-cells-c, then-cells-c-via-else-cells-c+then-occupied-c}
use Rattle.audit_cells.proofs.mark_cell.Goals as goal

pub returns-then-cells-c : goal.returns-then-cells-c
returns-then-cells-c c = elim c.then-cells-c.branch [
  | then-cells-c-via-then-cells-c w ↦ one_out _ _ c.args.occupied.now w.if-cells-c.true
  | then-cells-c-via-else-cells-c+then-occupied-c w ↦ one_twice _ _ c.args.occupied.now w.if-cells-c.false w.if-occupied-c.true
]

pub returns : goal.returns
returns c = one_marked _ _ c.args.occupied.now c.if-cells-c.false c.if-occupied-c.false
