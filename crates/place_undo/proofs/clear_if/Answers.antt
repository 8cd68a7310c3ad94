use native.Mathlib.Omega.{arith}
use mathlib.Core.Path.{◌∙◌, ap}
use Rattle.model.specs.Sweep.{clear_cells}
use Rattle.model.specs.Table.{cells_in}
use Rattle.place_undo.proofs.Undoing.{clear_one}
use Rattle.place_undo.proofs.clear_if.Goals as goal

pub returns-then-bit-eq0 : goal.returns-then-bit-eq0
unfolding clear_cells
returns-then-bit-eq0 c = rw c.if-bit-eq0.true

pub returns : goal.returns
returns c = ap (cells_in c.args.bytes) c.clear_cell.ensures ∙ clear_one c.args.bytes c.args.pool.now c.args.bit c.args.cell.0 c.requires.2 (omega arith) c.requires.1
