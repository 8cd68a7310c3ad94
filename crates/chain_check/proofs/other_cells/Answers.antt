use native.Mathlib.Omega.{arith}
use Prim.Native.Nat.{◌-◌}
use Rattle.chain_check.proofs.Refusals.{fitting, sound_chain}
use Rattle.chain_check.proofs.Cells.{others_first, others_next, others_all}
use Rattle.chain_check.proofs.other_cells.Goals as goal

pub loop-j-init : goal.loop-j-init
loop-j-init c = (omega arith, others_first _ _)

pub cells_beside-cells-requires : goal.cells_beside-cells-requires
cells_beside-cells-requires c = (sound_chain _ _ c.requires, omega arith)

pub overflow_add-cells : goal.overflow_add-cells
overflow_add-cells c = omega (arith, (fitting _ _ c.requires).few)

pub loop-j-preserved : goal.loop-j-preserved
loop-j-preserved c = (omega arith, others_next _ _ _ _ c.loop-j.invariant.1 (omega arith) _ c.cells_beside-cells.ensures.0)

pub returns : goal.returns
returns c = (others_all _ _ _ _ c.loop-j.invariant.1 (omega arith), omega (arith, (fitting _ _ c.requires).few))
