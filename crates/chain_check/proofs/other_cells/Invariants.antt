use mathlib.Core.Path.{◌≡◌}
use Prim.Native.Nat.{◌+◌, ◌*◌, ◌≤◌, ◌-◌}
use lib.ListN.{length}
use Rattle.lists.specs.Lists.{total}
use Rattle.chain.specs.Chain.{chain_of}
use Rattle.chain.specs.Limit.{other_cells}
use Rattle.chain_check.proofs.Cells.{later, beside_store}
use Rattle.chain_check.proofs.other_cells.Given as goal

abbrev pub invariant-loop-j : goal.invariant-loop-j
invariant-loop-j l = (l.cells ≤ l.j * 65536) × (l.cells + total (beside_store (chain_of l.pools l.tables l.pool_lengths l.table_lengths) l.store) (later l.j (length l.pool_lengths)) ≡ other_cells (chain_of l.pools l.tables l.pool_lengths l.table_lengths) l.store)
