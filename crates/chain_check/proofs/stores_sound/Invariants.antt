use mathlib.Core.Path.{◌≡◌}
use Prim.Native.Nat.{◌≤◌, ◌-◌}
use lib.ListN.{length}
use Rattle.lists.specs.Lists.{counted, every}
use Rattle.chain.specs.Chain.{chain_of, is_store_at}
use Rattle.chain_check.proofs.Cells.{later}
use Rattle.chain_check.proofs.stores_sound.Given as goal

abbrev pub invariant-loop-i : goal.invariant-loop-i
invariant-loop-i l = every (is_store_at (chain_of l.pools l.tables l.pool_lengths l.table_lengths)) (later l.i (length l.pool_lengths)) ≡ every (is_store_at (chain_of l.pools l.tables l.pool_lengths l.table_lengths)) (counted (λ k. k) 0 (length l.pool_lengths))
