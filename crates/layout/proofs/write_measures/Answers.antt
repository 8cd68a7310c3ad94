use native.Mathlib.Omega.{arith}
use Prim.Native.Nat.{ℕ, ◌<◌}
use lib.ListN.{length}
use borrow.Author.Rules.{Below-set}
use Rattle.layout.proofs.write_measures.Goals as goal

pub bounds-table-6 : goal.bounds-table-6
bounds-table-6 c = let p : 6 < length c.args.table.now = omega (arith, c.requires) in Below-set ℕ c.args.table.now 6 5 c.args.bytes p
