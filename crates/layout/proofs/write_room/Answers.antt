use Prim.Native.Nat.{ℕ, ◌<◌}
use native.Mathlib.Omega.{arith}
use lib.ListN.{length, set}
use borrow.Author.Rules.{Below-set}
use Rattle.layout.proofs.write_room.Goals as goal

pub bounds-table-1 : goal.bounds-table-1
bounds-table-1 c = let p : 1 < length c.args.table.now = omega (arith, c.requires) in Below-set ℕ c.args.table.now 1 0 c.args.c.tills p

pub bounds-table-2 : goal.bounds-table-2
bounds-table-2 c = let p : 2 < length c.args.table.now = omega (arith, c.requires) in Below-set ℕ (set c.args.table.now 0 c.args.c.tills) 2 1 c.args.c.versions (Below-set ℕ c.args.table.now 2 0 c.args.c.tills p)

pub bounds-table-3 : goal.bounds-table-3
bounds-table-3 c = let p : 3 < length c.args.table.now = omega (arith, c.requires) in Below-set ℕ (set (set c.args.table.now 0 c.args.c.tills) 1 c.args.c.versions) 3 2 c.args.c.blocks (Below-set ℕ (set c.args.table.now 0 c.args.c.tills) 3 1 c.args.c.versions (Below-set ℕ c.args.table.now 3 0 c.args.c.tills p))

pub bounds-table-4 : goal.bounds-table-4
bounds-table-4 c = let p : 4 < length c.args.table.now = omega (arith, c.requires) in Below-set ℕ (set (set (set c.args.table.now 0 c.args.c.tills) 1 c.args.c.versions) 2 c.args.c.blocks) 4 3 c.args.c.records (Below-set ℕ (set (set c.args.table.now 0 c.args.c.tills) 1 c.args.c.versions) 4 2 c.args.c.blocks (Below-set ℕ (set c.args.table.now 0 c.args.c.tills) 4 1 c.args.c.versions (Below-set ℕ c.args.table.now 4 0 c.args.c.tills p)))
