use native.Mathlib.Omega.{arith}
use borrow.Author.Tests.{lt-leb}
use Prim.Native.Nat.{◌/◌}
use Rattle.layout.proofs.Laws.{below, by_product}
use Rattle.layout.proofs.blocks_within.Goals as goal

pub returns-then-blocks-ge1 : goal.returns-then-blocks-ge1
returns-then-blocks-ge1 c = by_product _ _ c.requires.0 (omega arith)

pub returns-else-blocks-ge1 : goal.returns-else-blocks-ge1
returns-else-blocks-ge1 c = rw (lt-leb 1 c.args.blocks (omega arith)) (below 1 (65536 / c.args.bytes) c.args.blocks (omega arith))
