use native.Mathlib.Omega.{arith}
use borrow.Author.Tests.{lt-leb}
use Rattle.layout.proofs.Laws.{below, above}
use Rattle.layout.proofs.within.Goals as goal

pub returns-then-low-n : goal.returns-then-low-n
returns-then-low-n c = above _ _ _ (omega arith)

pub returns-else-low-n : goal.returns-else-low-n
returns-else-low-n c = rw (lt-leb c.args.low c.args.n (omega arith)) (below c.args.low c.args.high c.args.n (omega arith))
