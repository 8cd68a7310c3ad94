use native.Mathlib.Omega.{arith}
use borrow.Author.Tests.{ne_eqb}
use Rattle.laws.proofs.Ranges.{ranges}
use Rattle.layout.proofs.Laws.{products, other_pool, right_pool}
use Rattle.layout.proofs.lengths_fit.Goals as goal

pub overflow_mul-c : goal.overflow_mul-c
overflow_mul-c c = omega (arith, products _ (ranges _ c.requires))

pub table_words-requires : goal.table_words-requires
table_words-requires c = ranges _ c.requires

pub returns-then-pool-c : goal.returns-then-pool-c
returns-then-pool-c c = right_pool _ _ _ _ c.if-pool-c.true c.table_words.ensures.0

pub returns-else-pool-c : goal.returns-else-pool-c
returns-else-pool-c c = rw (ne_eqb _ _ c.if-pool-c.false) (other_pool _ _ _ c.if-pool-c.false)
