use native.Mathlib.Omega.{arith}
use Prim.Native.Nat.{ℕ, ◌+◌, ◌*◌}
use native.Mathlib.Nat.{mul-le-mul}
use Rattle.model.specs.Measures as measures
use mathlib.Core.Path.{ap}
use Rattle.layout.proofs.Laws.{products}
use Rattle.layout.proofs.table_words.Goals as goal

pub overflow_mul-till : goal.overflow_mul-till
overflow_mul-till c = omega (arith, products _ c.requires)

pub overflow_add-till : goal.overflow_add-till
overflow_add-till c = omega (arith, products _ c.requires)

pub overflow_mul-result : goal.overflow_mul-result
overflow_mul-result c = omega (arith, products _ c.requires)

pub overflow_add-result : goal.overflow_add-result
overflow_add-result c = omega (arith, products _ c.requires)

pub overflow_mul-result-2 : goal.overflow_mul-result-2
overflow_mul-result-2 c = omega (arith, mul-le-mul c.requires.records c.row_words-record.ensures.1)

pub overflow_add-result-2 : goal.overflow_add-result-2
overflow_add-result-2 c = omega (arith, products _ c.requires, mul-le-mul c.requires.records c.row_words-record.ensures.1)

pub returns : goal.returns
unfolding measures.table_words
returns c = (ap (λ (k : ℕ). (8 + c.args.c.tills * (4 + c.args.c.versions * (3 + c.args.c.blocks))) + c.args.c.records * k) c.row_words-record.ensures.0, omega (arith, products _ c.requires, mul-le-mul c.requires.records c.row_words-record.ensures.1))
