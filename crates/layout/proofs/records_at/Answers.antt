use Rattle.model.specs.Table as table
use Rattle.laws.proofs.Measures.{sizes}
use lib.ListN.{get_or}
use mathlib.Core.Path.{ap}
use Prim.Native.Nat.{ℕ, ◌+◌, ◌*◌}
use native.Mathlib.Omega.{arith}
use Rattle.layout.proofs.records_at.Goals as goal

pub overflow_mul-result : goal.overflow_mul-result
overflow_mul-result c = let p = c.requires in rw c.till_words.ensures (omega (arith, (sizes _ _ _ p.tills p.versions p.blocks).1))

pub overflow_add-result : goal.overflow_add-result
overflow_add-result c = let p = c.requires in rw c.till_words.ensures (omega (arith, (sizes _ _ _ p.tills p.versions p.blocks).1))

pub returns : goal.returns
unfolding table.shape_of
returns c = ap (λ (n : ℕ). 8 + get_or c.args.table.now 0 0 * n) c.till_words.ensures
