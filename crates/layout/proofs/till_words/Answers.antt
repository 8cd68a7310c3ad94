use Rattle.laws.proofs.Measures.{sizes}
use native.Mathlib.Omega.{arith}
use Rattle.layout.proofs.till_words.Goals as goal

pub overflow_mul-result : goal.overflow_mul-result
overflow_mul-result c = let p = c.requires in omega (arith, (sizes 0 _ _ (omega arith) p.versions p.blocks).0)

pub overflow_add-result-2 : goal.overflow_add-result-2
overflow_add-result-2 c = let p = c.requires in omega (arith, (sizes 0 _ _ (omega arith) p.versions p.blocks).0)
