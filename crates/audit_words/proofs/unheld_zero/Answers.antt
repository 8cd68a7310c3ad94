use Rattle.lists.proofs.Checkers.{same_as}
use native.Mathlib.Omega.{arith}
use borrow.Author.Count.{below_none}
use Rattle.lists.proofs.Checkers.{is_so}
use Rattle.audit_words.proofs.Disjoint.{clear_more}
use Rattle.audit_words.proofs.unheld_zero.Goals as goal

pub loop-i-init : goal.loop-i-init
loop-i-init c = is_so (below_none _)

pub loop-i-preserved : goal.loop-i-preserved
loop-i-preserved c = clear_more c.args.n c.args.row.now c.loop-i.i c.loop-i.all _ _ c.bit.ensures c.unheld-all.ensures c.loop-i.invariant

pub returns : goal.returns
returns c = same_as (λ f k h. f k (omega arith)) (λ f k h. f k (omega arith)) c.loop-i.invariant
