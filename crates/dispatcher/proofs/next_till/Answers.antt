use native.Mathlib.Omega.{arith}
use borrow.Author.Rules.{rules}
use Rattle.dispatcher.proofs.Next.{few_tills, last_present, next_after, next_around}
use Rattle.dispatcher.proofs.Steps.{first_after, first_of_all}
use Rattle.dispatcher.proofs.next_till.Goals as goal

pub overflow_add-first : goal.overflow_add-first
overflow_add-first c = omega (arith, few_tills _ c.requires.turn_value, last_present _ c.requires.turn_value)

pub overflow_shr-after : goal.overflow_shr-after
overflow_shr-after c = omega (arith, few_tills _ c.requires.turn_value, last_present _ c.requires.turn_value)

pub overflow_add-result : goal.overflow_add-result
overflow_add-result c = omega (arith, few_tills _ c.requires.turn_value, (next_after _ c.requires.turn_value _ (first_after _ c.requires.turn_value (search rules))).1)

pub returns-then-after-ne0 : goal.returns-then-after-ne0
returns-then-after-ne0 c = (next_after _ c.requires.turn_value _ (first_after _ c.requires.turn_value (search rules))).0

pub returns : goal.returns
returns c = next_around _ c.requires.turn_value _ c.if-after-ne0.false (first_of_all _ c.requires.turn_value c.requires.waiting_nonzero)
