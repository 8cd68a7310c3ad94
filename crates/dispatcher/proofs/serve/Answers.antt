use native.Mathlib.Omega.{arith}
use Rattle.dispatcher.proofs.Steps.{short, power, marked, served_so}
use Rattle.dispatcher.proofs.serve.Goals as goal

pub overflow_shl-next : goal.overflow_shl-next
overflow_shl-next c = omega (arith, short _ c.requires.turn_value _ c.requires.turn_value_2)

pub overflow_sub-next : goal.overflow_sub-next
overflow_sub-next c = omega (arith, power _ c.requires.turn_value _ c.requires.turn_value_2, marked _ c.requires.turn_value _ c.requires.turn_value_2)

pub returns : goal.returns
returns c = served_so _ c.requires.turn_value _ c.requires.turn_value_2
