use mathlib.Core.Path.{sym, ◌∙◌}
use Rattle.dispatcher.specs.Turns.{turn_of, idle_turn}
use Rattle.dispatcher.proofs.step.Goals as goal

pub accept-requires : goal.accept-requires
accept-requires c = sym c.is_turn.ensures ∙ c.if-is_turn.true

pub returns-then-is_turn : goal.returns-then-is_turn
unfolding turn_of
returns-then-is_turn c = rw (sym c.is_turn.ensures ∙ c.if-is_turn.true) c.accept.ensures

pub returns : goal.returns
unfolding turn_of idle_turn
returns c = rw (sym c.is_turn.ensures ∙ c.if-is_turn.false)
