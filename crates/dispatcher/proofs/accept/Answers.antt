use Rattle.dispatcher.specs.Turns.{turn_for, idle_turn}
use Rattle.dispatcher.proofs.Next.{next_none}
use Rattle.dispatcher.proofs.accept.Goals as goal

pub returns-then-turn-eq0 : goal.returns-then-turn-eq0
unfolding turn_for idle_turn
returns-then-turn-eq0 c = rw (next_none c.args.turn c.if-turn-eq0.true)

pub returns : goal.returns
unfolding turn_for
returns c = rw c.next_till-till.ensures c.serve.ensures
