use Rattle.dispatcher.proofs.Steps.{no_tills, many_tills, high_mark, by_last}
use Rattle.dispatcher.proofs.is_turn.Goals as goal

pub returns-then-tills-lt1 : goal.returns-then-tills-lt1
returns-then-tills-lt1 c = no_tills c.args.turn c.if-tills-lt1.true

pub returns-then-tills-gt16 : goal.returns-then-tills-gt16
returns-then-tills-gt16 c = many_tills c.args.turn c.if-tills-lt1.false c.if-tills-gt16.true

pub returns-then-tills-turn : goal.returns-then-tills-turn
returns-then-tills-turn c = high_mark c.args.turn c.if-tills-lt1.false c.if-tills-gt16.false c.if-tills-turn.true

pub returns : goal.returns
returns c = by_last c.args.turn c.if-tills-lt1.false c.if-tills-gt16.false c.if-tills-turn.false
