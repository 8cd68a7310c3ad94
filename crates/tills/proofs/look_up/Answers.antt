use Rattle.tills.proofs.Cases.{looked_at}
use Rattle.tills.proofs.look_up.Goals as goal

pub returns-in-Some : goal.returns-in-Some
returns-in-Some c = let a = c.args in looked_at _ _ a.head c.requires.2 _ c.in-Some.ensures
