use Rattle.tills.proofs.Cases.{head_is}
use Rattle.tills.proofs.till_head.Goals as goal

pub returns : goal.returns
returns c = head_is c.requires.0 _ c.requires.1 _ c.till_words.ensures
