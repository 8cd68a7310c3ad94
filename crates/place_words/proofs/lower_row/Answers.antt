use Rattle.place_words.proofs.Rowing.{lowered_row}
use Rattle.place_words.proofs.lower_row.Goals as goal

pub returns : goal.returns
returns c = λ seg e s. lowered_row c.args.n seg e c.args.row.now s _ c.lower.ensures
