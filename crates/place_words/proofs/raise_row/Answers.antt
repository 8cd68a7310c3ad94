use Rattle.place_words.proofs.Rowing.{raised_row}
use Rattle.place_words.proofs.raise_row.Goals as goal

pub returns : goal.returns
returns c = λ seg e s. raised_row c.args.n seg e c.args.row.now s _ c.raise.ensures
