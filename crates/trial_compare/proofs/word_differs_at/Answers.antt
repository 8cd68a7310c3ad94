use Rattle.trial_compare.proofs.Wrong.{none_there, one_there}
use Rattle.trial_compare.proofs.word_differs_at.Goals.{then-words-at, else-words-at}
use Rattle.trial_compare.proofs.word_differs_at.Goals as goal

pub returns : goal.returns
returns c = elim c.if-words-at.branch [
  | then-words-at w ↦ none_there c.args.words.now c.args.at c.args.word _ _ c.from.ensures w.if-words-at.true w.from-is
  | else-words-at w ↦ one_there c.args.words.now c.args.at c.args.word _ _ c.from.ensures w.if-words-at.false w.from-is
]
