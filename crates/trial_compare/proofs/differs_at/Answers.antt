use Rattle.trial_compare.proofs.Wrong.{none_there, one_there}
use Rattle.trial_compare.proofs.differs_at.Goals.{then-bytes-at, else-bytes-at}
use Rattle.trial_compare.proofs.differs_at.Goals as goal

pub returns : goal.returns
returns c = elim c.if-bytes-at.branch [
  | then-bytes-at w ↦ none_there c.args.bytes.now c.args.at c.args.byte _ _ c.from.ensures w.if-bytes-at.true w.from-is
  | else-bytes-at w ↦ one_there c.args.bytes.now c.args.at c.args.byte _ _ c.from.ensures w.if-bytes-at.false w.from-is
]
