use Rattle.backup.proofs.Answers.{undated}
use Rattle.backup.proofs.back_up.Goals as goal

pub returns : goal.returns
returns c = let n = c.newest_day-day in
    undated c.requires.0 c.args.limit.others c.args.limit.most c.args.till c.args.image.now n.result n.ensures _ c.back_up_dated.ensures
