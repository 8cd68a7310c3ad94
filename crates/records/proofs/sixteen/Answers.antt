use Rattle.std.proofs.Common.{refl}
use Rattle.lists.specs.Rows.{fill}
use Rattle.records.proofs.Words.{part_filled}
use Rattle.records.proofs.sixteen.Goals as goal

pub returns : goal.returns
unfolding fill
returns c = part_filled c.args.words.now _ _ c.args.at c.args.n c.requires.0 c.requires.1 refl c.copy_from_slice.ensures.after
