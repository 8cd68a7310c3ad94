use Rattle.std.proofs.Common.{ap, not, ◌∙◌}
use Rattle.backup_steps.proofs.Counting.{never_many}
use Rattle.backup_steps.proofs.too_many.Goals as goal

pub returns-else-exceeded : goal.returns-else-exceeded
returns-else-exceeded c = c.if-exceeded.false ∙ never_many c.args.n c.args.records.now c.requires.1 c.requires.0 c.requires.2 c.args.limit.others c.args.limit.most _ c.exceeded.ensures (ap not c.if-exceeded.false)
