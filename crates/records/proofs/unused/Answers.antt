use Rattle.records.proofs.Records.{unused_even, unused_odd}
use Rattle.records.proofs.unused.Goals as goal

pub returns-then-held-ne0 : goal.returns-then-held-ne0
returns-then-held-ne0 c = unused_odd _ _ c.if-held-ne0.true

pub returns-else-held-ne0 : goal.returns-else-held-ne0
returns-else-held-ne0 c = unused_even _ _ c.if-held-ne0.false
