use Rattle.records.proofs.Records.{size_is}
use Rattle.records.proofs.Record.size.Goals as goal

pub returns : goal.returns
returns c = size_is c.args.self c.requires
