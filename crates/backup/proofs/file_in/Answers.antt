use Rattle.backup.proofs.Filed.{filed_on}
use Rattle.backup.proofs.file_in.Goals as goal

pub returns : goal.returns
returns c = filed_on c.args.at c.args.end c.args.b c.args.turned.now c.args.bytes c.args.day c.args.pointers.now c.args.table.now _ c.file_version.ensures
