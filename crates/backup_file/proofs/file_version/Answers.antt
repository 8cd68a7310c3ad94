use Rattle.backup_file.proofs.Slots.{still_room, version_filed}
use Rattle.backup_file.proofs.file_version.Goals as goal

pub add_version-requires : goal.add_version-requires
add_version-requires c = let (r, l) = still_room c.args.b c.args.till.now c.turn_newest.new.till c.turn_newest.ensures.1 c.requires.0 c.requires.1 in (r, l, c.requires.3)

pub returns : goal.returns
returns c = version_filed c.args.b c.args.till.now c.turn_newest.new.till _ c.args.bytes c.args.day c.args.turned.now c.args.pointers.now c.turn_newest.ensures.0 c.add_version.ensures
