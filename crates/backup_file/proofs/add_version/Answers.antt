use borrow.Author.Rules.{rules}
use Rattle.lists.proofs.Sets.{two_set}
use Rattle.backup_file.proofs.Slots.{version_added}
use Rattle.backup_file.proofs.add_version.Goals as goal

pub returns : goal.returns
returns c = version_added _ _ _ _ _ _ _ c.requires.2 c.put_slot.ensures (two_set _ _ _ (search rules))
