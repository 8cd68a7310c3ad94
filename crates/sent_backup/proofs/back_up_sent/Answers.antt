use borrow.Author.Rules.{rules}
use Rattle.sent_backup.proofs.back_up_sent.Goals as goal

pub back_up_through-requires : goal.back_up_through-requires
back_up_through-requires c = (c.requires.0, search rules, c.requires.1)
