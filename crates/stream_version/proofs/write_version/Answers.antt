use mathlib.Core.Path.{◌∙◌}
use Rattle.stream_version.proofs.Laws.{into_zeros}
use borrow.Author.Rules.{rules}
use Rattle.stream_version.proofs.write_version.Goals as goal

pub write_through-requires : goal.write_through-requires
write_through-requires c = (c.requires, search rules)

pub returns : goal.returns
returns c = c.write_through.ensures ∙ into_zeros _ _ _ _ _
