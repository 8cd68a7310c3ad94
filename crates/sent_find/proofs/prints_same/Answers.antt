use mathlib.Core.Path.{◌∙◌}
use borrow.Author.Tests.{ne_eqb}
use Rattle.sent_find.proofs.Numbers.{prints_apart}
use Rattle.sent_find.proofs.prints_same.Goals as goal

pub returns-else-print-fingerprint : goal.returns-else-print-fingerprint
returns-else-print-fingerprint c = ne_eqb _ _ c.if-print-fingerprint.false ∙ prints_apart c.args.print.now c.args.fingerprint.now c.requires.0 c.requires.1 c.if-print-fingerprint.false
