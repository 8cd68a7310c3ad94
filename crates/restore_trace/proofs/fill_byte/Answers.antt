use mathlib.Core.Path.{◌∙◌, sym}
use borrow.Author.Tests.{eqb-false, eqb-true}
use Rattle.restore_trace.proofs.Images.{blank_fill, null_fill}
use Rattle.restore_trace.proofs.fill_byte.Goals as goal

pub returns-then-is_blank : goal.returns-then-is_blank
returns-then-is_blank c = blank_fill c.args.pointer.0 (eqb-true _ _ (sym c.is_blank.ensures ∙ c.if-is_blank.true))

pub returns-else-is_blank : goal.returns-else-is_blank
returns-else-is_blank c = null_fill c.args.pointer.0 (eqb-false _ _ (sym c.is_blank.ensures ∙ c.if-is_blank.false))
