use Rattle.std.proofs.Common.{sym, rules}
use borrow.Author.Tests.{eq-eqb}
use Rattle.audit_pointers.proofs.Positions.{pointer_in, pointer_past, null_kind, some_kind}
use Rattle.audit_pointers.proofs.not_null.Goals as goal

pub returns-then-words-at : goal.returns-then-words-at
returns-then-words-at c = rw (pointer_past c.args.words.now c.args.b.0 (search rules))

pub returns-then-kind-ne0 : goal.returns-then-kind-ne0
returns-then-kind-ne0 c = rw (pointer_in c.args.words.now c.args.b.0) (sym (some_kind _ c.if-kind-ne0.true))

pub returns-else-kind-ne0 : goal.returns-else-kind-ne0
returns-else-kind-ne0 c = rw (pointer_in c.args.words.now c.args.b.0, eq-eqb _ _ c.if-kind-ne0.false) (sym (null_kind _ c.if-kind-ne0.false))
