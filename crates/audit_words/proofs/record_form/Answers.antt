use Rattle.audit_words.proofs.Free.{free_decides}
use Rattle.audit_words.proofs.record_form.Goals as goal

pub returns-then-row-eq0 : goal.returns-then-row-eq0
returns-then-row-eq0 c = free_decides c.args.n c.args.row.now c.requires.0 c.if-row-eq0.true _ c.zeros.ensures
