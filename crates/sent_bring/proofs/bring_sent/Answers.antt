use mathlib.Core.Path.{sym, ◌∙◌}
use Rattle.sent_bring.proofs.Had.{brings_not, brings_so, sent_print, all_put}
use Rattle.sent_bring.proofs.bring_sent.Goals as goal

pub returns-then-not-same : goal.returns-then-not-same
returns-then-not-same c = brings_not _ _ _ (sym (sent_print c.args.width c.args.segments.now c.args.prints.now c.args.s c.args.fingerprint.now _ c.requires.0 c.requires.1 c.same.ensures) ∙ c.if-not-same.true)

pub returns : goal.returns
returns c = brings_so _ _ _ (sym (sent_print c.args.width c.args.segments.now c.args.prints.now c.args.s c.args.fingerprint.now _ c.requires.0 c.requires.1 c.same.ensures) ∙ c.if-not-same.false)
    (all_put c.args.out.now c.args.width _ _ c.requires.3 c.copy_part.ensures)
