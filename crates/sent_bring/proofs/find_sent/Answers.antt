use native.Mathlib.Omega.{arith}
use mathlib.Core.Path.{refl, sym, ◌∙◌}
use Rattle.sent_bring.proofs.Prints.{sent_yes, sent_no, sent_end}
use Rattle.sent_bring.proofs.find_sent.Goals as goal

pub loop-k-init : goal.loop-k-init
loop-k-init c = refl

pub returns-then-same : goal.returns-then-same
returns-then-same c = let a = c.args in
    (sent_yes a.prints.now a.fingerprint.now a.n c.loop-k.k (omega arith) (sym c.if-same.true ∙ c.same.ensures) c.loop-k.invariant, omega arith)

pub loop-k-preserved : goal.loop-k-preserved
loop-k-preserved c = let a = c.args in
    sent_no a.prints.now a.fingerprint.now a.n c.loop-k.k (omega arith) (sym c.if-same.false ∙ c.same.ensures) c.loop-k.invariant

pub returns : goal.returns
returns c = let a = c.args in
    sent_end a.prints.now a.fingerprint.now a.n c.loop-k.k (omega arith) c.loop-k.invariant
