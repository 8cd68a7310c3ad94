use native.Mathlib.Omega.{arith}
use mathlib.Core.Path.{sym, ◌∙◌}
use Rattle.sent_prints.proofs.Lets.{lets_start, lets_here, lets_yes, lets_no, lets_end}
use Rattle.sent_prints.proofs.positions_let.Goals as goal

pub loop-i-init : goal.loop-i-init
loop-i-init c = λ s seg e l q. lets_start s seg c.args.row.now q c.requires.1

pub position_lets-requires : goal.position_lets-requires
position_lets-requires c = (omega arith, c.requires.2 c.loop-i.i (omega arith), c.requires.3, c.requires.4, c.requires.5)

pub returns-then-not-position_lets : goal.returns-then-not-position_lets
returns-then-not-position_lets c = λ s seg e l q.
    let t = c.loop-i.invariant s seg e l q in
    lets_no t (omega arith) (sym c.if-not-position_lets.true ∙ lets_here t (omega arith) c.args.row.now q _ (λ p x y z. c.position_lets.ensures s p e x y z))

pub loop-i-preserved : goal.loop-i-preserved
loop-i-preserved c =
    λ s seg e l q.
    let t = c.loop-i.invariant s seg e l q in
    lets_yes t (omega arith) (sym c.if-not-position_lets.false ∙ lets_here t (omega arith) c.args.row.now q _ (λ p x y z. c.position_lets.ensures s p e x y z))

pub returns : goal.returns
returns c = λ s seg e l q. lets_end (c.loop-i.invariant s seg e l q) (omega arith)
