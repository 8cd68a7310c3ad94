use native.Mathlib.Omega.{arith}
use Prim.Native.Nat.{◌*◌, ◌+◌, ◌-◌}
use mathlib.Core.Path.{◌≡◌, ap, ◌∙◌}
use mathlib.Core.Bool.{not}
use Rattle.sent_prints.proofs.Lets.{lets_bare, lets_held}
use Rattle.sent_prints.proofs.position_lets.Goals as goal

pub returns-then-held-eq0 : goal.returns-then-held-eq0
returns-then-held-eq0 c = λ s p e h r q. lets_bare s c.args.held p h r c.if-held-eq0.true

pub returns : goal.returns
returns c = λ s p e h r q.
    let a = c.args in
    let f : c.byte-from.result ≡ a.cell.0 * a.bytes = c.byte-from.ensures in
    let k : a.cell.0 * a.bytes + a.bytes - a.cell.0 * a.bytes ≡ a.bytes = omega arith in
    ap not (rw (f, k) at c.pieces_filled.ensures)
    ∙ lets_held s a.held a.cell.0 a.bytes a.pool.now e (omega arith) c.requires.1 p h c.if-held-eq0.false q
