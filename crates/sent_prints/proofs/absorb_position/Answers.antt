use native.Mathlib.Omega.{arith}
use mathlib.Core.Path.{◌≡◌, ap, ◌∙◌}
use Prim.Native.Nat.{◌*◌, ◌+◌, ◌-◌}
use Rattle.sha1_definition.specs.Sha1.{absorbed}
use Rattle.storage.proofs.Inside.{cell_is}
use Rattle.sent_laws.proofs.Content.{content_held}
use Rattle.sent_prints.proofs.Content.{chunks_blank, chunks_none}
use Rattle.sent_prints.proofs.absorb_position.Goals as goal

pub returns-then-held-eq1 : goal.returns-then-held-eq1
returns-then-held-eq1 c = λ s p e h q r.
    let a = c.args in
    let f : c.byte-from.result ≡ a.cell.0 * a.bytes = c.byte-from.ensures in
    let k : a.cell.0 * a.bytes + a.bytes - a.cell.0 * a.bytes ≡ a.bytes = omega arith in
    (rw (f, k) at c.absorb_all.ensures)
    ∙ ap (absorbed a.h) (cell_is a.bytes a.pool.now a.cell.0 (omega arith) c.requires.2 s e ∙ content_held a.bytes s p a.held a.cell.0 h c.if-held-eq1.true r)

pub returns-then-blank-eq1 : goal.returns-then-blank-eq1
returns-then-blank-eq1 c = λ s p e h q r.
    let a = c.args in
    c.absorb_same.ensures ∙ ap (absorbed a.h) (chunks_blank a.bytes s p a.held a.blank c.requires.5 h c.if-held-eq1.false q c.if-blank-eq1.true)

pub returns : goal.returns
returns c = λ s p e h q r.
    let a = c.args in
    c.absorb_same-2.ensures ∙ ap (absorbed a.h) (chunks_none a.bytes s p a.held a.blank c.requires.5 h c.if-held-eq1.false q c.if-blank-eq1.false)
