use native.Mathlib.Omega.{arith}
use mathlib.Core.Path.{◌∙◌, ◌≡◌, ap, sym}
use mathlib.Core.List.{List}
use Prim.Native.Nat.{◌*◌, ◌+◌, ◌-◌, ℕ}
use lib.Dec.{eqb}
use Rattle.lists.specs.Lists.{same_numbers}
use Rattle.model.specs.Image.{block_from}
use Rattle.place_match.proofs.Blank.{some_block}
use Rattle.place_match.proofs.Matching.{bare_bit, cell_same, holds_bare, holds_held}
use Rattle.place_match.proofs.position_holds.Goals as goal

pub returns-then-held-eq1 : goal.returns-then-held-eq1
returns-then-held-eq1 c = λ s p e h q r t.
    let a = c.args in
    let b = block_from a.bytes a.image.now a.at in
    let f : c.byte-from.result ≡ a.cell.0 * a.bytes = c.byte-from.ensures in
    let k : a.cell.0 * a.bytes + a.bytes - a.cell.0 * a.bytes ≡ a.bytes = omega arith in
    (rw (f, k) at c.block_same.ensures)
    ∙ ap (λ (l : List ℕ). same_numbers l b) (sym (cell_same s a.bytes a.pool.now a.cell.0 e (omega arith) c.requires.3))
    ∙ sym (holds_held s b a.held a.cell.0 (some_block a.bytes a.image.now a.at (omega arith)) p h q t c.if-held-eq1.true)

pub returns-else-held-eq1 : goal.returns-else-held-eq1
returns-else-held-eq1 c = λ s p e h q r t.
    let a = c.args in
    let b = block_from a.bytes a.image.now a.at in
    ap (λ (x : ℕ). eqb x 0) c.requires.1 ∙ bare_bit b ∙ sym (holds_bare s b a.held a.cell.0 (some_block a.bytes a.image.now a.at (omega arith)) p h r t c.if-held-eq1.false)
