use native.Mathlib.Omega.{arith}
use mathlib.Core.Path.{◌∙◌, sym, ap}
use mathlib.Core.Option.{Option}
use Prim.Native.Nat.{ℕ}
use lib.ListN.{length}
use Rattle.lists.specs.Lists.{same_numbers}
use Rattle.model.specs.Turn.{indirect_at}
use Rattle.turn.specs.Turn.{target_word}
use Rattle.turn.proofs.Turning.{begins_few, find_end, find_next, find_no, find_start, find_yes}
use Rattle.turn.proofs.find_block.Goals as goal

pub loop-k-init : goal.loop-k-init
loop-k-init c = (omega arith, find_start c.args.bytes (same_numbers c.args.cell.now) c.args.image.now _ c.parts_for-count.ensures)

pub overflow_cast-block : goal.overflow_cast-block
overflow_cast-block c = let f = begins_few c.args.bytes c.in-Some.k _ (length c.args.image.now) c.requires.2 c.requires.0 c.parts_for-count.ensures c.in-Some.ensures.1 in
    omega arith

pub block_same-requires : goal.block_same-requires
block_same-requires c = let f = begins_few c.args.bytes c.in-Some.k _ (length c.args.image.now) c.requires.2 c.requires.0 c.parts_for-count.ensures c.in-Some.ensures.1 in
    let p = c.requires in (omega (arith, c.byte.ensures), p.2, p.3, p.4, p.1)

pub indirect-requires : goal.indirect-requires
indirect-requires c = let f = begins_few c.args.bytes c.in-Some.k _ (length c.args.image.now) c.requires.2 c.requires.0 c.parts_for-count.ensures c.in-Some.ensures.1 in
    omega (arith, f.1)

pub returns-then-block_same : goal.returns-then-block_same
returns-then-block_same c = let l = c.loop-k in
    let a = c.args in
    let s = c.in-Some.ensures in
    c.indirect.ensures
    ∙ find_yes a.bytes (same_numbers a.cell.now) a.image.now _ a.pointer.0 c.in-Some.k s.1 (sym c.if-block_same.true ∙ (rw c.byte.ensures at c.block_same.ensures))
    ∙ ap (λ (o : Option ℕ). target_word a.pointer.0 (indirect_at o)) (sym (find_next a.bytes a.image.now a.cell.now _ l.n _ (omega (arith, c.requires.2)) c.parts_for-count.ensures s.0 (omega (arith, s.1)) s.3) ∙ l.invariant.1)

pub loop-k-preserved : goal.loop-k-preserved
loop-k-preserved c = let l = c.loop-k in
    let a = c.args in
    let s = c.in-Some.ensures in
    let on = find_no a.bytes (same_numbers a.cell.now) a.image.now _ c.in-Some.k s.1 (sym c.if-block_same.false ∙ (rw c.byte.ensures at c.block_same.ensures)) in
    (omega (arith, s.1), sym (find_next a.bytes a.image.now a.cell.now _ l.n _ (omega (arith, c.requires.2)) c.parts_for-count.ensures s.0 (omega (arith, s.1)) s.3 ∙ on) ∙ l.invariant.1)

pub returns : goal.returns
returns c = let l = c.loop-k in
    let a = c.args in
    let n = c.parts_for-count.result in
    find_end a.bytes (same_numbers a.cell.now) a.image.now n a.pointer.0 n (omega arith)
    ∙ ap (λ (o : Option ℕ). target_word a.pointer.0 (indirect_at o)) (sym (find_next a.bytes a.image.now a.cell.now n l.n n (omega (arith, c.requires.2)) c.parts_for-count.ensures l.invariant.0 (omega arith) c.in_default.ensures) ∙ l.invariant.1)
