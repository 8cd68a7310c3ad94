use native.Mathlib.Omega.{arith}
use borrow.Author.Rules.{rules}
use mathlib.Core.Path.{sym, ap, ◌∙◌, subst}
use mathlib.Core.List.{List, ◌++◌}
use Prim.Native.Nat.{ℕ, ◌*◌, ◌≤◌, ◌<◌}
use lib.ListN.{length, get_or, drop}
use Rattle.model.specs.State.{Pointer}
use Rattle.laws.proofs.Measures.{parts_enough}
use Rattle.storage.specs.Fits.{WithinRecords}
use Rattle.restore_trace.proofs.Images.{fits_end, length_traced, traced_at, image_is, chain_is}
use Rattle.restore_trace.proofs.Restores.{front_inside, restore_next, restore_bytes, restore_chain}
use Rattle.restore_trace.proofs.restore_image.Goals as goal

pub overflow_sub-end : goal.overflow_sub-end
overflow_sub-end c = let f = front_inside c.args.m.bytes (get_or c.args.slots.now 1 0) _ c.loop-n.n c.requires.stored.measured.some_bytes c.parts_for-count.ensures c.loop-n-test.true in
    omega (arith, c.byte-at.ensures, c.min-end.ensures)

pub put_block-requires-clause-within_records : goal.put_block-requires-clause-within_records
put_block-requires-clause-within_records c =
    let f = front_inside c.args.m.bytes (get_or c.args.slots.now 1 0) _ c.loop-n.n c.requires.stored.measured.some_bytes c.parts_for-count.ensures c.loop-n-test.true in (
      subst (λ (p : Pointer). WithinRecords c.args.m.blocks (length c.args.words.now) p) (sym c.trace-traced.ensures.ends) (fits_end _ _ _ c.requires.stored _ _ _ c.requires.traceable.0 c.requires.traceable.1 _),
      omega (arith, c.min-end.ensures),
      omega (arith, c.min-end.ensures, c.byte-at.ensures, c.loop-n.invariant.long, c.requires.slots_len.1),
    )

pub loop-n-preserved : goal.loop-n-preserved
loop-n-preserved c =
    let f = front_inside c.args.m.bytes (get_or c.args.slots.now 1 0) _ c.loop-n.n c.requires.stored.measured.some_bytes c.parts_for-count.ensures c.loop-n-test.true in
    let l = c.loop-n in
    let n : ℕ = c.parts_for-count.result in
    let h : l.n < n = omega arith in
    restore_next _ _ _ _ _ _ _ _ _ l.invariant _ _ _ _ _ _ (length_traced _ _ _ c.requires.stored _ _ _ c.requires.traceable.0 c.requires.traceable.1 n) h f.1
    c.byte-at.ensures c.min-end.ensures (traced_at _ _ _ c.requires.stored _ _ _ c.requires.traceable.0 c.requires.traceable.1 n l.n _ c.trace-traced.ensures.ends h)
    c.put_block.ensures c.put_block.auto.out c.max-most.ensures c.trace-traced.ensures.hop

pub shape_of-out : goal.shape_of-out
shape_of-out c = c.loop-n.invariant.long

pub returns-clause-bytes : goal.returns-clause-bytes
returns-clause-bytes c =
    let n : ℕ = c.parts_for-count.result in
    let enough : get_or c.args.slots.now 1 0 ≤ n * c.args.m.bytes = rw c.parts_for-count.ensures (parts_enough c.args.m.bytes (get_or c.args.slots.now 1 0) (omega (arith, c.requires.stored.measured.some_bytes))) in
    restore_bytes _ _ _ _ _ _ _ _ _ c.loop-n.invariant (search rules) enough
    ∙ ap (λ (x : List ℕ). x ++ drop (get_or c.args.slots.now 1 0) c.args.out.now) (image_is _ _ _ c.requires.stored _ _ _ c.requires.traceable.0 c.requires.traceable.1 n (c.requires.slots_len.0 ∙ sym c.parts_for-count.ensures))

pub returns-clause-hops : goal.returns-clause-hops
returns-clause-hops c =
    restore_chain _ _ _ _ _ _ _ _ _ c.loop-n.invariant (search rules)
    ∙ sym (chain_is _ _ _ c.requires.stored _ _ _ c.requires.traceable.0 c.requires.traceable.1 c.parts_for-count.result (c.requires.slots_len.0 ∙ sym c.parts_for-count.ensures))
