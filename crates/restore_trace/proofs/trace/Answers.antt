use mathlib.Core.Path.{◌≡◌, ◌∙◌, refl, sym}
use Prim.Native.Nat.{◌/◌}
use borrow.Author.Tests.{eqb-false, eqb-true}
use Rattle.restore_trace.proofs.Traces.{trace_start, trace_next, next_inside, next_block, trace_ends, trace_hops, place_inside}
use Rattle.restore_trace.proofs.trace.Goals as goal

pub loop-named-init : goal.loop-named-init
loop-named-init c = trace_start _ _ _ _ c.requires.traceable _ c.requires.block_in_bounds

pub bounds-slots-v : goal.bounds-slots-v
bounds-slots-v c =
    let two : c.loop-named.pointer.0 / 16777216 ≡ 2 = eqb-true _ _ (sym c.is_indirect.ensures ∙ c.loop-named-test.true) in
    let t = c.loop-named.invariant in
    rw c.block-named.ensures (place_inside _ _ _ _ c.requires.traceable _ _ (next_inside _ _ _ _ c.requires.traceable _ _ _ t two) (next_block _ _ _ _ c.requires.traceable _ _ _ t two))

pub loop-named-preserved : goal.loop-named-preserved
loop-named-preserved c =
    let two : c.loop-named.pointer.0 / 16777216 ≡ 2 = eqb-true _ _ (sym c.is_indirect.ensures ∙ c.loop-named-test.true) in
    rw c.block-named.ensures (trace_next _ _ _ _ c.requires.traceable _ _ _ c.loop-named.invariant two)

pub returns : goal.returns
returns c = let l = c.loop-named in
    let other = eqb-false _ _ (sym c.is_indirect.ensures ∙ c.loop-named-test.false) in
    record { ends = trace_ends _ _ _ _ c.requires.traceable _ _ _ l.invariant other _ c.requires.block_in_bounds refl; hop = trace_hops _ _ _ _ c.requires.traceable _ _ _ l.invariant other _ c.requires.block_in_bounds refl }
