use native.Mathlib.Omega.{arith}
use Rattle.std.proofs.lemmas.Result.{err_from_is_err_and}
use mathlib.Core.Path.{◌≡◌, sym}
use Prim.Native.Nat.{◌+◌, ◌-◌, ◌/◌}
use lib.ListN.{drop}
use Rattle.stream.specs.Stream.{read_blocks}
use Rattle.stream_laws.proofs.Steps.{alike_refl, blocks_step, blocks_none}
use Rattle.stream_check.proofs.Laws.{step_on, reaches_stopped, reaches_end}
use Rattle.stream_check.proofs.check_blocks.Goals as goal

pub loop-i-init : goal.loop-i-init
loop-i-init c = (omega arith, alike_refl _)

pub returns-in_err-at : goal.returns-in_err-at
returns-in_err-at c = let p = err_from_is_err_and c.from_residual.result c.from_residual.ensures.1 in
    let a = c.args in
    let l = c.loop-i in
    let s = a.stream.now in
    rw (p.1, p.2) (reaches_stopped s _ _ _ (read_blocks (8 - l.i - 1) (l.m / 2) (l.left - 64)) (blocks_step (8 - l.i) l.m l.left (drop l.at s) (omega arith)) l.invariant.1 _ c.in_err-at.ensures)

pub loop-i-preserved : goal.loop-i-preserved
loop-i-preserved c = let a = c.args in
    let l = c.loop-i in
    let s = a.stream.now in
    let k : 8 - l.i - 1 ≡ 8 - (l.i + 1) = omega arith in
    let r = c.in_ok-at.ensures in
    let n = step_on s _ _ _ (read_blocks (8 - l.i - 1) (l.m / 2) (l.left - 64)) (blocks_step (8 - l.i) l.m l.left (drop l.at s) (omega arith)) l.invariant.1 _ r in
    (r.within, rw (k, sym c.saturating_sub-left.ensures) at n)

pub returns : goal.returns
returns c = let a = c.args in
    let l = c.loop-i in
    let z : 8 - l.i ≡ 0 = omega arith in
    reaches_end a.stream.now l.at _ _ l.invariant.0 l.invariant.1 (rw z (blocks_none l.m l.left (drop l.at a.stream.now)))
