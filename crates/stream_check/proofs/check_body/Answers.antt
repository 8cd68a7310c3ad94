use native.Mathlib.Omega.{arith}
use Rattle.std.proofs.lemmas.Result.{err_from_is_err_and}
use mathlib.Core.Path.{◌≡◌}
use native.Mathlib.Nat.{sub-zero}
use Prim.Native.Nat.{◌-◌, ◌+◌}
use lib.ListN.{drop}
use Rattle.stream_laws.proofs.Steps.{alike_refl, groups_of, groups_step}
use Rattle.stream_check.proofs.Laws.{step_on, step_stop, body_stop, body_excess, body_whole}
use Rattle.stream_check.proofs.check_body.Goals as goal
use Rattle.stream_check.proofs.check_body.Goals.{else-loop-start-test, then-loop-start-test+in_ok-at+else-n-start-gt512}

pub loop-start-init : goal.loop-start-init
loop-start-init c = rw (sub-zero c.args.n) (omega arith, alike_refl _)

pub returns-in_err-at : goal.returns-in_err-at
returns-in_err-at c = let p = err_from_is_err_and c.from_residual.result c.from_residual.ensures.1 in
    let a = c.args in
    let l = c.loop-start in
    let s = a.stream.now in
    let left = a.n - l.start in
    rw (p.1, p.2) (body_stop a.n l.at s _ (step_stop s _ _ _ (groups_of (left - 512)) (groups_step left (drop l.at s) (omega arith)) l.invariant.1 _ c.in_err-at.ensures))

pub loop-start-preserved : goal.loop-start-preserved
loop-start-preserved c = let a = c.args in
    let l = c.loop-start in
    let s = a.stream.now in
    let r = c.in_ok-at.ensures in
    let left = a.n - l.start in
    let e : a.n - l.start - 512 ≡ a.n - (l.start + 512) = omega arith in
    let n = step_on s _ _ _ (groups_of (left - 512)) (groups_step left (drop l.at s) (omega arith)) l.invariant.1 _ r in
    (r.within, rw e at n)

pub returns-then-at-stream : goal.returns-then-at-stream
returns-then-at-stream c = let a = c.args in
    let l = c.loop-start in
    let s = a.stream.now in
    elim c.loop-start-test.branch [
      | else-loop-start-test w ↦ let z : a.n - l.start ≡ 0 = omega arith in body_excess a.n l.at s l.invariant.0 (rw z at l.invariant.1) (omega arith)
      | then-loop-start-test+in_ok-at+else-n-start-gt512 w ↦
          let left = a.n - l.start in
          let z : a.n - l.start - 512 ≡ 0 = omega arith in
          let r = w.in_ok-at.ensures in
          let n = step_on s _ _ _ (groups_of (left - 512)) (groups_step left (drop l.at s) (omega arith)) l.invariant.1 _ r in
          body_excess a.n w.in_ok-at.at s r.within (rw z at n) (omega arith)
    ]

pub returns : goal.returns
returns c = let a = c.args in
    let l = c.loop-start in
    let s = a.stream.now in
    elim c.loop-start-test.branch [
      | else-loop-start-test w ↦ let z : a.n - l.start ≡ 0 = omega arith in body_whole a.n l.at s l.invariant.0 (rw z at l.invariant.1) (omega arith)
      | then-loop-start-test+in_ok-at+else-n-start-gt512 w ↦
          let left = a.n - l.start in
          let z : a.n - l.start - 512 ≡ 0 = omega arith in
          let r = w.in_ok-at.ensures in
          let n = step_on s _ _ _ (groups_of (left - 512)) (groups_step left (drop l.at s) (omega arith)) l.invariant.1 _ r in
          body_whole a.n w.in_ok-at.at s r.within (rw z at n) (omega arith)
    ]
