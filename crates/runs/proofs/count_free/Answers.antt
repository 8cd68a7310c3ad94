use Rattle.std.proofs.Common.{arith, refl, ◌∙◌, ◌≡◌, false, cond, get_or}
use Rattle.lists.specs.Lists.{count as free_marks}
use Rattle.lists.proofs.Masks.{bit_le_one}
use Rattle.runs.specs.Runs.{free_if}
use Rattle.runs.proofs.Runs.{count_next, same_mark}
use Rattle.runs.proofs.count_free.Goals as goal

pub loop-mark-init : goal.loop-mark-init
loop-mark-init c = (omega arith, unfold free_marks in refl)

pub loop-mark-preserved : goal.loop-mark-preserved
loop-mark-preserved c =
    let l = c.loop-mark in
    let a = c.args in
    let more = count_next (free_if a.free) a.piece.now l.mark-index c.loop-mark-test.true in
    let e : c.from-count.result ≡ cond (free_if a.free (get_or a.piece.now l.mark-index false)) 1 0 = c.from-count.ensures ∙ same_mark _ a.free in
    (omega (arith, e, l.invariant.0, bit_le_one (free_if a.free (get_or a.piece.now l.mark-index false))), omega (arith, e, l.invariant.1, more))
