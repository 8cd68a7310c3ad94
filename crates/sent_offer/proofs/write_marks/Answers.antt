use native.Mathlib.Omega.{arith}
use mathlib.Core.Path.{ap, ◌∙◌}
use mathlib.Core.List.{List}
use Prim.Native.Nat.{ℕ}
use Rattle.sent_offer.proofs.Marking.{wanted, marked_start, marked_next}
use Rattle.sent_offer.proofs.write_marks.Goals as goal

pub loop-j-init : goal.loop-j-init
loop-j-init c = marked_start _ _ _ _ _

pub loop-j-preserved : goal.loop-j-preserved
loop-j-preserved c = marked_next _ _ _ _ c.loop-j.invariant (omega (arith, c.loop-j.invariant.same)) _ c.mark_of.ensures

pub shape_of-marks : goal.shape_of-marks
shape_of-marks c = c.loop-j.invariant.same

pub returns : goal.returns
returns c = let t = c.loop-j.invariant in (t.same, λ j h. t.done j (omega (arith, h, t.same)) ∙ ap (λ (p : List ℕ). wanted p c.args.fingerprints.now c.args.numbers.now c.args.count j) c.digest_bytes-print.ensures)
