use native.Mathlib.Omega.{arith}
use mathlib.Core.List.{List}
use Prim.Native.Nat.{ℕ, ◌<◌}
use mathlib.Core.Path.{sym, ap, ◌∙◌}
use lib.ListN.{length}
use Rattle.sent_find.proofs.Numbers.{put_start, put_yes, put_no, wanted}
use Rattle.sent_find.proofs.put_number.Goals as goal
use Rattle.sent_find.proofs.put_number.Goals.{then-prints_same, else-prints_same}

pub loop-j-init : goal.loop-j-init
loop-j-init c = put_start _ _ _ _

pub loop-j-preserved : goal.loop-j-preserved
loop-j-preserved c = let t = c.loop-j.invariant in
    let l : c.loop-j.j < length c.loop-j.numbers = omega arith in
    elim c.if-prints_same.branch [
      | then-prints_same w ↦ put_yes t l c.if-prints_same.numbers w.numbers-is (sym w.if-prints_same.true ∙ c.prints_same.ensures)
      | else-prints_same w ↦ put_no t l c.if-prints_same.numbers w.numbers-is (sym w.if-prints_same.false ∙ c.prints_same.ensures)
    ]

pub shape_of-numbers : goal.shape_of-numbers
shape_of-numbers c = c.loop-j.invariant.same

pub returns : goal.returns
returns c = let t = c.loop-j.invariant in
    let a = c.args in (
      t.same,
      λ j h.
          t.done j (omega (arith, h, t.same))
          ∙ ap (λ (p : List ℕ). wanted p a.fingerprints.now a.number.0 a.numbers.now j) c.digest_bytes-print.ensures,
    )
