use native.Mathlib.Omega.{arith}
use borrow.Author.Rules.{rules}
use mathlib.Core.Path.{◌≡◌, refl, sym, ap, ◌∙◌}
use mathlib.Core.List.{List}
use Prim.Native.Nat.{ℕ, ◌*◌}
use lib.ListN.{length, get_or}
use Rattle.bill_sums.specs.Marks.{shared, share_all}
use Rattle.bill_sums.proofs.Passes.{share_none, shared_most, all_turn, all_done}
use Rattle.bill_sums.proofs.share_all.Goals as goal
use Rattle.bill_sums.proofs.share_all.Goals.{then-mark-ne0, else-mark-ne0}

pub loop-mark-init : goal.loop-mark-init
loop-mark-init c = (refl, refl, λ t. omega (arith, c.requires.3 t))

pub share-requires : goal.share-requires
share-requires c = let l = c.loop-mark in
    (omega (arith, c.if-mark-ne0.true), c.requires.0, l.invariant.0 ∙ c.requires.2, λ t. omega (arith, l.invariant.2 t, c.requires.1))

pub loop-mark-preserved : goal.loop-mark-preserved
loop-mark-preserved c =
    let met : (length c.if-mark-ne0.sums ≡ length c.loop-mark.sums)
    × (c.if-mark-ne0.sums ≡ shared c.args.price (get_or c.args.marks.now c.loop-mark.mark-index 0) c.loop-mark.sums) = (let a = c.args in
    let l = c.loop-mark in
    elim c.if-mark-ne0.branch [
      | then-mark-ne0 w ↦ (ap length w.sums-is ∙ w.share.auto.sums, w.sums-is ∙ w.share.ensures)
      | else-mark-ne0 w ↦ (ap length w.sums-is, w.sums-is ∙ share_none _ _ _ ∙ ap (λ (n : ℕ). shared a.price n l.sums) (sym w.if-mark-ne0.false))
    ]) in
    let l = c.loop-mark in
    let m = met in (
      m.0 ∙ l.invariant.0,
      ap (share_all _ _) m.1 ∙ sym (all_turn c.args.price c.args.marks.now l.mark-index _ (search rules)) ∙ l.invariant.1,
      λ t. omega (arith, ap (λ (xs : List ℕ). get_or xs t 0) m.1, shared_most c.args.price (10001 * l.mark-index) l.sums (get_or c.args.marks.now l.mark-index 0) t c.requires.0 l.invariant.2),
    )

pub shape_of-sums : goal.shape_of-sums
shape_of-sums c = c.loop-mark.invariant.0

pub returns : goal.returns
returns c = all_done c.args.price c.args.marks.now c.loop-mark.mark-index _ _ (search rules) c.loop-mark.invariant.1
