use mathlib.Core.Path.{◌≡◌, ◌∙◌, sym, subst}
use mathlib.Core.List.{List}
use Prim.Native.Nat.{◌/◌, pred}
use borrow.Author.Tests.{eqb-false, eqb-true}
use Rattle.model.specs.State.{Segment}
use Rattle.model.specs.Sweep.{one_less}
use Rattle.storage.specs.Stored.{EncodesRecords}
use Rattle.storage.proofs.Changes.{fits_direct, lowers, change_direct, change_other}
use Rattle.sweep_counts.proofs.lower.Goals as goal

pub lower_at-requires : goal.lower_at-requires
lower_at-requires c =
    let one : c.args.pointer.0 / 16777216 ≡ 1 = (eqb-true _ _ (sym c.is_direct.ensures ∙ c.if-is_direct.true)) in
    let f = fits_direct _ _ _ (one) c.requires.within_records in
    (c.requires.n_bound.0, rw c.«record».ensures f.0, rw c.position.ensures f.1)

pub returns-then-is_direct : goal.returns-then-is_direct
returns-then-is_direct c =
    let one : c.args.pointer.0 / 16777216 ≡ 1 = (eqb-true _ _ (sym c.is_direct.ensures ∙ c.if-is_direct.true)) in
    let q = c.lower_at.ensures in
    let e = rw (c.«record».ensures, c.position.ensures) at q in
    change_direct one_less pred _ lowers c.args.n c.args.words.now c.args.pointer.0 _ c.requires.n_bound.1 (one) c.requires.within_records tt e

pub returns-else-is_direct : goal.returns-else-is_direct
returns-else-is_direct c = let other = eqb-false _ _ (sym c.is_direct.ensures ∙ c.if-is_direct.false) in
    subst (λ (s : List Segment). EncodesRecords c.args.n c.args.words.now s) (sym (change_other one_less _ c.args.pointer.0 other)) c.requires.n_bound.1
