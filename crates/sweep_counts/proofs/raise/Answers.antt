use mathlib.Core.Path.{◌≡◌, ◌∙◌, sym, subst}
use mathlib.Core.List.{List}
use Prim.Native.Nat.{◌+◌, ◌/◌}
use borrow.Author.Tests.{eqb-false, eqb-true}
use Rattle.model.specs.State.{Segment}
use Rattle.model.specs.Place.{one_more}
use Rattle.storage.specs.Stored.{EncodesRecords}
use Rattle.storage.proofs.Changes.{fits_direct, held_direct, position_word, raises, change_direct, change_other}
use Rattle.sweep_counts.proofs.raise.Goals as goal

pub raise_at-requires : goal.raise_at-requires
raise_at-requires c =
    let one : c.args.pointer.0 / 16777216 ≡ 1 = (eqb-true _ _ (sym c.is_direct.ensures ∙ c.if-is_direct.true)) in
    let f = fits_direct _ _ _ (one) c.requires.within_records.0 in
    let e = position_word _ _ _ c.requires.n_bound.1 _ _ f.0 f.1 in
    rw (c.«record».ensures, c.position.ensures) (c.requires.n_bound.0, f.0, f.1, rw e (c.requires.by_index _ _))

pub returns-then-is_direct : goal.returns-then-is_direct
returns-then-is_direct c =
    let one : c.args.pointer.0 / 16777216 ≡ 1 = (eqb-true _ _ (sym c.is_direct.ensures ∙ c.if-is_direct.true)) in
    let d = one in
    let q = c.raise_at.ensures in
    let e = rw (c.«record».ensures, c.position.ensures) at q in
    change_direct one_more (λ n. n + 1) _ raises c.args.n c.args.words.now c.args.pointer.0 _ c.requires.n_bound.1 d c.requires.within_records.0 (held_direct _ c.args.pointer.0 d c.requires.within_records.1) e

pub returns-else-is_direct : goal.returns-else-is_direct
returns-else-is_direct c = let other = eqb-false _ _ (sym c.is_direct.ensures ∙ c.if-is_direct.false) in
    subst (λ (s : List Segment). EncodesRecords c.args.n c.args.words.now s) (sym (change_other one_more _ c.args.pointer.0 other)) c.requires.n_bound.1
