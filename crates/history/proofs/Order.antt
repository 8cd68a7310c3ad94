-- Two accepted calls on different tills leave the same in either order: every till shows the same.
use mathlib.Core.Path.{◌≡◌, refl, sym, ap, ◌∙◌, subst}
use mathlib.Core.Bool.{Bool, true, false}
use Prim.Native.Nat.{ℕ}
use lib.Dec.{eqb}
use borrow.Author.Tests.{eqb-true, eqb-false}
use Rattle.model.specs.Measures.{Shape}
use Rattle.model.specs.State.{State}
use Rattle.model.specs.Sound.{is_sound}
use Rattle.laws.proofs.Fits.{Proper}
use Rattle.history.specs.Calls.{Call, till_named}
use Rattle.history.proofs.Calls.{state_after, is_accepted}
use Rattle.history.proofs.View.{view_at, changed, IsPlain}
use Rattle.history.proofs.Reach.{sound_after}
use Rattle.history.proofs.Frame.{frame_own, frame_other}

module _ (s : Shape) (pr : Proper s.measures) where
  -- the till of an accepted call
  own_after : (st : State) → is_sound s st ≡ true → (call : Call) → IsPlain call → is_accepted s st call ≡ true
      → view_at s.measures.block_bytes (state_after s st call) (till_named call) ≡ changed s.measures.block_bytes call true (view_at s.measures.block_bytes st (till_named call))
  own_after st h call p ok =
      frame_own s pr st h call p ∙ ap (λ (q : Bool). changed s.measures.block_bytes call q (view_at s.measures.block_bytes st (till_named call))) ok

  -- two accepted calls: the till of the first is as that call leaves it
  first_own : (st : State) → is_sound s st ≡ true → (c d : Call) → IsPlain c → IsPlain d → (till_named c ≡ till_named d → ⊥) → is_accepted s st c ≡ true
      → view_at s.measures.block_bytes (state_after s (state_after s st c) d) (till_named c)
      ≡ changed s.measures.block_bytes c true (view_at s.measures.block_bytes st (till_named c))
  first_own st h c d pc pd ne ok = frame_other s pr (state_after s st c) (sound_after s pr st h c) d pd (till_named c) ne ∙ own_after st h c pc ok

  second_own : (st : State) → is_sound s st ≡ true → (c d : Call) → IsPlain c → IsPlain d → (till_named c ≡ till_named d → ⊥) → is_accepted s (state_after s st c) d ≡ true
      → view_at s.measures.block_bytes (state_after s (state_after s st c) d) (till_named d)
      ≡ changed s.measures.block_bytes d true (view_at s.measures.block_bytes st (till_named d))
  second_own st h c d pc pd ne ok =
      own_after (state_after s st c) (sound_after s pr st h c) d pd ok
      ∙ ap (changed s.measures.block_bytes d true) (frame_other s pr st h c pc (till_named d) (λ e. ne (sym e)))

  -- both accepted in both orders: every till shows the same
  pub order_free : (st : State) → is_sound s st ≡ true → (c d : Call) → IsPlain c → IsPlain d → (till_named c ≡ till_named d → ⊥)
      → is_accepted s st c ≡ true → is_accepted s (state_after s st c) d ≡ true → is_accepted s st d ≡ true → is_accepted s (state_after s st d) c ≡ true → (t : ℕ)
      → view_at s.measures.block_bytes (state_after s (state_after s st c) d) t ≡ view_at s.measures.block_bytes (state_after s (state_after s st d) c) t
  order_free st h c d pc pd ne ac acd ad adc t = go (eqb t (till_named c)) refl (eqb t (till_named d)) refl
    where
      en : till_named d ≡ till_named c → ⊥
      en e = ne (sym e)

      Same : ℕ → Type 0
      Same u = view_at s.measures.block_bytes (state_after s (state_after s st c) d) u ≡ view_at s.measures.block_bytes (state_after s (state_after s st d) c) u

      go : (p : Bool) → eqb t (till_named c) ≡ p → (q : Bool) → eqb t (till_named d) ≡ q → Same t
      go true p q' q = subst Same (sym (eqb-true t (till_named c) p)) (first_own st h c d pc pd ne ac ∙ sym (second_own st h d c pd pc en adc))
      go false p true q = subst Same (sym (eqb-true t (till_named d) q)) (second_own st h c d pc pd ne acd ∙ sym (first_own st h d c pd pc en ad))
      go false p false q =
          let x = eqb-false t (till_named c) p in
          let y = eqb-false t (till_named d) q in
          frame_other s pr (state_after s st c) (sound_after s pr st h c) d pd t y ∙ frame_other s pr st h c pc t x
          ∙ sym (frame_other s pr (state_after s st d) (sound_after s pr st h d) c pc t x ∙ frame_other s pr st h d pd t y)
