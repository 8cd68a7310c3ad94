-- Two states whose tills show the same, but for one till: calls that both make leave such states again.
use mathlib.Core.Path.{◌≡◌, refl, sym, ap, ◌∙◌, subst}
use mathlib.Core.Bool.{Bool, true, false, cond, false≢true}
use mathlib.Core.List.{List, [], ◌∷◌}
use mathlib.Core.Option.{none}
use Prim.Native.Nat.{ℕ, zero, suc, ◌≤◌}
use native.Mathlib.Omega.{arith}
use lib.ListN.{length}
use lib.Dec.{eqb}
use borrow.Author.Tests.{eqb-true, eqb-false}
use Rattle.lists.specs.Lists.{is_in}
use Rattle.lists.specs.Rows.{fill}
use Rattle.lists.specs.Each.{Each}
use Rattle.model.specs.Measures.{Shape}
use Rattle.model.specs.Image.{with_blanks}
use Rattle.model.specs.State.{State, Outcome}
use Rattle.model.specs.Sound.{is_sound}
use Rattle.model.specs.Calls.{backup, After, state_or, outcome_refusal}
use Rattle.model.specs.Rights.{to_back_up}
use Rattle.laws.proofs.Fits.{Proper}
use Rattle.closing.specs.Closing.{TillImage, backup_one, backup_each}
use Rattle.history.specs.Calls.{Call, call_layout, call_backup, call_restore, call_retire, call_listing, call_version_on, call_tally, call_bill, call_write_stream, call_offer, call_backup_sent, call_backup_all, call_set_rights, Answer, refusal_in, till_named}
use Rattle.history.proofs.Calls.{state_after, is_accepted}
use Rattle.history.specs.Users.{for_user, answer_in_by}
use Rattle.history.specs.Keeper.{CallMade, backup_for, backups_made}
use Rattle.history.proofs.View.{TillView, view_at, changed, IsPlain}
use Rattle.history.specs.Apart.{FromTill, IsFromTill}
use Rattle.history.proofs.Frame.{frame_own, frame_other}
use Rattle.history.proofs.Reach.{one_sound}
use Rattle.history.proofs.Carried.{made_of, made_sound, Carries}
use Rattle.history.proofs.Users.{IsDone, done_made, done_accepted, backup_done}
use Rattle.history.proofs.Local.{outcome_answer, NotFull}
use Rattle.history.proofs.Same.{same_by}

-- a refused call makes nothing of a till
changed_refused : (bytes : ℕ) (call : Call) (w : TillView) → changed bytes call false w ≡ w
unfolding changed
changed_refused bytes (call_layout c) w = refl
changed_refused bytes (call_backup era t d image) w = refl
changed_refused bytes (call_restore t v output) w = refl
changed_refused bytes (call_retire t v) w = refl
changed_refused bytes (call_listing t) w = refl
changed_refused bytes (call_version_on t day) w = refl
changed_refused bytes call_tally w = refl
changed_refused bytes (call_bill price) w = refl
changed_refused bytes (call_write_stream t v output) w = refl
changed_refused bytes (call_offer t fs ms) w = refl
changed_refused bytes (call_backup_sent t n fs ms ss) w = refl
changed_refused bytes (call_backup_all ts ns is) w = refl
changed_refused bytes (call_set_rights subject t r) w = refl

-- an answer that depends on the till only is none of those for want of room
pub room_left : (a : Answer) → IsFromTill a → NotFull a
unfolding is_in
room_left a h = (
  λ e. false≢true (let no : true ≡ false = subst IsFromTill e h in sym no),
  λ e. false≢true (let no : true ≡ false = subst IsFromTill e h in sym no),
)

module _ (s : Shape) (u : ℕ) where
  -- tills other than `u` show the same
  abbrev pub Off : State → State → Type 0
  Off st st' = (t : ℕ) → (t ≡ u → ⊥) → view_at s.measures.block_bytes st t ≡ view_at s.measures.block_bytes st' t

  -- two calls made: both on `u`, or on one till, of which they make the same
  pub data AlikeMade (m m' : CallMade) : Type 0 where
    on_it : till_named m.call ≡ u → till_named m'.call ≡ u → AlikeMade m m'
    same : till_named m.call ≡ till_named m'.call
        → ((w : TillView) → changed s.measures.block_bytes m.call m.accepted w ≡ changed s.measures.block_bytes m'.call m'.accepted w) → AlikeMade m m'

  abbrev pub AllAlike : List CallMade → List CallMade → Type 0
  AllAlike [] [] = Unit {0}
  AllAlike [] (m ∷ ms) = ⊥
  AllAlike (m ∷ ms) [] = ⊥
  AllAlike (m ∷ ms) (m' ∷ ms') = AlikeMade m m' × AllAlike ms ms'

  module _ (pr : Proper s.measures) where
    -- what a call made leaves of a till that it is not on, and of its own
    pub made_other : (m : CallMade) (st : State) → is_sound s st ≡ true → IsPlain m.call → (t : ℕ) → (t ≡ till_named m.call → ⊥)
        → view_at s.measures.block_bytes (made_of s st m) t ≡ view_at s.measures.block_bytes st t
    made_other m st h p t ne = go m.accepted
      where
        go : (b : Bool) → view_at s.measures.block_bytes (cond b (state_after s st m.call) st) t ≡ view_at s.measures.block_bytes st t
        go true = frame_other s pr st h m.call p t ne
        go false = refl

    made_own : (m : CallMade) (st : State) → is_sound s st ≡ true → IsPlain m.call → (m.accepted ≡ true → is_accepted s st m.call ≡ true)
        → view_at s.measures.block_bytes (made_of s st m) (till_named m.call) ≡ changed s.measures.block_bytes m.call m.accepted (view_at s.measures.block_bytes st (till_named m.call))
    made_own m st h p ok = go m.accepted ok
      where
        go : (b : Bool) → (b ≡ true → is_accepted s st m.call ≡ true)
            → view_at s.measures.block_bytes (cond b (state_after s st m.call) st) (till_named m.call) ≡ changed s.measures.block_bytes m.call b (view_at s.measures.block_bytes st (till_named m.call))
        go true ok =
            frame_own s pr st h m.call p ∙ ap (λ (q : Bool). changed s.measures.block_bytes m.call q (view_at s.measures.block_bytes st (till_named m.call))) (ok refl)
        go false ok = sym (changed_refused s.measures.block_bytes m.call (view_at s.measures.block_bytes st (till_named m.call)))

    off_made : (m m' : CallMade) (st st' : State) → is_sound s st ≡ true → is_sound s st' ≡ true → IsPlain m.call → IsPlain m'.call
        → (m.accepted ≡ true → is_accepted s st m.call ≡ true) → (m'.accepted ≡ true → is_accepted s st' m'.call ≡ true)
        → AlikeMade m m' → Off st st' → Off (made_of s st m) (made_of s st' m')
    off_made m m' st st' h h' p p' ok ok' (on_it e e') o t ne = made_other m st h p t (λ q. ne (q ∙ e)) ∙ o t ne ∙ sym (made_other m' st' h' p' t (λ q. ne (q ∙ e')))
    off_made m m' st st' h h' p p' ok ok' (same e f) o t ne = go (eqb t (till_named m.call)) refl
      where
        go : (b : Bool) → eqb t (till_named m.call) ≡ b → view_at s.measures.block_bytes (made_of s st m) t ≡ view_at s.measures.block_bytes (made_of s st' m') t
        go true q =
            let is : t ≡ till_named m.call = eqb-true t (till_named m.call) q in
            let is' : t ≡ till_named m'.call = is ∙ e in
            subst (λ (x : ℕ). view_at s.measures.block_bytes (made_of s st m) x ≡ changed s.measures.block_bytes m.call m.accepted (view_at s.measures.block_bytes st x)) (sym is) (made_own m st h p ok)
            ∙ f (view_at s.measures.block_bytes st t)
            ∙ ap (changed s.measures.block_bytes m'.call m'.accepted) (o t ne)
            ∙ sym (subst (λ (x : ℕ). view_at s.measures.block_bytes (made_of s st' m') x ≡ changed s.measures.block_bytes m'.call m'.accepted (view_at s.measures.block_bytes st' x)) (sym is') (made_own m' st' h' p' ok'))
        go false q =
            let away : t ≡ till_named m.call → ⊥ = eqb-false t (till_named m.call) q in
            made_other m st h p t away ∙ o t ne ∙ sym (made_other m' st' h' p' t (λ z. away (z ∙ sym e)))

    -- the calls that one call comes to
    pub off_carried : (ms ms' : List CallMade) (st st' end end' : State) → is_sound s st ≡ true → is_sound s st' ≡ true → Carries s st ms end → Carries s st' ms' end' → AllAlike ms ms' → Off st st' → Off end end'
    off_carried [] [] st st' end end' h h' c c' a o = λ t ne. ap (λ (x : State). view_at s.measures.block_bytes x t) (sym c) ∙ o t ne ∙ ap (λ (x : State). view_at s.measures.block_bytes x t) c'
    off_carried [] (m ∷ ms) st st' end end' h h' c c' a o = absurd a
    off_carried (m ∷ ms) [] st st' end end' h h' c c' a o = absurd a
    off_carried (m ∷ ms) (m' ∷ ms') st st' end end' h h' c c' a o =
        off_carried ms ms' (made_of s st m) (made_of s st' m') end end' (made_sound s pr st h m) (made_sound s pr st' h' m') c.2 c'.2 a.1
        (off_made m m' st st' h h' c.0 c'.0 c.1 c'.1 a.0 o)

    -- ---- the images of a closing

    module _ (y : ℕ) where
      -- one image on another till is answered the same
      pub image_same : (x : TillImage) (st st' : State) → (x.till ≡ u → ⊥) → Off st st' → FromTill (outcome_refusal (backup_one s st y x)) → FromTill (outcome_refusal (backup_one s st' y x))
          → outcome_answer (backup_one s st y x) ≡ outcome_answer (backup_one s st' y x)
      unfolding backup_one answer_in_by till_named refusal_in
      image_same x st st' ne o f f' =
          same_by s st st' y (call_backup with_blanks x.till none x.image) refl (room_left _ f) (room_left _ f') (o x.till ne)

      one_alike : (x : TillImage) (st st' : State) → Off st st' → FromTill (outcome_refusal (backup_one s st y x)) → FromTill (outcome_refusal (backup_one s st' y x))
          → AlikeMade (record { call = backup_for x; accepted = eqb (outcome_refusal (backup_one s st y x)) 0 }) (record { call = backup_for x; accepted = eqb (outcome_refusal (backup_one s st' y x)) 0 })
      unfolding backup_for till_named
      one_alike x st st' o f f' = go (eqb x.till u) refl
        where
          go : (b : Bool) → eqb x.till u ≡ b
              → AlikeMade (record { call = call_backup with_blanks x.till none x.image; accepted = eqb (outcome_refusal (backup_one s st y x)) 0 }) (record { call = call_backup with_blanks x.till none x.image; accepted = eqb (outcome_refusal (backup_one s st' y x)) 0 })
          go true q = unfold till_named in on_it (eqb-true x.till u q) (eqb-true x.till u q)
          go false q =
              unfold till_named refusal_in in
              same refl (λ w. ap (λ (a : Answer). changed s.measures.block_bytes (call_backup with_blanks x.till none x.image) (eqb (refusal_in a) 0) w) (image_same x st st' (eqb-false x.till u q) o f f'))

      pub one_off : (x : TillImage) (st st' : State) → is_sound s st ≡ true → is_sound s st' ≡ true → Off st st' → FromTill (outcome_refusal (backup_one s st y x)) → FromTill (outcome_refusal (backup_one s st' y x))
          → Off (state_or st (backup_one s st y x)) (state_or st' (backup_one s st' y x))
      unfolding backup_for backup_one
      one_off x st st' h h' o f f' =
          let call : Call = call_backup with_blanks x.till none x.image in
          let p : Outcome After = for_user s st y x.till to_back_up (backup with_blanks s st x.till none x.image) in
          let p' : Outcome After = for_user s st' y x.till to_back_up (backup with_blanks s st' x.till none x.image) in
          let acc : Bool = eqb (outcome_refusal p) 0 in
          let acc' : Bool = eqb (outcome_refusal p') 0 in
          let d : IsDone s st call acc (state_or st p) = backup_done s st y with_blanks x.till none x.image acc refl in
          let d' : IsDone s st' call acc' (state_or st' p') = backup_done s st' y with_blanks x.till none x.image acc' refl in
          let m : CallMade = record { call = call; accepted = acc } in
          let m' : CallMade = record { call = call; accepted = acc' } in
          subst (λ (z : State). Off z (state_or st' p')) (sym (done_made s st call acc (state_or st p) d))
          (subst (Off (made_of s st m)) (sym (done_made s st' call acc' (state_or st' p') d'))
          (off_made m m' st st' h h' tt tt (done_accepted s st call acc (state_or st p) d) (done_accepted s st' call acc' (state_or st' p') d') (one_alike x st st' o f f') o))

      pub each_alike : (xs : List TillImage) (n : ℕ) → length xs ≤ n → (st st' : State) → is_sound s st ≡ true → is_sound s st' ≡ true → Off st st'
          → Each FromTill (fill n (backup_each s st y xs).refusals) → Each FromTill (fill n (backup_each s st' y xs).refusals)
          → AllAlike (backups_made xs (fill n (backup_each s st y xs).refusals)) (backups_made xs (fill n (backup_each s st' y xs).refusals))
      unfolding backups_made backup_each fill
      each_alike [] n l st st' h h' o f f' = tt
      each_alike (x ∷ xs) zero l st st' h h' o f f' = absurd (omega (arith, l))
      each_alike (x ∷ xs) (suc n) l st st' h h' o f f' = (
        one_alike x st st' o f.0 f'.0,
        each_alike xs n (omega (arith, l)) (state_or st (backup_one s st y x)) (state_or st' (backup_one s st' y x)) (one_sound s pr y x st h) (one_sound s pr y x st' h')
            (one_off x st st' h h' o f.0 f'.0) f.1 f'.1,
      )
