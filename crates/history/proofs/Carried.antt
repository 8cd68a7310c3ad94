-- Every call does what the plain calls do that it comes to, one after the other: a second message of §5 its backup, a closing of §7 its backups.
use mathlib.Core.Path.{◌≡◌, refl, sym, ap, ◌∙◌, subst}
use mathlib.Core.Bool.{Bool, true, false, cond, false≢true}
use mathlib.Core.List.{List, [], ◌∷◌}
use mathlib.Core.Option.{Option, none}
use Prim.Native.Nat.{ℕ, zero, suc, ◌≤◌, zero-le}
use native.Mathlib.Omega.{arith}
use lib.ListN.{length, drop}
use lib.Dec.{eqb}
use borrow.Author.Tests.{leb-true}
use Rattle.lists.specs.Rows.{fill}
use Rattle.lists.specs.Each.{Each}
use Rattle.lists.proofs.Tests.{clause}
use Rattle.model.specs.Measures.{Shape}
use Rattle.model.specs.Image.{with_blanks}
use Rattle.model.specs.State.{State, refused, done}
use Rattle.model.specs.Sound.{is_sound, Store}
use Rattle.model.specs.Calls.{state_or, outcome_refusal}
use Rattle.model.specs.Rights.{to_back_up, refusal_at}
use Rattle.sha1_definition.specs.Sha1.{sha1}
use Rattle.sent.specs.Sent.{backup_sent}
use Rattle.laws.proofs.Fits.{Proper}
use Rattle.closing.specs.Closing.{TillImage, images_in, closing_fits, backup_one, backup_each, AllAnswer, all_refused, all_answer, closed_or, backup_all}
use Rattle.history.specs.Calls.{Call, call_layout, call_backup, call_restore, call_retire, call_listing, call_version_on, call_tally, call_bill, call_write_stream, call_offer, call_backup_sent, call_backup_all, call_set_rights, Buffers, Answer, refusal_in, till_named}
use Rattle.history.proofs.Calls.{state_after, answer_in, is_accepted}
use Rattle.history.specs.Users.{answer_by, refusal_by, for_user, state_by, answer_in_by}
use Rattle.history.specs.Keeper.{image_sent, CallMade, backup_for, backups_made, closing_made, itself, comes_to}
use Rattle.history.proofs.View.{view_at, IsPlain}
use Rattle.history.proofs.Sent.{here, sent_alike}
use Rattle.history.proofs.Reach.{sound_after}
use Rattle.history.proofs.Frame.{frame_other}
use Rattle.history.proofs.Steps.{Represents, left_store, closing_same}
use Rattle.history.proofs.Users.{IsDone, answer_by_lem, outcome_done, backup_done, done_by}

-- what a plain call leaves that was accepted or refused as it was made
abbrev pub made_of : Shape → State → CallMade → State
made_of s st m = cond m.accepted (state_after s st m.call) st

pub made_sound : (s : Shape) → Proper s.measures → (st : State) → is_sound s st ≡ true → (m : CallMade) → is_sound s (made_of s st m) ≡ true
made_sound s pr st h m = go m.accepted
  where
    go : (b : Bool) → is_sound s (cond b (state_after s st m.call) st) ≡ true
    go true = sound_after s pr st h m.call
    go false = h

-- plain calls that carry one state to the other: those that were accepted are accepted, whoever makes them
abbrev pub Carries : Shape → State → List CallMade → State → Type 0
Carries s st [] end = st ≡ end
Carries s st (m ∷ ms) end = IsPlain m.call × (m.accepted ≡ true → is_accepted s st m.call ≡ true) × Carries s (made_of s st m) ms end

-- a plain call that did what it did carries, and what follows it
carries_on : (s : Shape) (st mid : State) (call : Call) → IsPlain call → (acc : Bool) → IsDone s st call acc mid → (ms : List CallMade) (end : State) → Carries s mid ms end
    → Carries s st (record { call = call; accepted = acc } ∷ ms) end
carries_on s st mid call p true d ms end c = (p, (λ e. d.0), subst (λ (x : State). Carries s x ms end) d.1 c)
carries_on s st mid call p false d ms end c = (p, (λ e. absurd (false≢true e)), subst (λ (x : State). Carries s x ms end) d c)

-- ---- a closing

pub images_few : (ts ns is : List ℕ) → length (images_in ts ns is) ≤ length ts
unfolding images_in
images_few [] ns is = zero-le
images_few (t ∷ ts) [] is = zero-le
images_few (t ∷ ts) (n ∷ ns) is = omega (arith, images_few ts ns (drop n is))

pub sixteen : (ts ns is : List ℕ) → closing_fits ts ns is ≡ true → length ts ≤ 16
unfolding closing_fits
sixteen ts ns is e = leb-true (length ts) 16 (clause _ 0 e)

module _ (s : Shape) (u : ℕ) where
  -- of `n` answers those past the images do not matter
  each_carried : (xs : List TillImage) (n : ℕ) → length xs ≤ n → (st : State)
      → Carries s st (backups_made xs (fill n (backup_each s st u xs).refusals)) (backup_each s st u xs).state
  unfolding backups_made backup_each fill backup_for
  each_carried [] n l st = refl
  each_carried (x ∷ xs) zero l st = absurd (omega (arith, l))
  each_carried (x ∷ xs) (suc n) l st =
      carries_on s st (state_or st (backup_one s st u x)) (call_backup with_blanks x.till none x.image) tt (eqb (outcome_refusal (backup_one s st u x)) 0)
      (unfold backup_one in backup_done s st u with_blanks x.till none x.image _ refl)
      (backups_made xs (fill n (backup_each s (state_or st (backup_one s st u x)) u xs).refusals)) (backup_each s (state_or st (backup_one s st u x)) u xs).state
      (each_carried xs n (omega (arith, l)) (state_or st (backup_one s st u x)))

  closing_carried : (st : State) (ts ns is : List ℕ) → Carries s st (closing_made (images_in ts ns is) (all_answer (backup_all s st u ts ns is))) (closed_or st (backup_all s st u ts ns is))
  unfolding backup_all closing_made
  closing_carried st ts ns is = go (closing_fits ts ns is) refl
    where
      go : (fit : Bool) → closing_fits ts ns is ≡ fit
          → Carries s st
          (cond (eqb (all_answer (cond fit (done (backup_each s st u (images_in ts ns is))) (refused 4))).refusal 0)
          (backups_made (images_in ts ns is) (all_answer (cond fit (done (backup_each s st u (images_in ts ns is))) (refused 4))).refusals) [])
          (closed_or st (cond fit (done (backup_each s st u (images_in ts ns is))) (refused 4)))
      go true e =
          unfold all_answer closed_or in
          each_carried (images_in ts ns is) 16 (omega (arith, images_few ts ns is, sixteen ts ns is e)) st
      go false e = unfold all_answer all_refused closed_or in refl

  -- ---- a second message

  sent_done : (st : State) (t n : ℕ) (fs ms ss : List ℕ) (acc : Bool) → eqb (outcome_refusal (for_user s st u t to_back_up (backup_sent sha1 s st t n fs ms ss))) 0 ≡ acc
      → IsDone s st (call_backup with_blanks t none (image_sent (here s st) t n fs ms ss)) acc (state_or st (for_user s st u t to_back_up (backup_sent sha1 s st t n fs ms ss)))
  unfolding is_accepted answer_in refusal_in state_after
  sent_done st t n fs ms ss true e =
      let a = sent_alike s st t n fs ms ss in
      let d = (outcome_done st (refusal_at s st u t to_back_up) (backup_sent sha1 s st t n fs ms ss) true e).0 refl in
      (sym a.1 ∙ d.0, d.1 ∙ a.0)
  sent_done st t n fs ms ss false e = (outcome_done st (refusal_at s st u t to_back_up) (backup_sent sha1 s st t n fs ms ss) false e).1 refl

  sent_is : (b : Buffers) (st : State) → Represents s b st → (t n : ℕ) (fs ms ss : List ℕ)
      → IsDone s st (call_backup with_blanks t none (image_sent (here s st) t n fs ms ss)) (eqb (refusal_by b u (call_backup_sent t n fs ms ss)) 0) (state_by s st u (call_backup_sent t n fs ms ss))
  unfolding state_by refusal_by
  sent_is b st l t n fs ms ss =
      sent_done st t n fs ms ss (eqb (refusal_in (answer_by b u (call_backup_sent t n fs ms ss))) 0)
      (unfold answer_in_by refusal_in in ap (λ (a : Answer). eqb (refusal_in a) 0) (sym (answer_by_lem s b st u (call_backup_sent t n fs ms ss) l)))

  -- ---- any call

  itself_carried : (b : Buffers) (st : State) → Represents s b st → (call : Call) → IsPlain call → Carries s st (itself b u call) (state_by s st u call)
  unfolding itself refusal_by
  itself_carried b st l call p =
      carries_on s st (state_by s st u call) call p (eqb (refusal_in (answer_by b u call)) 0)
      (done_by s st u call p _ (ap (λ (a : Answer). eqb (refusal_in a) 0) (sym (answer_by_lem s b st u call l)))) [] (state_by s st u call) refl

pub carried : (s : Shape) (b : Buffers) (st : State) → Represents s b st → (u : ℕ) (call : Call) → Carries s st (comes_to b u call) (state_by s st u call)
unfolding comes_to
carried s b st l u (call_layout c) = itself_carried s u b st l (call_layout c) tt
carried s b st l u (call_backup era t d image) = itself_carried s u b st l (call_backup era t d image) tt
carried s b st l u (call_restore t v output) = itself_carried s u b st l (call_restore t v output) tt
carried s b st l u (call_retire t v) = itself_carried s u b st l (call_retire t v) tt
carried s b st l u (call_listing t) = itself_carried s u b st l (call_listing t) tt
carried s b st l u (call_version_on t day) = itself_carried s u b st l (call_version_on t day) tt
carried s b st l u call_tally = itself_carried s u b st l call_tally tt
carried s b st l u (call_bill price) = itself_carried s u b st l (call_bill price) tt
carried s b st l u (call_write_stream t v output) = itself_carried s u b st l (call_write_stream t v output) tt
carried s b st l u (call_offer t fs ms) = itself_carried s u b st l (call_offer t fs ms) tt
carried s b st l u (call_backup_sent t n fs ms ss) =
    subst (λ (o : Option Store). Carries s st (record { call = call_backup with_blanks t none (image_sent o t n fs ms ss); accepted = eqb (refusal_by b u (call_backup_sent t n fs ms ss)) 0 } ∷ []) (state_by s st u (call_backup_sent t n fs ms ss)))
    (sym (left_store s b st l))
    (carries_on s st (state_by s st u (call_backup_sent t n fs ms ss)) (call_backup with_blanks t none (image_sent (here s st) t n fs ms ss)) tt (eqb (refusal_by b u (call_backup_sent t n fs ms ss)) 0)
    (sent_is s u b st l t n fs ms ss) [] (state_by s st u (call_backup_sent t n fs ms ss)) refl)
carried s b st l u (call_backup_all ts ns is) =
    unfold state_by in
    subst (λ (a : AllAnswer). Carries s st (closing_made (images_in ts ns is) a) (closed_or st (backup_all s st u ts ns is))) (sym (closing_same s b st l u ts ns is)) (closing_carried s u st ts ns is)
carried s b st l u (call_set_rights subject t r) = itself_carried s u b st l (call_set_rights subject t r) tt

-- the frame law, for calls that come to others: a till that none of them is on shows what it showed
pub carried_other : (s : Shape) → Proper s.measures → (ms : List CallMade) (st end : State) → is_sound s st ≡ true → Carries s st ms end → (u : ℕ)
    → Each (λ (m : CallMade). u ≡ till_named m.call → ⊥) ms → view_at s.measures.block_bytes end u ≡ view_at s.measures.block_bytes st u
carried_other s pr [] st end h c u ne = ap (λ (x : State). view_at s.measures.block_bytes x u) (sym c)
carried_other s pr (m ∷ ms) st end h c u ne = carried_other s pr ms (made_of s st m) end (made_sound s pr st h m) c.2 u ne.1 ∙ go m.accepted
  where
    go : (b : Bool) → view_at s.measures.block_bytes (cond b (state_after s st m.call) st) u ≡ view_at s.measures.block_bytes st u
    go true = frame_other s pr st h m.call c.0 u ne.0
    go false = refl
