-- What the calls of demand 3 answer by what is kept: numbers and lengths, each image of a closing among them.
use mathlib.Core.Path.{◌≡◌, refl, sym, ap, ap₂, ◌∙◌, subst}
use mathlib.Core.Bool.{Bool, true, false, cond}
use mathlib.Core.List.{List, [], ◌∷◌}
use mathlib.Core.Option.{Option, none}
use Prim.Native.Nat.{ℕ, zero, suc, ◌≤◌}
use native.Mathlib.Nat.{suc-ne-zero}
use native.Mathlib.Omega.{arith}
use lib.ListN.{length}
use lib.Dec.{eqb, leb}
use borrow.Author.Tests.{ne_eqb}
use Rattle.lists.specs.Rows.{fill}
use Rattle.model.specs.Measures.{Shape}
use Rattle.model.specs.Image.{Era, with_blanks}
use Rattle.model.specs.State.{State, Outcome, refused, done}
use Rattle.model.specs.Sound.{is_sound}
use Rattle.model.specs.Table.{state_to_words, state_to_bytes}
use Rattle.model.specs.Calls.{After, backup, state_or, outcome_refusal, outcome_number, backup_by, backup_in, backup_answer, BackupAnswer, RetireAnswer, retire_of, ListingAnswer, listing_refusal, listing_of}
use Rattle.model.specs.Rights.{to_list, to_back_up, to_retire, user_refusal, refusal_at, backup_refusal, backup_as, retire_refusal, retire_as, listing_as}
use Rattle.laws.proofs.Fits.{Fit}
use Rattle.laws.proofs.RoundTrip.{round_trip}
use Rattle.closing.specs.Closing.{TillImage, images_in, closing_fits, backup_one, backup_each, AllAnswer, all_refused, all_answer, backup_all, backup_all_as}
use Rattle.history.specs.Calls.{call_backup, Buffers}
use Rattle.history.specs.Users.{for_user}
use Rattle.history.specs.Keeper.{Kept, Keeper, kept_till, fed, backup_for, numbers_given, kept_from, oldest_kept, newest_kept}
use Rattle.history.specs.Demand.{Answers}
use Rattle.history.proofs.Numbered.{Numbered, unless_numbered, backup_numbered}
use Rattle.history.proofs.Reach.{one_sound}
use Rattle.history.proofs.Steps.{Represents, closing_same}
use Rattle.history.proofs.Carried.{images_few, sixteen}
use Rattle.history.proofs.Fed.{Stands, stands_made}
use Rattle.history.proofs.Users.{backup_done, done_made, done_accepted, unless_done}
use Rattle.history.proofs.Keys.{may_same, accepted_same}
use Rattle.history.proofs.Bullets.{listing_kept, backup_last, sent_last, retire_accepted, retire_not, retire_given}

module _ (s : Shape) (fit : Fit s) where
  -- an accepted backup, on the buffers of its state
  backup_in_lem : (st : State) → is_sound s st ≡ true → (t : ℕ) (image : List ℕ) (a : After) → backup with_blanks s st t none image ≡ done a
      → ((backup_by with_blanks (state_to_bytes st) (state_to_words s st) t none image).refusal ≡ 0) × ((backup_by with_blanks (state_to_bytes st) (state_to_words s st) t none image).version ≡ a.answer)
  unfolding backup_by backup_in backup_answer
  backup_in_lem st h t image a q = rw (round_trip s st fit h, q) (refl, refl)

  -- one image of a closing
  number_given : (u : ℕ) (st : State) → is_sound s st ≡ true → (k : Keeper) → Stands s k st → (x : TillImage) (o : Outcome After) → Numbered o → backup_one s st u x ≡ o
      → outcome_number o ≡ cond (eqb (outcome_refusal o) 0) (kept_till (fed k (backup_for x) (eqb (outcome_refusal o) 0)) x.till).last 0
  unfolding outcome_number outcome_refusal backup_for backup_one
  number_given u st h k z x (refused n) g q = rw (ne_eqb n 0 (λ e. omega (arith, g, e))) refl
  number_given u st h k z x (done a) g q =
      let there : Buffers = record { pool = state_to_bytes st; table = state_to_words s st } in
      let l : Represents s there st = record { fit = fit; pool = refl; table = refl; sound = h } in
      let is = backup_in_lem st h x.till x.image a (unless_done (refusal_at s st u x.till to_back_up) (backup with_blanks s st x.till none x.image) a q) in
      sym is.1 ∙ backup_last s there st k l z with_blanks x.till none x.image is.0

  -- the keeper after it
  one_stands : (u : ℕ) (st : State) → is_sound s st ≡ true → (k : Keeper) → Stands s k st → (x : TillImage) → Stands s (fed k (backup_for x) (eqb (outcome_refusal (backup_one s st u x)) 0)) (state_or st (backup_one s st u x))
  unfolding backup_one backup_for
  one_stands u st h k z x =
      let acc : Bool = eqb (outcome_refusal (for_user s st u x.till to_back_up (backup with_blanks s st x.till none x.image))) 0 in
      let d = backup_done s st u with_blanks x.till none x.image acc refl in
      subst (Stands s (fed k (call_backup with_blanks x.till none x.image) acc)) (sym (done_made s st (call_backup with_blanks x.till none x.image) acc _ d))
      (stands_made s fit.proper (record { call = call_backup with_blanks x.till none x.image; accepted = acc }) st h tt (done_accepted s st (call_backup with_blanks x.till none x.image) acc _ d) k z)

  each_numbers : (u : ℕ) (xs : List TillImage) (n : ℕ) → length xs ≤ n → (st : State) → is_sound s st ≡ true → (k : Keeper) → Stands s k st
      → fill n (backup_each s st u xs).versions ≡ fill n (numbers_given k xs (fill n (backup_each s st u xs).refusals))
  unfolding backup_each numbers_given fill
  each_numbers u [] n l st h k z = refl
  each_numbers u (x ∷ xs) zero l st h k z = refl
  each_numbers u (x ∷ xs) (suc n) l st h k z =
      let o : Outcome After = backup_one s st u x in
      ap₂ ◌∷◌ (number_given u st h k z x o (one_numbered u st x) refl)
      (each_numbers u xs n (omega (arith, l)) (state_or st o) (one_sound s fit.proper u x st h) (fed k (backup_for x) (eqb (outcome_refusal o) 0)) (one_stands u st h k z x))
    where
      one_numbered : (u : ℕ) (st : State) (x : TillImage) → Numbered (backup_one s st u x)
      one_numbered u st x =
          unfold backup_one in unless_numbered (refusal_at s st u x.till to_back_up) (backup with_blanks s st x.till none x.image) (backup_numbered with_blanks s st x.till none x.image)

module _ (s : Shape) (b : Buffers) (st : State) (k : Keeper) (l : Represents s b st) (z : Stands s k st) where
  closing_last : (u : ℕ) (ts ns is : List ℕ) → (backup_all_as b.pool b.table u ts ns is).answer.refusal ≡ 0
      → (backup_all_as b.pool b.table u ts ns is).answer.versions ≡ fill 16 (numbers_given k (images_in ts ns is) (backup_all_as b.pool b.table u ts ns is).answer.refusals)
  closing_last u ts ns is =
      subst (λ (a : AllAnswer). a.refusal ≡ 0 → a.versions ≡ fill 16 (numbers_given k (images_in ts ns is) a.refusals)) (sym (closing_same s b st l u ts ns is))
      (unfold backup_all in go (closing_fits ts ns is) refl)
    where
      go : (fit : Bool) → closing_fits ts ns is ≡ fit → (all_answer (cond fit (done (backup_each s st u (images_in ts ns is))) (refused 4))).refusal ≡ 0
          → (all_answer (cond fit (done (backup_each s st u (images_in ts ns is))) (refused 4))).versions
          ≡ fill 16 (numbers_given k (images_in ts ns is) (all_answer (cond fit (done (backup_each s st u (images_in ts ns is))) (refused 4))).refusals)
      go true e q =
          unfold all_answer in each_numbers s l.fit u (images_in ts ns is) 16 (omega (arith, images_few ts ns is, sixteen ts ns is e)) st l.sound k z
      go false e q = absurd (suc-ne-zero 3 (unfold all_answer all_refused in q))

  -- a user's accepted call is the call, and one that a user may make is
  backed : (era : Era) (u t : ℕ) (d : Option ℕ) (image : List ℕ) → (backup_as era b.pool b.table u t d image).refusal ≡ 0 → backup_as era b.pool b.table u t d image ≡ backup_by era b.pool b.table t d image
  unfolding backup_as
  backed era u t d image e = accepted_same s b st k l z (λ (a : BackupAnswer). a.refusal) (backup_refusal b.pool b.table) (λ n. unfold backup_refusal in refl) u t to_back_up (backup_by era b.pool b.table t d image) e

  listed_by : (u t : ℕ) → (listing_as b.pool b.table u t).refusal ≡ 0 → listing_as b.pool b.table u t ≡ listing_of b.pool b.table t
  unfolding listing_as
  listed_by u t e = accepted_same s b st k l z (λ (a : ListingAnswer). a.refusal) listing_refusal (λ n. unfold listing_refusal in refl) u t to_list (listing_of b.pool b.table t) e

  retired_by : (u t v : ℕ) → (retire_as b.pool b.table u t v).refusal ≡ 0 → retire_as b.pool b.table u t v ≡ retire_of b.pool b.table t v
  unfolding retire_as
  retired_by u t v e = accepted_same s b st k l z (λ (a : RetireAnswer). a.refusal) (retire_refusal b.pool b.table) (λ n. unfold retire_refusal in refl) u t to_retire (retire_of b.pool b.table t v) e

  may_retire : (u t v : ℕ) → user_refusal (leb (length k) t) (kept_till k t).rights u to_retire ≡ 0 → retire_as b.pool b.table u t v ≡ retire_of b.pool b.table t v
  unfolding retire_as
  may_retire u t v m = may_same s b st k l z u t to_retire (retire_refusal b.pool b.table) (retire_of b.pool b.table t v) m

  pub answers : Answers s.measures.block_bytes st k b
  answers = record {
    listing = λ u t e. let q = listed_by u t e in subst (λ (a : ListingAnswer). Kept-by t a) (sym q) (listing_kept s b st k l z t (sym (ap (λ (a : ListingAnswer). a.refusal) q) ∙ e));
    backup = λ era u t d image e.
        let q = backed era u t d image e in
        ap (λ (a : BackupAnswer). a.version) q ∙ backup_last s b st k l z era t d image (sym (ap (λ (a : BackupAnswer). a.refusal) q) ∙ e);
    backup_sent = sent_last s b st k l z;
    backup_all = closing_last;
    goes = λ u t v x newer m e. ap (λ (a : RetireAnswer). a.refusal) (may_retire u t v m) ∙ retire_accepted s b st k l z t v x newer e;
    not_held = λ u t v m e h. ap (λ (a : RetireAnswer). a.refusal) (may_retire u t v m) ∙ retire_not s b st k l z t v e h;
    retire = λ u t v e.
        let q = retired_by u t v e in
        subst (λ (a : RetireAnswer). Struck-by t v a) (sym q) (retire_given s b st k l z t v (sym (ap (λ (a : RetireAnswer). a.refusal) q) ∙ e));
  }
    where
      Kept-by : ℕ → ListingAnswer → Type 0
      Kept-by t a = (a.oldest ≡ oldest_kept (kept_till k t).versions) × (a.newest ≡ newest_kept (kept_till k t).versions) × (a.last ≡ (kept_till k t).last)

      Struck-by : ℕ → ℕ → RetireAnswer → Type 0
      Struck-by t v a = (x : Kept) × (newer : List Kept) × (kept_from v (kept_till k t).versions ≡ x ∷ newer) × (a.length ≡ length x.image)
