-- §9 by what is kept: a user who may gets what the call gives, and one who may not is refused.
use mathlib.Core.Path.{◌≡◌, refl, sym, ap, ap₂, ◌∙◌, subst}
use mathlib.Core.Bool.{Bool, true, false, cond, ◌||◌}
use mathlib.Core.List.{List}
use mathlib.Core.Option.{some, none-ne-some, some-injective}
use Prim.Native.Nat.{ℕ, zero, suc, ◌≤◌}
use lib.ListN.{length}
use lib.Dec.{eqb, ltb, leb}
use borrow.Author.Tests.{eqb-true, le-leb}
use Rattle.model.specs.Measures.{Shape}
use Rattle.model.specs.State.{Rights, staff, State}
use Rattle.model.specs.Sound.{store_of}
use Rattle.lists.specs.Rows.{fill}
use Rattle.bill.specs.Bill.{bill, bill_refused, bill_in, bill_of, bill_as}
use Rattle.model.specs.Calls.{till_of, tally_in, tally_of, TallyAnswer, BackupAnswer, backup_by, RestoreAnswer, restore_refusal, restore_of, RetireAnswer, retire_of, ListingAnswer, listing_refusal, listing_of, VersionOnAnswer, version_on_of}
use Rattle.model.specs.Rights.{Right, to_list, to_back_up, to_restore, to_retire, user_refusal, refusal_for, not_owner, owner_refusal, unless, backup_refusal, backup_as, restore_as, retire_refusal, retire_as, listing_as, version_on_refusal, version_on_as, tally_refusal, tally_as, set_rights_of}
use Rattle.stream.specs.Stream.{StreamAnswer, stream_refusal}
use Rattle.stream.specs.Version.{write_stream_of, write_stream_as}
use Rattle.sent.specs.Sent.{OfferAnswer, offer_of, offer_as, backup_sent_of, backup_sent_as}
use Rattle.laws.proofs.Unless.{unless_none, unless_some, accepted_none}
use Rattle.history.specs.Calls.{Call, call_layout, call_backup, call_restore, call_retire, call_listing, call_version_on, call_tally, call_bill, call_write_stream, call_offer, call_backup_sent, call_backup_all, call_set_rights, Buffers, refusal_in, till_named}
use Rattle.history.specs.Users.{right_for, answer_by, refusal_by}
use Rattle.history.specs.Keeper.{Keeper, kept_till}
use Rattle.history.proofs.View.{view_of}
use Rattle.history.specs.Demand.{Keys}
use Rattle.history.proofs.Steps.{Represents, left_store, rights_same}
use Rattle.history.proofs.Users.{refusal_at_lem, set_refusal_lem}
use Rattle.history.proofs.Fed.{Stands}

-- anyone may on a till that is not there
pub may_missing : (k : Keeper) (u t : ℕ) (right : Right) → length k ≤ t → user_refusal (leb (length k) t) (kept_till k t).rights u right ≡ 0
may_missing k zero t right h = refl
may_missing k (suc u) t right h = rw (le-leb (length k) t h) refl

module _ (s : Shape) (b : Buffers) (st : State) (k : Keeper) (l : Represents s b st) (z : Stands s k st) where
  rights_kept_lem : (t : ℕ) → (till_of st t).rights ≡ (kept_till k t).rights
  unfolding view_of
  rights_kept_lem t = (z.tills t).2

  -- the refusal on the buffers is the one by what is kept
  pub refusal_kept : (u t : ℕ) (right : Right) → refusal_for (store_of b.pool b.table) u t right ≡ user_refusal (leb (length k) t) (kept_till k t).rights u right
  refusal_kept u t right =
      refusal_at_lem s b st u l t right ∙ ap₂ (λ (n : ℕ) (rs : List Rights). user_refusal (leb n t) rs u right) (sym z.many) (rights_kept_lem t)

  -- a user who may
  pub may_same : {A : Type 0} (u t : ℕ) (right : Right) (refuse : ℕ → A) (a : A) → user_refusal (leb (length k) t) (kept_till k t).rights u right ≡ 0
      → unless (refusal_for (store_of b.pool b.table) u t right) refuse a ≡ a
  may_same u t right refuse a m = unless_none refuse _ a (refusal_kept u t right ∙ m)

  -- an accepted call is that of a user who may
  pub accepted_same : {A : Type 0} (f : A → ℕ) (refuse : ℕ → A) → ((n : ℕ) → f (refuse n) ≡ n) → (u t : ℕ) (right : Right) (a : A)
      → f (unless (refusal_for (store_of b.pool b.table) u t right) refuse a) ≡ 0 → unless (refusal_for (store_of b.pool b.table) u t right) refuse a ≡ a
  accepted_same f refuse h u t right a e = let n : ℕ = refusal_for (store_of b.pool b.table) u t right in unless_none refuse n a (accepted_none refuse f h n a e)

  -- a user who may not
  turned_away : {A : Type 0} (f : A → ℕ) (refuse : ℕ → A) → ((n : ℕ) → f (refuse n) ≡ n) → (u t : ℕ) (right : Right) (a : A)
      → ¬ (user_refusal (leb (length k) t) (kept_till k t).rights u right ≡ 0)
      → f (unless (refusal_for (store_of b.pool b.table) u t right) refuse a) ≡ user_refusal (leb (length k) t) (kept_till k t).rights u right
  turned_away f refuse h u t right a not =
      let n : ℕ = refusal_for (store_of b.pool b.table) u t right in
      ap f (unless_some refuse n a (λ e. not (sym (refusal_kept u t right) ∙ e))) ∙ h n ∙ refusal_kept u t right

  abbrev Away : ℕ → Call → Right → Type 0
  Away u call right =
      ¬ (user_refusal (leb (length k) (till_named call)) (kept_till k (till_named call)).rights u right ≡ 0)
      → refusal_by b u call ≡ user_refusal (leb (length k) (till_named call)) (kept_till k (till_named call)).rights u right

  refused_by : (u : ℕ) (call : Call) (right : Right) → right_for call ≡ some right → Away u call right
  unfolding right_for refusal_by answer_by refusal_in till_named
  refused_by u (call_layout c) right e = absurd (none-ne-some right e)
  refused_by u (call_backup era t d image) right e =
      subst (Away u (call_backup era t d image)) (some-injective _ right e)
      (unfold backup_as in turned_away (λ (a : BackupAnswer). a.refusal) (backup_refusal b.pool b.table) (λ n. unfold backup_refusal in refl) u t to_back_up (backup_by era b.pool b.table t d image))
  refused_by u (call_restore t v output) right e =
      subst (Away u (call_restore t v output)) (some-injective _ right e)
      (unfold restore_as in turned_away (λ (a : RestoreAnswer). a.refusal) (λ n. restore_refusal n output) (λ n. unfold restore_refusal in refl) u t to_restore (restore_of b.pool b.table t v output))
  refused_by u (call_retire t v) right e =
      subst (Away u (call_retire t v)) (some-injective _ right e)
      (unfold retire_as in turned_away (λ (a : RetireAnswer). a.refusal) (retire_refusal b.pool b.table) (λ n. unfold retire_refusal in refl) u t to_retire (retire_of b.pool b.table t v))
  refused_by u (call_listing t) right e =
      subst (Away u (call_listing t)) (some-injective _ right e)
      (unfold listing_as in turned_away (λ (a : ListingAnswer). a.refusal) listing_refusal (λ n. unfold listing_refusal in refl) u t to_list (listing_of b.pool b.table t))
  refused_by u (call_version_on t day) right e =
      subst (Away u (call_version_on t day)) (some-injective _ right e)
      (unfold version_on_as in turned_away (λ (a : VersionOnAnswer). a.refusal) version_on_refusal (λ n. unfold version_on_refusal in refl) u t to_list (version_on_of b.pool b.table t day))
  refused_by u call_tally right e = absurd (none-ne-some right e)
  refused_by u (call_bill price) right e = absurd (none-ne-some right e)
  refused_by u (call_write_stream t v output) right e =
      subst (Away u (call_write_stream t v output)) (some-injective _ right e)
      (unfold write_stream_as in turned_away (λ (a : StreamAnswer). a.refusal) (λ n. stream_refusal n output) (λ n. unfold stream_refusal in refl) u t to_restore (write_stream_of b.pool b.table t v output))
  refused_by u (call_offer t fs ms) right e =
      subst (Away u (call_offer t fs ms)) (some-injective _ right e)
      (unfold offer_as in turned_away (λ (a : OfferAnswer). a.refusal) (λ n. record { refusal = n; marks = ms }) (λ n. refl) u t to_back_up (offer_of b.pool b.table t fs ms))
  refused_by u (call_backup_sent t n fs ms ss) right e =
      subst (Away u (call_backup_sent t n fs ms ss)) (some-injective _ right e)
      (unfold backup_sent_as in turned_away (λ (a : BackupAnswer). a.refusal) (backup_refusal b.pool b.table) (λ n. unfold backup_refusal in refl) u t to_back_up (backup_sent_of b.pool b.table t n fs ms ss))
  refused_by u (call_backup_all ts ns is) right e = absurd (none-ne-some right e)
  refused_by u (call_set_rights subject t r) right e = absurd (none-ne-some right e)

  tally_by : (u : ℕ) → (tally_as b.pool b.table u).refusal ≡ not_owner u
  unfolding tally_as owner_refusal tally_of tally_in tally_refusal
  tally_by u = rw (left_store s b st l) (go (not_owner u) (eqb (not_owner u) 0) refl (tally_in (some (record { shape = s; state = st }))) refl)
    where
      go : (n : ℕ) (q : Bool) → eqb n 0 ≡ q → (a : TallyAnswer) → a.refusal ≡ 0 → (cond q a (tally_refusal n)).refusal ≡ n
      go n true q a e = e ∙ sym (eqb-true n 0 q)
      go n false q a e = unfold tally_refusal in refl

  bill_by : (u price : ℕ) → (bill_as b.pool b.table u price).refusal ≡ unless (not_owner u) (λ n. n) (cond (ltb 10000 price) 30 0)
  unfolding bill_as owner_refusal bill_of bill_in
  bill_by u price = rw (left_store s b st l) (go (not_owner u) (eqb (not_owner u) 0) (ltb 10000 price) (fill 16 (bill price st)))
    where
      go : (n : ℕ) (may dear : Bool) (sums : List ℕ) → (cond may (cond dear (bill_refused 30) (record { refusal = 0; sums = sums })) (bill_refused n)).refusal ≡ cond may (cond dear 30 0) n
      go n true true sums = unfold bill_refused in refl
      go n true false sums = refl
      go n false dear sums = unfold bill_refused in refl

  set_by : (u subject t : ℕ) (r : Rights) → (set_rights_of b.pool b.table u subject t r).refusal
      ≡ cond (leb (length k) t) 3 (cond (ltb staff u || (eqb subject 0 || ltb staff subject)) 22 (cond (ltb 0 u) 23 0))
  set_by u subject t r =
      rights_same s b st l u subject t r
      ∙ set_refusal_lem s st u subject t r
      ∙ ap (λ (n : ℕ). cond (leb n t) 3 (cond (ltb staff u || (eqb subject 0 || ltb staff subject)) 22 (cond (ltb 0 u) 23 0))) (sym z.many)

  pub keys : Keys s.measures.block_bytes st k b
  keys = record { kept = rights_kept_lem; refused = refused_by; tally = tally_by; bill = bill_by; set = set_by }
