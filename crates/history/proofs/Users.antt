-- A user's call is the call, or it is refused and nothing is altered: so what was proved of the calls holds of them with their users.
use mathlib.Core.Path.{◌≡◌, refl, sym, ap, ap₂, ◌∙◌}
use mathlib.Core.Bool.{Bool, true, false, cond, ◌||◌, false≢true}
use mathlib.Core.List.{List, [], ◌∷◌}
use mathlib.Core.Option.{Option, some}
use Prim.Native.Nat.{ℕ}
use lib.Dec.{eqb, ltb, leb}
use borrow.Author.Tests.{eqb-true}
use Rattle.model.specs.Measures.{Shape}
use Rattle.model.specs.State.{Rights, staff, State, Outcome, refused, done}
use Rattle.model.specs.Image.{Era}
use Rattle.model.specs.Table.{state_to_words, state_to_bytes}
use Rattle.model.specs.Sound.{is_sound, Store, store_of}
use Rattle.bill.specs.Bill.{BillAnswer, bill_refused, bill_in, bill_of, bill_as}
use Rattle.model.specs.Calls.{layout_of, till_of, with_till, BackupAnswer, RestoreAnswer, ListingAnswer, VersionOnAnswer, TallyAnswer, backup, backup_in, backup_by, backup_answer, restore, restore_in, restore_of, restore_refusal, retire, RetireAnswer, retire_in, retire_of, retire_answer, listing_in, listing_of, listing_refusal, version_on_in, version_on_of, tally_in, tally_of, After, state_or, outcome_refusal, outcome_number}
use Rattle.model.specs.Rights.{Right, to_list, to_back_up, to_restore, to_retire, refusal_at, refusal_for, not_owner, owner_refusal, unless, backup_refusal, backup_as, restore_as, retire_refusal, retire_as, listing_as, version_on_refusal, version_on_as, tally_refusal, tally_as, with_rights, set_rights}
use Rattle.laws.proofs.Empty.{layout_refused}
use Rattle.laws.proofs.Retire.{no_refusal}
use Rattle.sha1_definition.specs.Sha1.{sha1}
use Rattle.stream.specs.Stream.{StreamAnswer, stream_refusal}
use Rattle.stream.specs.Version.{write_version, write_stream_of, write_stream_as}
use Rattle.sent.specs.Sent.{OfferAnswer, offer_in, offer_of, offer_as, backup_sent, backup_sent_in, backup_sent_by, backup_sent_of, backup_sent_as}
use Rattle.laws.proofs.Unless.{unless_none, accepted_none}
use Rattle.history.specs.Calls.{Call, call_layout, call_backup, call_restore, call_retire, call_listing, call_version_on, call_tally, call_bill, call_write_stream, call_offer, call_backup_sent, call_backup_all, call_set_rights, Buffers, laid_out, backed_up, retired, backed_up_all, rights_set, refusal_in, refused_layout}
use Rattle.history.proofs.Calls.{buffers_after, state_after, answer_in, is_accepted}
use Rattle.history.specs.Users.{UserCall, buffers_by, answer_by, for_user, state_by, answer_in_by, buffers_after_all, answers_of, refused_layouts, state_after_all, answers_in}
use Rattle.history.proofs.View.{IsPlain}
use Rattle.history.proofs.Reach.{sound_after, closing_sound, rights_good, unless_sound}
use Rattle.history.proofs.Steps.{Represents, left_store, left_one, closing_left, rights_left, closing_same, rights_same}

-- ---- what is left

module _ (s : Shape) (b : Buffers) (st : State) where
  abbrev AreOf : List ℕ → List ℕ → State → Type 0
  AreOf pool table x = (pool ≡ state_to_bytes x) × (table ≡ state_to_words s x)

  backup_by_lem : (n : ℕ) (a : BackupAnswer) (o : Outcome After) → AreOf b.pool b.table st → AreOf a.pool a.table (state_or st o)
      → AreOf (unless n (backup_refusal b.pool b.table) a).pool (unless n (backup_refusal b.pool b.table) a).table (state_or st (unless n refused o))
  unfolding backup_refusal
  backup_by_lem n a o before after = go (eqb n 0)
    where
      go : (q : Bool) → AreOf (cond q a (record { refusal = n; version = 0; pool = b.pool; table = b.table })).pool (cond q a (record { refusal = n; version = 0; pool = b.pool; table = b.table })).table (state_or st (cond q o (refused n)))
      go true = after
      go false = unfold state_or in before

  retire_by : (n : ℕ) (a : RetireAnswer) (o : Outcome After) → AreOf b.pool b.table st → AreOf a.pool a.table (state_or st o)
      → AreOf (unless n (retire_refusal b.pool b.table) a).pool (unless n (retire_refusal b.pool b.table) a).table (state_or st (unless n refused o))
  unfolding retire_refusal
  retire_by n a o before after = go (eqb n 0)
    where
      go : (q : Bool) → AreOf (cond q a (record { refusal = n; length = 0; pool = b.pool; table = b.table })).pool (cond q a (record { refusal = n; length = 0; pool = b.pool; table = b.table })).table (state_or st (cond q o (refused n)))
      go true = after
      go false = unfold state_or in before

module _ (s : Shape) (b : Buffers) (st : State) (u : ℕ) where
  -- the user's refusal on the buffers is that on the state
  pub refusal_at_lem : Represents s b st → (t : ℕ) (right : Right) → refusal_for (store_of b.pool b.table) u t right ≡ refusal_at s st u t right
  unfolding refusal_for
  refusal_at_lem l t right = ap (λ (o : Option Store). refusal_for o u t right) (left_store s b st l)

  sound_by : Represents s b st → (call : Call) → is_sound s (state_by s st u call) ≡ true
  unfolding state_by state_after
  sound_by l (call_layout c) = l.sound
  sound_by l (call_backup era t d image) = unless_sound s st (refusal_at s st u t to_back_up) (backup era s st t d image) l.sound (sound_after s l.fit.proper st l.sound (call_backup era t d image))
  sound_by l (call_restore t v output) = l.sound
  sound_by l (call_retire t v) = unless_sound s st (refusal_at s st u t to_retire) (retire s st t v) l.sound (sound_after s l.fit.proper st l.sound (call_retire t v))
  sound_by l (call_listing t) = l.sound
  sound_by l (call_version_on t day) = l.sound
  sound_by l call_tally = l.sound
  sound_by l (call_bill price) = l.sound
  sound_by l (call_write_stream t v output) = l.sound
  sound_by l (call_offer t fs ms) = l.sound
  sound_by l (call_backup_sent t n fs ms ss) =
      unless_sound s st (refusal_at s st u t to_back_up) (backup_sent sha1 s st t n fs ms ss) l.sound (sound_after s l.fit.proper st l.sound (call_backup_sent t n fs ms ss))
  sound_by l (call_backup_all ts ns is) = closing_sound s l.fit.proper st l.sound u ts ns is
  sound_by l (call_set_rights subject t r) = rights_good s l.fit.proper st l.sound u subject t r (set_rights s st u subject t r) refl

  -- what the calls themselves leave
  backup_left : Represents s b st → (era : Era) (t : ℕ) (d : Option ℕ) (image : List ℕ)
      → AreOf s b st (backup_by era b.pool b.table t d image).pool (backup_by era b.pool b.table t d image).table (state_or st (backup era s st t d image))
  unfolding buffers_after state_after
  backup_left l era t d image = let p = left_one s b st (call_backup era t d image) l tt in (p.pool, p.table)

  retire_left : Represents s b st → (t v : ℕ) → AreOf s b st (retire_of b.pool b.table t v).pool (retire_of b.pool b.table t v).table (state_or st (retire s st t v))
  unfolding buffers_after state_after
  retire_left l t v = let p = left_one s b st (call_retire t v) l tt in (p.pool, p.table)

  sent_left : Represents s b st → (t n : ℕ) (fs ms ss : List ℕ)
      → AreOf s b st (backup_sent_of b.pool b.table t n fs ms ss).pool (backup_sent_of b.pool b.table t n fs ms ss).table (state_or st (backup_sent sha1 s st t n fs ms ss))
  unfolding buffers_after state_after
  sent_left l t n fs ms ss = let p = left_one s b st (call_backup_sent t n fs ms ss) l tt in (p.pool, p.table)

  pub left_by : (call : Call) → Represents s b st → refused_layout b call → Represents s (buffers_by b u call) (state_by s st u call)
  left_by call l r = record { fit = l.fit; pool = (words call r).0; table = (words call r).1; sound = sound_by l call }
    where
      words : (call : Call) → refused_layout b call → AreOf s b st (buffers_by b u call).pool (buffers_by b u call).table (state_by s st u call)
      words (call_layout c) r = unfold buffers_by state_by layout_of in (let z = layout_refused _ _ _ b.pool b.table r in (z.0 ∙ l.pool, z.1 ∙ l.table))
      words (call_backup era t d image) r =
          unfold buffers_by state_by backup_as in
          rw (refusal_at_lem l t to_back_up) (backup_by_lem s b st (refusal_at s st u t to_back_up) (backup_by era b.pool b.table t d image) (backup era s st t d image) (l.pool, l.table) (backup_left l era t d image))
      words (call_restore t v output) r = unfold buffers_by state_by in (l.pool, l.table)
      words (call_retire t v) r =
          unfold buffers_by state_by retire_as in
          rw (refusal_at_lem l t to_retire) (retire_by s b st (refusal_at s st u t to_retire) (retire_of b.pool b.table t v) (retire s st t v) (l.pool, l.table) (retire_left l t v))
      words (call_listing t) r = unfold buffers_by state_by in (l.pool, l.table)
      words (call_version_on t day) r = unfold buffers_by state_by in (l.pool, l.table)
      words call_tally r = unfold buffers_by state_by in (l.pool, l.table)
      words (call_bill price) r = unfold buffers_by state_by in (l.pool, l.table)
      words (call_write_stream t v output) r = unfold buffers_by state_by in (l.pool, l.table)
      words (call_offer t fs ms) r = unfold buffers_by state_by in (l.pool, l.table)
      words (call_backup_sent t n fs ms ss) r =
          unfold buffers_by state_by backup_sent_as in
          rw (refusal_at_lem l t to_back_up)
          (backup_by_lem s b st (refusal_at s st u t to_back_up) (backup_sent_of b.pool b.table t n fs ms ss) (backup_sent sha1 s st t n fs ms ss) (l.pool, l.table) (sent_left l t n fs ms ss))
      words (call_backup_all ts ns is) r = unfold buffers_by state_by in closing_left s b st l u ts ns is
      words (call_set_rights subject t r) q = unfold buffers_by state_by in rights_left s b st l u subject t r

-- ---- what is answered

backed_by : (s : Shape) (b : Buffers) (n : ℕ) (o : Outcome After)
    → backed_up (unless n (backup_refusal b.pool b.table) (backup_answer b.pool b.table s o)).refusal (unless n (backup_refusal b.pool b.table) (backup_answer b.pool b.table s o)).version
    ≡ backed_up (outcome_refusal (unless n refused o)) (outcome_number (unless n refused o))
unfolding backup_refusal
backed_by s b n o = go (eqb n 0) o
  where
    go : (q : Bool) (o : Outcome After)
        → backed_up (cond q (backup_answer b.pool b.table s o) (record { refusal = n; version = 0; pool = b.pool; table = b.table })).refusal
        (cond q (backup_answer b.pool b.table s o) (record { refusal = n; version = 0; pool = b.pool; table = b.table })).version
        ≡ backed_up (outcome_refusal (cond q o (refused n))) (outcome_number (cond q o (refused n)))
    go true (refused k) = unfold backup_answer outcome_refusal outcome_number in refl
    go true (done a) = unfold backup_answer outcome_refusal outcome_number in refl
    go false o = unfold outcome_refusal outcome_number in refl

retired_by : (s : Shape) (b : Buffers) (n : ℕ) (o : Outcome After)
    → retired (unless n (retire_refusal b.pool b.table) (retire_answer b.pool b.table s o)).refusal (unless n (retire_refusal b.pool b.table) (retire_answer b.pool b.table s o)).length
    ≡ retired (outcome_refusal (unless n refused o)) (outcome_number (unless n refused o))
unfolding retire_refusal
retired_by s b n o = go (eqb n 0) o
  where
    go : (q : Bool) (o : Outcome After)
        → retired (cond q (retire_answer b.pool b.table s o) (record { refusal = n; length = 0; pool = b.pool; table = b.table })).refusal
        (cond q (retire_answer b.pool b.table s o) (record { refusal = n; length = 0; pool = b.pool; table = b.table })).length
        ≡ retired (outcome_refusal (cond q o (refused n))) (outcome_number (cond q o (refused n)))
    go true (refused k) = unfold retire_answer outcome_refusal outcome_number in refl
    go true (done a) = unfold retire_answer outcome_refusal outcome_number in refl
    go false o = unfold outcome_refusal outcome_number in refl

pub answer_by_lem : (s : Shape) (b : Buffers) (st : State) (u : ℕ) (call : Call) → Represents s b st → answer_by b u call ≡ answer_in_by s st u call
unfolding answer_by answer_in_by
answer_by_lem s b st u (call_layout c) e = ap₂ (λ (pool table : List ℕ). laid_out (layout_of c pool table).refusal) e.pool e.table
answer_by_lem s b st u (call_backup era t d image) e = unfold backup_as refusal_for backup_by backup_in in rw (left_store s b st e) (backed_by s b (refusal_at s st u t to_back_up) (backup era s st t d image))
answer_by_lem s b st u (call_restore t v output) e = unfold restore_as refusal_for restore_of restore_in in rw (left_store s b st e) refl
answer_by_lem s b st u (call_retire t v) e = unfold retire_as refusal_for retire_of retire_in in rw (left_store s b st e) (retired_by s b (refusal_at s st u t to_retire) (retire s st t v))
answer_by_lem s b st u (call_listing t) e = unfold listing_as refusal_for listing_of in rw (left_store s b st e) refl
answer_by_lem s b st u (call_version_on t day) e = unfold version_on_as refusal_for version_on_of in rw (left_store s b st e) refl
answer_by_lem s b st u call_tally e = unfold tally_as owner_refusal tally_of in rw (left_store s b st e) refl
answer_by_lem s b st u (call_bill price) e = unfold bill_as owner_refusal bill_of in rw (left_store s b st e) refl
answer_by_lem s b st u (call_write_stream t v output) e = unfold write_stream_as refusal_for write_stream_of write_version restore_of restore_in in rw (left_store s b st e) refl
answer_by_lem s b st u (call_offer t fs ms) e = unfold offer_as refusal_for offer_of in rw (left_store s b st e) refl
answer_by_lem s b st u (call_backup_sent t n fs ms ss) e =
    unfold backup_sent_as refusal_for backup_sent_of backup_sent_by backup_sent_in in rw (left_store s b st e) (backed_by s b (refusal_at s st u t to_back_up) (backup_sent sha1 s st t n fs ms ss))
answer_by_lem s b st u (call_backup_all ts ns is) e = ap backed_up_all (closing_same s b st e u ts ns is)
answer_by_lem s b st u (call_set_rights subject t r) e = ap rights_set (rights_same s b st e u subject t r)

-- ---- lists

pub left_all : (s : Shape) (calls : List UserCall) (b : Buffers) (st : State) → Represents s b st → refused_layouts b calls → Represents s (buffers_after_all b calls) (state_after_all s st calls)
unfolding buffers_after_all state_after_all
left_all s [] b st l r = l
left_all s (c ∷ calls) b st l r = left_all s calls (buffers_by b c.user c.call) (state_by s st c.user c.call) (left_by s b st c.user c.call l r.0) r.1

pub answers_same : (s : Shape) (calls : List UserCall) (b : Buffers) (st : State) → Represents s b st → refused_layouts b calls → answers_of b calls ≡ answers_in s st calls
unfolding answers_of answers_in
answers_same s [] b st e r = refl
answers_same s (c ∷ calls) b st e r =
    ap₂ ◌∷◌ (answer_by_lem s b st c.user c.call e)
    (answers_same s calls (buffers_by b c.user c.call) (state_by s st c.user c.call) (left_by s b st c.user c.call e r.0) r.1)

-- ---- accepted or refused

-- what a refused outcome leaves
pub refused_unchanged : (st : State) (o : Outcome After) → eqb (outcome_refusal o) 0 ≡ false → state_or st o ≡ st
unfolding state_or outcome_refusal
refused_unchanged st (refused n) e = refl
refused_unchanged st (done a) e = absurd (false≢true (sym e))

abbrev pub accepted_by : Shape → State → ℕ → Call → Bool
accepted_by s st u call = eqb (refusal_in (answer_in_by s st u call)) 0

-- what an accepted or refused call of a user did
abbrev pub IsDone : Shape → State → Call → Bool → State → Type 0
IsDone s st call true end = (is_accepted s st call ≡ true) × (end ≡ state_after s st call)
IsDone s st call false end = end ≡ st

pub done_made : (s : Shape) (st : State) (call : Call) (acc : Bool) (end : State) → IsDone s st call acc end → end ≡ cond acc (state_after s st call) st
done_made s st call true end d = d.1
done_made s st call false end d = d

pub done_accepted : (s : Shape) (st : State) (call : Call) (acc : Bool) (end : State) → IsDone s st call acc end → acc ≡ true → is_accepted s st call ≡ true
done_accepted s st call true end d e = d.0
done_accepted s st call false end d e = absurd (false≢true e)

pub unless_done : (n : ℕ) (o : Outcome After) (a : After) → unless n refused o ≡ done a → o ≡ done a
unless_done n o a = go (eqb n 0)
  where
    go : (q : Bool) → cond q o (refused n) ≡ done a → o ≡ done a
    go true e = e
    go false e = absurd (no_refusal n a e)

-- an outcome that waits for the user's right
pub outcome_done : (st : State) (n : ℕ) (o : Outcome After) (acc : Bool) → eqb (outcome_refusal (unless n refused o)) 0 ≡ acc
    → (acc ≡ true → (eqb (outcome_refusal o) 0 ≡ true) × (state_or st (unless n refused o) ≡ state_or st o)) × (acc ≡ false → state_or st (unless n refused o) ≡ st)
outcome_done st n o acc e = go (eqb n 0) refl e
  where
    go : (q : Bool) → eqb n 0 ≡ q → eqb (outcome_refusal (cond q o (refused n))) 0 ≡ acc
        → (acc ≡ true → (eqb (outcome_refusal o) 0 ≡ true) × (state_or st (cond q o (refused n)) ≡ state_or st o)) × (acc ≡ false → state_or st (cond q o (refused n)) ≡ st)
    go true q e = ((λ a. (e ∙ a, refl)), λ a. refused_unchanged st o (e ∙ a))
    go false q e = let n : eqb n 0 ≡ acc = unfold outcome_refusal in e in ((λ a. absurd (false≢true (sym q ∙ n ∙ a))), λ a. unfold state_or in refl)

-- an answer that waits for it
answer_waits : {A : Type 0} (f : A → ℕ) (refuse : ℕ → A) → ((n : ℕ) → f (refuse n) ≡ n) → (n : ℕ) (a : A) → eqb (f (unless n refuse a)) 0 ≡ true → eqb (f a) 0 ≡ true
answer_waits f refuse h n a e =
    let served = unless_none refuse n a (accepted_none refuse f h n a (eqb-true (f (unless n refuse a)) 0 e)) in
    ap (λ x. eqb (f x) 0) (sym served) ∙ e

-- a change of rights is refused by its arguments alone
pub set_refusal_lem : (s : Shape) (st : State) (u subject t : ℕ) (r : Rights)
    → outcome_refusal (set_rights s st u subject t r) ≡ cond (leb s.capacities.tills t) 3 (cond (ltb staff u || (eqb subject 0 || ltb staff subject)) 22 (cond (ltb 0 u) 23 0))
unfolding set_rights
set_refusal_lem s st u subject t r =
    go (leb s.capacities.tills t) (ltb staff u || (eqb subject 0 || ltb staff subject)) (ltb 0 u) (record { state = with_till st t (with_rights (till_of st t) subject r) st.storage; answer = 0 })
  where
    go : (gone odd other : Bool) (a : After) → outcome_refusal (cond gone (refused 3) (cond odd (refused 22) (cond other (refused 23) (done a)))) ≡ cond gone 3 (cond odd 22 (cond other 23 0))
    go true odd other a = unfold outcome_refusal in refl
    go false true other a = unfold outcome_refusal in refl
    go false false true a = unfold outcome_refusal in refl
    go false false false a = unfold outcome_refusal in refl

-- a change of rights by its refusals
abbrev set_if : Bool → Bool → Bool → After → Outcome After
set_if gone odd other new = cond gone (refused 3) (cond odd (refused 22) (cond other (refused 23) (done new)))

module _ (s : Shape) (st : State) (u : ℕ) where
  -- a call that leaves the state as it is
  unchanged : (call : Call) → state_by s st u call ≡ st → state_after s st call ≡ st → (accepted_by s st u call ≡ true → is_accepted s st call ≡ true)
      → (acc : Bool) → accepted_by s st u call ≡ acc → IsDone s st call acc (state_by s st u call)
  unchanged call p q h true e = (h e, p ∙ sym q)
  unchanged call p q h false e = p

  -- a backup of a full image, for a user
  pub backup_done : (era : Era) (t : ℕ) (d : Option ℕ) (image : List ℕ) (acc : Bool) → eqb (outcome_refusal (for_user s st u t to_back_up (backup era s st t d image))) 0 ≡ acc
      → IsDone s st (call_backup era t d image) acc (state_or st (for_user s st u t to_back_up (backup era s st t d image)))
  unfolding is_accepted answer_in refusal_in state_after
  backup_done era t d image true e = (outcome_done st (refusal_at s st u t to_back_up) (backup era s st t d image) true e).0 refl
  backup_done era t d image false e = (outcome_done st (refusal_at s st u t to_back_up) (backup era s st t d image) false e).1 refl

  retire_done : (t v : ℕ) (acc : Bool) → eqb (outcome_refusal (for_user s st u t to_retire (retire s st t v))) 0 ≡ acc
      → IsDone s st (call_retire t v) acc (state_or st (for_user s st u t to_retire (retire s st t v)))
  unfolding is_accepted answer_in refusal_in state_after
  retire_done t v true e = (outcome_done st (refusal_at s st u t to_retire) (retire s st t v) true e).0 refl
  retire_done t v false e = (outcome_done st (refusal_at s st u t to_retire) (retire s st t v) false e).1 refl

  -- a change of rights that is accepted is the owner's
  set_done : (subject t : ℕ) (r : Rights) (acc : Bool) → eqb (outcome_refusal (set_rights s st u subject t r)) 0 ≡ acc
      → IsDone s st (call_set_rights subject t r) acc (state_or st (set_rights s st u subject t r))
  unfolding is_accepted answer_in refusal_in state_after set_rights
  set_done subject t r true e = go (record { state = with_till st t (with_rights (till_of st t) subject r) st.storage; answer = 0 }) (leb s.capacities.tills t) (ltb staff u) (eqb subject 0 || ltb staff subject) (ltb 0 u) e
    where
      go : (new : After) (gone unknown odd other : Bool) → eqb (outcome_refusal (set_if gone (unknown || odd) other new)) 0 ≡ true
          → (eqb (outcome_refusal (set_if gone odd false new)) 0 ≡ true) × (state_or st (set_if gone (unknown || odd) other new) ≡ state_or st (set_if gone odd false new))
      go new true unknown odd other e = let no : false ≡ true = unfold outcome_refusal in e in absurd (false≢true no)
      go new false true odd other e = let no : false ≡ true = unfold outcome_refusal in e in absurd (false≢true no)
      go new false false true other e = let no : false ≡ true = unfold outcome_refusal in e in absurd (false≢true no)
      go new false false false true e = let no : false ≡ true = unfold outcome_refusal in e in absurd (false≢true no)
      go new false false false false e = (e, refl)
  set_done subject t r false e = refused_unchanged st (set_rights s st u subject t r) e

  -- any plain call
  pub done_by : (call : Call) → IsPlain call → (acc : Bool) → accepted_by s st u call ≡ acc → IsDone s st call acc (state_by s st u call)
  unfolding state_by answer_in_by refusal_in
  done_by (call_layout c) p acc e = unchanged (call_layout c) refl (unfold state_after in refl) (λ h. unfold is_accepted answer_in refusal_in in h) acc e
  done_by (call_backup era t d image) p acc e = backup_done era t d image acc e
  done_by (call_restore t v output) p acc e =
      unchanged (call_restore t v output) refl (unfold state_after in refl) (λ h. unfold is_accepted answer_in refusal_in in answer_waits (λ (a : RestoreAnswer). a.refusal) (λ n. restore_refusal n output) (λ n. unfold restore_refusal in refl) (refusal_at s st u t to_restore) (restore s st t v output) h) acc e
  done_by (call_retire t v) p acc e = retire_done t v acc e
  done_by (call_listing t) p acc e =
      unchanged (call_listing t) refl (unfold state_after in refl) (λ h. unfold is_accepted answer_in refusal_in in answer_waits (λ (a : ListingAnswer). a.refusal) listing_refusal (λ n. unfold listing_refusal in refl) (refusal_at s st u t to_list) (listing_in (some (record { shape = s; state = st })) t) h) acc e
  done_by (call_version_on t day) p acc e =
      unchanged (call_version_on t day) refl (unfold state_after in refl) (λ h. unfold is_accepted answer_in refusal_in in answer_waits (λ (a : VersionOnAnswer). a.refusal) version_on_refusal (λ n. unfold version_on_refusal in refl) (refusal_at s st u t to_list) (version_on_in (some (record { shape = s; state = st })) t day) h) acc e
  done_by call_tally p acc e =
      unchanged call_tally refl (unfold state_after in refl) (λ h. unfold is_accepted answer_in refusal_in in answer_waits (λ (a : TallyAnswer). a.refusal) tally_refusal (λ n. unfold tally_refusal in refl) (not_owner u) (tally_in (some (record { shape = s; state = st }))) h) acc e
  done_by (call_bill price) p acc e =
      unchanged (call_bill price) refl (unfold state_after in refl) (λ h. unfold is_accepted answer_in refusal_in in answer_waits (λ (a : BillAnswer). a.refusal) bill_refused (λ n. unfold bill_refused in refl) (not_owner u) (bill_in (some (record { shape = s; state = st })) price) h) acc e
  done_by (call_write_stream t v output) p acc e =
      unchanged (call_write_stream t v output) refl (unfold state_after in refl) (λ h. unfold is_accepted answer_in refusal_in in answer_waits (λ (a : StreamAnswer). a.refusal) (λ n. stream_refusal n output) (λ n. unfold stream_refusal in refl) (refusal_at s st u t to_restore) (write_version s st t v output) h) acc e
  done_by (call_offer t fs ms) p acc e =
      unchanged (call_offer t fs ms) refl (unfold state_after in refl) (λ h. unfold is_accepted answer_in refusal_in in answer_waits (λ (a : OfferAnswer). a.refusal) (λ n. record { refusal = n; marks = ms }) (λ n. refl) (refusal_at s st u t to_back_up) (offer_in sha1 (some (record { shape = s; state = st })) t fs ms) h) acc e
  done_by (call_backup_sent t n fs ms ss) p acc e = absurd p
  done_by (call_backup_all ts ns is) p acc e = absurd p
  done_by (call_set_rights subject t r) p acc e = set_done subject t r acc e
