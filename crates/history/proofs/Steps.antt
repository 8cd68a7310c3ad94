-- Call by call on the buffers: they are the words and bytes of a sound state, and each call leaves such.
use mathlib.Core.Path.{◌≡◌, refl, ap, ap₂, ◌∙◌}
use mathlib.Core.Bool.{true}
use mathlib.Core.List.{List}
use mathlib.Core.Option.{Option, some}
use Prim.Native.Nat.{ℕ}
use lib.Dec.{eqb}
use Rattle.model.specs.Measures.{Shape}
use Rattle.model.specs.State.{Rights, State, Outcome, refused, done}
use Rattle.model.specs.Table.{state_to_words, state_to_bytes}
use Rattle.model.specs.Sound.{is_sound, Store, store_of}
use Rattle.bill.specs.Bill.{bill_in, bill_of}
use Rattle.model.specs.Calls.{empty_state, layout_of, backup, backup_in, backup_by, backup_answer, restore_in, restore_of, retire, retire_in, retire_of, retire_answer, listing_in, listing_of, version_on_in, version_on_of, tally_in, tally_of, After, state_or, outcome_refusal, outcome_number}
use Rattle.model.specs.Rights.{set_rights, rights_answer, set_rights_in, set_rights_of}
use Rattle.laws.proofs.Keys.{rights_set_lem}
use Rattle.laws.proofs.Fits.{Fit, range_fit}
use Rattle.laws.proofs.RoundTrip.{round_trip}
use Rattle.laws.proofs.Empty.{empty_sound, layout_refused, layout_accepted}
use Rattle.sha1_definition.specs.Sha1.{sha1}
use Rattle.sent.specs.Sent.{offer_in, offer_of, backup_sent, backup_sent_in, backup_sent_by, backup_sent_of}
use Rattle.closing.specs.Closing.{Closed, all_answer, closed_or, backup_all, backup_all_answer, backup_all_in, backup_all_as}
use Rattle.stream.specs.Version.{longest_output, write_restored, write_version, write_stream_of}
use Rattle.history.specs.Calls.{Call, call_layout, call_backup, call_restore, call_retire, call_listing, call_version_on, call_tally, call_bill, call_write_stream, call_offer, call_backup_sent, call_backup_all, call_set_rights, Buffers, Answer, laid_out, backed_up, restored, retired, listed, found_on, tallied, billed, streamed, offered, backed_up_all, rights_set, refusal_in, refused_layout}
use Rattle.history.proofs.Calls.{refusal_of, buffers_after, answer_of, state_after, answer_in, is_accepted}
use Rattle.history.specs.Demand.{laid_out_in}
use Rattle.history.proofs.Reach.{sound_after}

pub record Represents (s : Shape) (b : Buffers) (st : State) : Type 0 where
  pub fit : Fit s
  pub pool : b.pool ≡ state_to_bytes st
  pub table : b.table ≡ state_to_words s st
  pub sound : is_sound s st ≡ true

-- the store that a call finds
pub left_store : (s : Shape) (b : Buffers) (st : State) → Represents s b st → store_of b.pool b.table ≡ some (record { shape = s; state = st })
left_store s b st e = ap₂ store_of e.pool e.table ∙ round_trip s st e.fit e.sound

-- ---- what is left

backup_words : (s : Shape) (b : Buffers) (st : State) (o : Outcome After) → b.pool ≡ state_to_bytes st → b.table ≡ state_to_words s st
    → ((backup_answer b.pool b.table s o).pool ≡ state_to_bytes (state_or st o)) × ((backup_answer b.pool b.table s o).table ≡ state_to_words s (state_or st o))
unfolding backup_answer state_or
backup_words s b st (refused n) p q = (p, q)
backup_words s b st (done a) p q = (refl, refl)

retire_words : (s : Shape) (b : Buffers) (st : State) (o : Outcome After) → b.pool ≡ state_to_bytes st → b.table ≡ state_to_words s st
    → ((retire_answer b.pool b.table s o).pool ≡ state_to_bytes (state_or st o)) × ((retire_answer b.pool b.table s o).table ≡ state_to_words s (state_or st o))
unfolding retire_answer state_or
retire_words s b st (refused n) p q = (p, q)
retire_words s b st (done a) p q = (refl, refl)

closing_words : (s : Shape) (b : Buffers) (st : State) (o : Outcome Closed) → b.pool ≡ state_to_bytes st → b.table ≡ state_to_words s st
    → ((backup_all_answer b.pool b.table s o).pool ≡ state_to_bytes (closed_or st o)) × ((backup_all_answer b.pool b.table s o).table ≡ state_to_words s (closed_or st o))
unfolding backup_all_answer closed_or
closing_words s b st (refused n) p q = (p, q)
closing_words s b st (done c) p q = (refl, refl)

-- what a user's closing and a user's change of rights leave
pub closing_left : (s : Shape) (b : Buffers) (st : State) → Represents s b st → (u : ℕ) (ts ns is : List ℕ)
    → ((backup_all_as b.pool b.table u ts ns is).pool ≡ state_to_bytes (closed_or st (backup_all s st u ts ns is))) × ((backup_all_as b.pool b.table u ts ns is).table ≡ state_to_words s (closed_or st (backup_all s st u ts ns is)))
unfolding backup_all_as backup_all_in
closing_left s b st e u ts ns is = rw (left_store s b st e) (closing_words s b st (backup_all s st u ts ns is) e.pool e.table)

pub rights_left : (s : Shape) (b : Buffers) (st : State) → Represents s b st → (u subject t : ℕ) (r : Rights)
    → (b.pool ≡ state_to_bytes (state_or st (set_rights s st u subject t r))) × ((set_rights_of b.pool b.table u subject t r).table ≡ state_to_words s (state_or st (set_rights s st u subject t r)))
unfolding set_rights_of set_rights_in
rights_left s b st e u subject t r = rw (left_store s b st e) (go (set_rights s st u subject t r) refl)
  where
    go : (o : Outcome After) → set_rights s st u subject t r ≡ o → (b.pool ≡ state_to_bytes (state_or st o)) × ((rights_answer b.table s o).table ≡ state_to_words s (state_or st o))
    go (refused n) q = unfold rights_answer state_or in (e.pool, e.table)
    go (done a) q = unfold rights_answer state_or in (e.pool ∙ (rights_set_lem s st u subject t r a e.sound q).bytes, refl)

pub left_one : (s : Shape) (b : Buffers) (st : State) (call : Call) → Represents s b st → refused_layout b call → Represents s (buffers_after b call) (state_after s st call)
left_one s b st call e r = record { fit = e.fit; pool = (words call r).0; table = (words call r).1; sound = sound_after s e.fit.proper st e.sound call }
  where
    words : (call : Call) → refused_layout b call
        → ((buffers_after b call).pool ≡ state_to_bytes (state_after s st call)) × ((buffers_after b call).table ≡ state_to_words s (state_after s st call))
    words (call_layout c) r =
        unfold buffers_after state_after layout_of in (let z = layout_refused _ _ _ b.pool b.table r in (z.0 ∙ e.pool, z.1 ∙ e.table))
    words (call_backup era t d image) r =
        unfold buffers_after state_after backup_by backup_in in rw (left_store s b st e) (backup_words s b st (backup era s st t d image) e.pool e.table)
    words (call_restore t v output) r = unfold buffers_after state_after in (e.pool, e.table)
    words (call_retire t v) r =
        unfold buffers_after state_after retire_of retire_in in rw (left_store s b st e) (retire_words s b st (retire s st t v) e.pool e.table)
    words (call_listing t) r = unfold buffers_after state_after in (e.pool, e.table)
    words (call_version_on t day) r = unfold buffers_after state_after in (e.pool, e.table)
    words call_tally r = unfold buffers_after state_after in (e.pool, e.table)
    words (call_bill price) r = unfold buffers_after state_after in (e.pool, e.table)
    words (call_write_stream t v output) r = unfold buffers_after state_after in (e.pool, e.table)
    words (call_offer t fs ms) r = unfold buffers_after state_after in (e.pool, e.table)
    words (call_backup_sent t n fs ms ss) r =
        unfold buffers_after state_after backup_sent_of backup_sent_by backup_sent_in in
        rw (left_store s b st e) (backup_words s b st (backup_sent sha1 s st t n fs ms ss) e.pool e.table)
    words (call_backup_all ts ns is) r = unfold buffers_after state_after in closing_left s b st e 0 ts ns is
    words (call_set_rights subject t r) w = unfold buffers_after state_after in rights_left s b st e 0 subject t r

-- an accepted lay out leaves the empty state
pub left_laid : (s : Shape) (pool table : List ℕ) → (layout_of s pool table).refusal ≡ 0 → Represents s (laid_out_in s pool table) (empty_state s)
unfolding laid_out_in
left_laid s pool table h =
    let a = layout_accepted s pool table h in record { fit = range_fit s a.0; pool = a.1; table = a.2; sound = empty_sound s a.0 }

-- ---- what is answered

backup_answer_lem : (s : Shape) (b : Buffers) (o : Outcome After)
    → backed_up (backup_answer b.pool b.table s o).refusal (backup_answer b.pool b.table s o).version ≡ backed_up (outcome_refusal o) (outcome_number o)
unfolding backup_answer outcome_refusal outcome_number
backup_answer_lem s b (refused n) = refl
backup_answer_lem s b (done a) = refl

-- a closing's answer
pub closing_same : (s : Shape) (b : Buffers) (st : State) → Represents s b st → (u : ℕ) (ts ns is : List ℕ) → (backup_all_as b.pool b.table u ts ns is).answer ≡ all_answer (backup_all s st u ts ns is)
unfolding backup_all_as backup_all_in
closing_same s b st e u ts ns is = rw (left_store s b st e) (go (backup_all s st u ts ns is))
  where
    go : (o : Outcome Closed) → (backup_all_answer b.pool b.table s o).answer ≡ all_answer o
    go (refused n) = unfold backup_all_answer all_answer in refl
    go (done c) = unfold backup_all_answer in refl

-- that of a change of rights
pub rights_same : (s : Shape) (b : Buffers) (st : State) → Represents s b st → (u subject t : ℕ) (r : Rights) → (set_rights_of b.pool b.table u subject t r).refusal ≡ outcome_refusal (set_rights s st u subject t r)
unfolding set_rights_of set_rights_in
rights_same s b st e u subject t r = rw (left_store s b st e) (go (set_rights s st u subject t r))
  where
    go : (o : Outcome After) → (rights_answer b.table s o).refusal ≡ outcome_refusal o
    go (refused n) = unfold rights_answer outcome_refusal in refl
    go (done a) = unfold rights_answer outcome_refusal in refl

-- what a call answers on the buffers is what it answers on the state
pub answer_same : (s : Shape) (b : Buffers) (st : State) (call : Call) → Represents s b st → answer_of b call ≡ answer_in s st call
unfolding answer_of answer_in
answer_same s b st (call_layout c) e = ap₂ (λ (pool table : List ℕ). laid_out (layout_of c pool table).refusal) e.pool e.table
answer_same s b st (call_backup era t d image) e =
    unfold backup_by in
    (ap (λ (o : Option Store). backed_up (backup_in era o b.pool b.table t d image).refusal (backup_in era o b.pool b.table t d image).version) (left_store s b st e)
    ∙ (unfold backup_in in backup_answer_lem s b (backup era s st t d image)))
answer_same s b st (call_restore t v output) e = unfold restore_of restore_in in ap (λ (o : Option Store). restored (restore_in o t v output)) (left_store s b st e)
answer_same s b st (call_retire t v) e =
    unfold retire_of in
    (ap (λ (o : Option Store). retired (retire_in o b.pool b.table t v).refusal (retire_in o b.pool b.table t v).length) (left_store s b st e)
    ∙ (unfold retire_in in go (retire s st t v)))
  where
    go : (o : Outcome After) → retired (retire_answer b.pool b.table s o).refusal (retire_answer b.pool b.table s o).length ≡ retired (outcome_refusal o) (outcome_number o)
    go (refused n) = unfold retire_answer outcome_refusal outcome_number in refl
    go (done a) = unfold retire_answer outcome_refusal outcome_number in refl
answer_same s b st (call_listing t) e = unfold listing_of in ap (λ (o : Option Store). listed (listing_in o t)) (left_store s b st e)
answer_same s b st (call_version_on t day) e = unfold version_on_of in ap (λ (o : Option Store). found_on (version_on_in o t day)) (left_store s b st e)
answer_same s b st call_tally e = unfold tally_of in ap (λ (o : Option Store). tallied (tally_in o)) (left_store s b st e)
answer_same s b st (call_bill price) e = unfold bill_of in ap (λ (o : Option Store). billed (bill_in o price)) (left_store s b st e)
answer_same s b st (call_write_stream t v output) e =
    unfold write_stream_of write_version restore_of restore_in in ap (λ (o : Option Store). streamed (write_restored (restore_in o t v longest_output) output)) (left_store s b st e)
answer_same s b st (call_offer t fs ms) e = unfold offer_of in ap (λ (o : Option Store). offered (offer_in sha1 o t fs ms)) (left_store s b st e)
answer_same s b st (call_backup_sent t n fs ms ss) e =
    unfold backup_sent_of backup_sent_by in
    (ap (λ (o : Option Store). backed_up (backup_sent_in sha1 o b.pool b.table t n fs ms ss).refusal (backup_sent_in sha1 o b.pool b.table t n fs ms ss).version) (left_store s b st e)
    ∙ (unfold backup_sent_in in backup_answer_lem s b (backup_sent sha1 s st t n fs ms ss)))
answer_same s b st (call_backup_all ts ns is) e = ap backed_up_all (closing_same s b st e 0 ts ns is)
answer_same s b st (call_set_rights subject t r) e = ap rights_set (rights_same s b st e 0 subject t r)

pub accepted_same : (s : Shape) (b : Buffers) (st : State) (call : Call) → Represents s b st → eqb (refusal_of b call) 0 ≡ is_accepted s st call
unfolding refusal_of is_accepted
accepted_same s b st call e = ap (λ (a : Answer). eqb (refusal_in a) 0) (answer_same s b st call e)
