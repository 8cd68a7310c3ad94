-- "Every call on the store but lay out … names its user" (§9): what each answers and leaves with its user, and lists of them.
use Rattle.std.specs.Prelude.{ℕ, List, [], ◌∷◌}
use Rattle.std.proofs.Math.Option.{Option, none, some}
use Rattle.model.specs.Measures.{Shape}
use Rattle.model.specs.State.{State, Outcome, refused}
use Rattle.model.specs.Table.{state_to_words, state_to_bytes}
use Rattle.model.specs.Calls.{layout_of, backup, restore, restore_refusal, retire, listing_in, listing_refusal, version_on_in, tally_in, state_or, outcome_refusal, outcome_number, After}
use Rattle.model.specs.Rights.{Right, to_list, to_back_up, to_restore, to_retire, refusal_at, not_owner, unless, backup_as, restore_as, retire_as, listing_as, version_on_refusal, version_on_as, tally_refusal, tally_as, set_rights, set_rights_of}
use Rattle.stream.specs.Stream.{stream_refusal}
use Rattle.stream.specs.Version.{write_version, write_stream_as}
use Rattle.sha1_definition.specs.Sha1.{sha1}
use Rattle.sent.specs.Sent.{offer_in, offer_as, backup_sent, backup_sent_as}
use Rattle.bill.specs.Bill.{bill_refused, bill_in, bill_as}
use Rattle.closing.specs.Closing.{all_answer, closed_or, backup_all, backup_all_as}
use Rattle.history.specs.Calls.{Call, call_layout, call_backup, call_restore, call_retire, call_listing, call_version_on, call_tally, call_bill, call_write_stream, call_offer, call_backup_sent, call_backup_all, call_set_rights, Buffers, Answer, laid_out, backed_up, restored, retired, listed, found_on, tallied, billed, streamed, offered, backed_up_all, rights_set, refusal_in, refused_layout}

-- a call and its user, who is of no account to a lay out
pub record UserCall : Type 0 where
  pub user : ℕ
  pub call : Call

-- the right that a call needs on its till; none is needed where no till is named, for the images of a closing one by one, and by the owner's calls
unfoldable pub right_for : Call → Option Right
right_for (call_layout c) = none
right_for (call_backup era t d image) = some to_back_up
right_for (call_restore t v output) = some to_restore
right_for (call_retire t v) = some to_retire
right_for (call_listing t) = some to_list
right_for (call_version_on t day) = some to_list
right_for call_tally = none
right_for (call_bill price) = none
right_for (call_write_stream t v output) = some to_restore
right_for (call_offer t fs ms) = some to_back_up
right_for (call_backup_sent t n fs ms ss) = some to_back_up
right_for (call_backup_all ts ns is) = none
right_for (call_set_rights subject t r) = none

-- ---- on the buffers

-- the buffers after a user's call
unfoldable pub buffers_by : Buffers → ℕ → Call → Buffers
buffers_by b u (call_layout c) = record { pool = (layout_of c b.pool b.table).pool; table = (layout_of c b.pool b.table).table }
buffers_by b u (call_backup era t d image) = record { pool = (backup_as era b.pool b.table u t d image).pool; table = (backup_as era b.pool b.table u t d image).table }
buffers_by b u (call_restore t v output) = b
buffers_by b u (call_retire t v) = record { pool = (retire_as b.pool b.table u t v).pool; table = (retire_as b.pool b.table u t v).table }
buffers_by b u (call_listing t) = b
buffers_by b u (call_version_on t day) = b
buffers_by b u call_tally = b
buffers_by b u (call_bill price) = b
buffers_by b u (call_write_stream t v output) = b
buffers_by b u (call_offer t fs ms) = b
buffers_by b u (call_backup_sent t n fs ms ss) = record { pool = (backup_sent_as b.pool b.table u t n fs ms ss).pool; table = (backup_sent_as b.pool b.table u t n fs ms ss).table }
buffers_by b u (call_backup_all ts ns is) = record { pool = (backup_all_as b.pool b.table u ts ns is).pool; table = (backup_all_as b.pool b.table u ts ns is).table }
buffers_by b u (call_set_rights subject t r) = record { pool = b.pool; table = (set_rights_of b.pool b.table u subject t r).table }

-- what it answers
unfoldable pub answer_by : Buffers → ℕ → Call → Answer
answer_by b u (call_layout c) = laid_out (layout_of c b.pool b.table).refusal
answer_by b u (call_backup era t d image) = backed_up (backup_as era b.pool b.table u t d image).refusal (backup_as era b.pool b.table u t d image).version
answer_by b u (call_restore t v output) = restored (restore_as b.pool b.table u t v output)
answer_by b u (call_retire t v) = retired (retire_as b.pool b.table u t v).refusal (retire_as b.pool b.table u t v).length
answer_by b u (call_listing t) = listed (listing_as b.pool b.table u t)
answer_by b u (call_version_on t day) = found_on (version_on_as b.pool b.table u t day)
answer_by b u call_tally = tallied (tally_as b.pool b.table u)
answer_by b u (call_bill price) = billed (bill_as b.pool b.table u price)
answer_by b u (call_write_stream t v output) = streamed (write_stream_as b.pool b.table u t v output)
answer_by b u (call_offer t fs ms) = offered (offer_as b.pool b.table u t fs ms)
answer_by b u (call_backup_sent t n fs ms ss) = backed_up (backup_sent_as b.pool b.table u t n fs ms ss).refusal (backup_sent_as b.pool b.table u t n fs ms ss).version
answer_by b u (call_backup_all ts ns is) = backed_up_all (backup_all_as b.pool b.table u ts ns is).answer
answer_by b u (call_set_rights subject t r) = rights_set (set_rights_of b.pool b.table u subject t r).refusal

-- the number of its refusal, or 0
unfoldable pub refusal_by : Buffers → ℕ → Call → ℕ
refusal_by b u call = refusal_in (answer_by b u call)

-- ---- on the state

-- the outcome of a call on till `t` that needs a right
abbrev pub for_user : Shape → State → ℕ → ℕ → Right → Outcome After → Outcome After
for_user s st u t right o = unless (refusal_at s st u t right) refused o

unfoldable pub state_by : Shape → State → ℕ → Call → State
state_by s st u (call_layout c) = st
state_by s st u (call_backup era t d image) = state_or st (for_user s st u t to_back_up (backup era s st t d image))
state_by s st u (call_restore t v output) = st
state_by s st u (call_retire t v) = state_or st (for_user s st u t to_retire (retire s st t v))
state_by s st u (call_listing t) = st
state_by s st u (call_version_on t day) = st
state_by s st u call_tally = st
state_by s st u (call_bill price) = st
state_by s st u (call_write_stream t v output) = st
state_by s st u (call_offer t fs ms) = st
state_by s st u (call_backup_sent t n fs ms ss) = state_or st (for_user s st u t to_back_up (backup_sent sha1 s st t n fs ms ss))
state_by s st u (call_backup_all ts ns is) = closed_or st (backup_all s st u ts ns is)
state_by s st u (call_set_rights subject t r) = state_or st (set_rights s st u subject t r)

-- there is always a sound store, so no call gets 10
unfoldable pub answer_in_by : Shape → State → ℕ → Call → Answer
answer_in_by s st u (call_layout c) = laid_out (layout_of c (state_to_bytes st) (state_to_words s st)).refusal
answer_in_by s st u (call_backup era t d image) =
    let o : Outcome After = for_user s st u t to_back_up (backup era s st t d image) in backed_up (outcome_refusal o) (outcome_number o)
answer_in_by s st u (call_restore t v output) = restored (unless (refusal_at s st u t to_restore) (λ n. restore_refusal n output) (restore s st t v output))
answer_in_by s st u (call_retire t v) = let o : Outcome After = for_user s st u t to_retire (retire s st t v) in retired (outcome_refusal o) (outcome_number o)
answer_in_by s st u (call_listing t) = listed (unless (refusal_at s st u t to_list) listing_refusal (listing_in (some (record { shape = s; state = st })) t))
answer_in_by s st u (call_version_on t day) = found_on (unless (refusal_at s st u t to_list) version_on_refusal (version_on_in (some (record { shape = s; state = st })) t day))
answer_in_by s st u call_tally = tallied (unless (not_owner u) tally_refusal (tally_in (some (record { shape = s; state = st }))))
answer_in_by s st u (call_bill price) = billed (unless (not_owner u) bill_refused (bill_in (some (record { shape = s; state = st })) price))
answer_in_by s st u (call_write_stream t v output) = streamed (unless (refusal_at s st u t to_restore) (λ n. stream_refusal n output) (write_version s st t v output))
answer_in_by s st u (call_offer t fs ms) =
    offered (unless (refusal_at s st u t to_back_up) (λ n. record { refusal = n; marks = ms }) (offer_in sha1 (some (record { shape = s; state = st })) t fs ms))
answer_in_by s st u (call_backup_sent t n fs ms ss) =
    let o : Outcome After = for_user s st u t to_back_up (backup_sent sha1 s st t n fs ms ss) in backed_up (outcome_refusal o) (outcome_number o)
answer_in_by s st u (call_backup_all ts ns is) = backed_up_all (all_answer (backup_all s st u ts ns is))
answer_in_by s st u (call_set_rights subject t r) = rights_set (outcome_refusal (set_rights s st u subject t r))

-- ---- "a list of calls", each with the buffers as the last one left them

unfoldable pub buffers_after_all : Buffers → List UserCall → Buffers
buffers_after_all b [] = b
buffers_after_all b (c ∷ cs) = buffers_after_all (buffers_by b c.user c.call) cs

unfoldable pub answers_of : Buffers → List UserCall → List Answer
answers_of b [] = []
answers_of b (c ∷ cs) = answer_by b c.user c.call ∷ answers_of (buffers_by b c.user c.call) cs

-- every lay out of the list is refused when it is made
abbrev pub refused_layouts : Buffers → List UserCall → Type 0
refused_layouts b [] = Unit {0}
refused_layouts b (c ∷ cs) = refused_layout b c.call × refused_layouts (buffers_by b c.user c.call) cs

-- call by call from a state, with no buffer in between
unfoldable pub state_after_all : Shape → State → List UserCall → State
state_after_all s st [] = st
state_after_all s st (c ∷ cs) = state_after_all s (state_by s st c.user c.call) cs

unfoldable pub answers_in : Shape → State → List UserCall → List Answer
answers_in s st [] = []
answers_in s st (c ∷ cs) = answer_in_by s st c.user c.call ∷ answers_in s (state_by s st c.user c.call) cs
