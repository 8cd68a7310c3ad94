-- Calls whoever makes them: what they answer and leave, on the buffers and on the state that these are read as. With users they are those of history/specs/Users.antt.
use Prim.Native.Nat.{ℕ}
use mathlib.Core.Bool.{Bool}
use mathlib.Core.Option.{some}
use lib.Dec.{eqb}
use Rattle.model.specs.Measures.{Shape}
use Rattle.model.specs.State.{State}
use Rattle.model.specs.Table.{state_to_words, state_to_bytes}
use Rattle.model.specs.Calls.{layout_of, backup_by, restore_of, retire_of, listing_of, version_on_of, tally_of, backup, restore, retire, listing_in, version_on_in, tally_in, state_or, outcome_refusal, outcome_number}
use Rattle.model.specs.Rights.{set_rights, set_rights_of}
use Rattle.stream.specs.Version.{write_version, write_stream_of}
use Rattle.sha1_definition.specs.Sha1.{sha1}
use Rattle.sent.specs.Sent.{offer_in, offer_of, backup_sent, backup_sent_of}
use Rattle.bill.specs.Bill.{bill_in, bill_of}
use Rattle.closing.specs.Closing.{all_answer, closed_or, backup_all, backup_all_as}
use Rattle.history.specs.Calls.{Call, call_layout, call_backup, call_restore, call_retire, call_listing, call_version_on, call_tally, call_bill, call_write_stream, call_offer, call_backup_sent, call_backup_all, call_set_rights, Buffers, Answer, laid_out, backed_up, restored, retired, listed, found_on, tallied, billed, streamed, offered, backed_up_all, rights_set, refusal_in}

-- the buffers after a call
unfoldable pub buffers_after : Buffers → Call → Buffers
buffers_after b (call_layout c) = record { pool = (layout_of c b.pool b.table).pool; table = (layout_of c b.pool b.table).table }
buffers_after b (call_backup era t d image) = record { pool = (backup_by era b.pool b.table t d image).pool; table = (backup_by era b.pool b.table t d image).table }
buffers_after b (call_restore t v output) = b
buffers_after b (call_retire t v) = record { pool = (retire_of b.pool b.table t v).pool; table = (retire_of b.pool b.table t v).table }
buffers_after b (call_listing t) = b
buffers_after b (call_version_on t day) = b
buffers_after b call_tally = b
buffers_after b (call_bill price) = b
buffers_after b (call_write_stream t v output) = b
buffers_after b (call_offer t fs ms) = b
buffers_after b (call_backup_sent t n fs ms ss) = record { pool = (backup_sent_of b.pool b.table t n fs ms ss).pool; table = (backup_sent_of b.pool b.table t n fs ms ss).table }
buffers_after b (call_backup_all ts ns is) = record { pool = (backup_all_as b.pool b.table 0 ts ns is).pool; table = (backup_all_as b.pool b.table 0 ts ns is).table }
buffers_after b (call_set_rights subject t r) = record { pool = b.pool; table = (set_rights_of b.pool b.table 0 subject t r).table }

unfoldable pub answer_of : Buffers → Call → Answer
answer_of b (call_layout c) = laid_out (layout_of c b.pool b.table).refusal
answer_of b (call_backup era t d image) = backed_up (backup_by era b.pool b.table t d image).refusal (backup_by era b.pool b.table t d image).version
answer_of b (call_restore t v output) = restored (restore_of b.pool b.table t v output)
answer_of b (call_retire t v) = retired (retire_of b.pool b.table t v).refusal (retire_of b.pool b.table t v).length
answer_of b (call_listing t) = listed (listing_of b.pool b.table t)
answer_of b (call_version_on t day) = found_on (version_on_of b.pool b.table t day)
answer_of b call_tally = tallied (tally_of b.pool b.table)
answer_of b (call_bill price) = billed (bill_of b.pool b.table price)
answer_of b (call_write_stream t v output) = streamed (write_stream_of b.pool b.table t v output)
answer_of b (call_offer t fs ms) = offered (offer_of b.pool b.table t fs ms)
answer_of b (call_backup_sent t n fs ms ss) = backed_up (backup_sent_of b.pool b.table t n fs ms ss).refusal (backup_sent_of b.pool b.table t n fs ms ss).version
answer_of b (call_backup_all ts ns is) = backed_up_all (backup_all_as b.pool b.table 0 ts ns is).answer
answer_of b (call_set_rights subject t r) = rights_set (set_rights_of b.pool b.table 0 subject t r).refusal

unfoldable pub refusal_of : Buffers → Call → ℕ
refusal_of b call = refusal_in (answer_of b call)

unfoldable pub state_after : Shape → State → Call → State
state_after s st (call_layout c) = st
state_after s st (call_backup era t d image) = state_or st (backup era s st t d image)
state_after s st (call_restore t v output) = st
state_after s st (call_retire t v) = state_or st (retire s st t v)
state_after s st (call_listing t) = st
state_after s st (call_version_on t day) = st
state_after s st call_tally = st
state_after s st (call_bill price) = st
state_after s st (call_write_stream t v output) = st
state_after s st (call_offer t fs ms) = st
state_after s st (call_backup_sent t n fs ms ss) = state_or st (backup_sent sha1 s st t n fs ms ss)
state_after s st (call_backup_all ts ns is) = closed_or st (backup_all s st 0 ts ns is)
state_after s st (call_set_rights subject t r) = state_or st (set_rights s st 0 subject t r)

-- what each call answers on a state: there is always a sound store, so no call gets 10
unfoldable pub answer_in : Shape → State → Call → Answer
answer_in s st (call_layout c) = laid_out (layout_of c (state_to_bytes st) (state_to_words s st)).refusal
answer_in s st (call_backup era t d image) = backed_up (outcome_refusal (backup era s st t d image)) (outcome_number (backup era s st t d image))
answer_in s st (call_restore t v output) = restored (restore s st t v output)
answer_in s st (call_retire t v) = retired (outcome_refusal (retire s st t v)) (outcome_number (retire s st t v))
answer_in s st (call_listing t) = listed (listing_in (some (record { shape = s; state = st })) t)
answer_in s st (call_version_on t day) = found_on (version_on_in (some (record { shape = s; state = st })) t day)
answer_in s st call_tally = tallied (tally_in (some (record { shape = s; state = st })))
answer_in s st (call_bill price) = billed (bill_in (some (record { shape = s; state = st })) price)
answer_in s st (call_write_stream t v output) = streamed (write_version s st t v output)
answer_in s st (call_offer t fs ms) = offered (offer_in sha1 (some (record { shape = s; state = st })) t fs ms)
answer_in s st (call_backup_sent t n fs ms ss) = backed_up (outcome_refusal (backup_sent sha1 s st t n fs ms ss)) (outcome_number (backup_sent sha1 s st t n fs ms ss))
answer_in s st (call_backup_all ts ns is) = backed_up_all (all_answer (backup_all s st 0 ts ns is))
answer_in s st (call_set_rights subject t r) = rights_set (outcome_refusal (set_rights s st 0 subject t r))

unfoldable pub is_accepted : Shape → State → Call → Bool
is_accepted s st call = eqb (refusal_in (answer_in s st call)) 0
