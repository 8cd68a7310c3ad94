-- A refused call, of any buffers: it alters none of them, and every other field of its answer is 0.
use mathlib.Core.Path.{◌≡◌, refl, sym, ap, ap₂}
use mathlib.Core.Bool.{Bool, true, false, cond}
use mathlib.Core.List.{List, [], ◌∷◌}
use mathlib.Core.Option.{Option, none, some}
use Prim.Native.Nat.{ℕ}
use lib.ListN.{length}
use lib.Dec.{eqb, leb, ltb}
use Rattle.lists.proofs.Tests.{by_test}
use Rattle.model.specs.Measures.{Shape}
use Rattle.model.specs.State.{Rights, Storage, Version, Outcome, refused, done}
use Rattle.model.specs.Sound.{Store, store_of}
use Rattle.model.specs.Calls.{layout_of, BackupAnswer, RetireAnswer, TallyAnswer, backup, backup_in, backup_by, backup_answer, restore, restore_from, restore_in, restore_of, restore_refusal, RestoreAnswer, till_of, retire, retire_in, retire_of, retire_answer, VersionOnAnswer, not_after, newest_or_none, version_on_in, version_on_of, listing_in, listing_of, listing_refusal, list_till, ListingAnswer, tally_in, tally_of, After, Lookup, found, missing, look_up}
use Rattle.model.specs.Rights.{to_list, to_back_up, to_restore, to_retire, refusal_for, owner_refusal, unless, backup_refusal, backup_as, restore_as, retire_refusal, retire_as, listing_as, version_on_refusal, version_on_as, tally_refusal, tally_as, set_rights, rights_answer, set_rights_in, set_rights_of}
use Rattle.laws.proofs.Empty.{layout_refused}
use Rattle.sha1_definition.specs.Sha1.{sha1}
use Rattle.bill.specs.Bill.{BillAnswer, bill_refused, bill_in, bill_of, bill_as}
use Rattle.closing.specs.Closing.{Closed, all_refused, all_answer, backup_all, backup_all_answer, backup_all_in, backup_all_as}
use Rattle.sent.specs.Sent.{OfferAnswer, offer, offer_answer, offer_in, offer_of, offer_as, backup_sent_as, backup_sent, backup_sent_in, backup_sent_by, backup_sent_of}
use Rattle.stream.specs.Stream.{StreamAnswer, stream_refusal}
use Rattle.stream.specs.Version.{write_stream_of, write_stream_as}
use Rattle.stream_laws.proofs.Theorems.{claims}
use Rattle.history.specs.Calls.{Call, call_layout, call_backup, call_restore, call_retire, call_listing, call_version_on, call_tally, call_bill, call_write_stream, call_offer, call_backup_sent, call_backup_all, call_set_rights, Buffers, Answer, laid_out, backed_up, restored, retired, listed, found_on, tallied, billed, streamed, offered, backed_up_all, rights_set, refusal_in}
use Rattle.history.proofs.Calls.{refusal_of, buffers_after, answer_of}
use Rattle.history.specs.Users.{buffers_by, answer_by, refusal_by}

same_buffers : (b : Buffers) (pool table : List ℕ) → pool ≡ b.pool → table ≡ b.table → record { pool = pool; table = table } ≡ b
same_buffers b pool table p q = λ i. record { pool = p i; table = q i }

backup_alters : (b : Buffers) (s : Shape) (o : Outcome After) → ¬ ((backup_answer b.pool b.table s o).refusal ≡ 0)
    → record { pool = (backup_answer b.pool b.table s o).pool; table = (backup_answer b.pool b.table s o).table } ≡ b
unfolding backup_answer
backup_alters b s (refused n) h = refl
backup_alters b s (done a) h = absurd (h refl)

closing_alters : (b : Buffers) (u : ℕ) (ts ns is : List ℕ) → ¬ ((backup_all_as b.pool b.table u ts ns is).answer.refusal ≡ 0)
    → record { pool = (backup_all_as b.pool b.table u ts ns is).pool; table = (backup_all_as b.pool b.table u ts ns is).table } ≡ b
unfolding backup_all_as
closing_alters b u ts ns is h = go (store_of b.pool b.table) h
  where
    one : (s : Shape) (o : Outcome Closed) → ¬ ((backup_all_answer b.pool b.table s o).answer.refusal ≡ 0)
        → record { pool = (backup_all_answer b.pool b.table s o).pool; table = (backup_all_answer b.pool b.table s o).table } ≡ b
    one s (refused n) h = unfold backup_all_answer in refl
    one s (done c) h = absurd (h (unfold backup_all_answer all_answer in refl))

    go : (o : Option Store) → ¬ ((backup_all_in o b.pool b.table u ts ns is).answer.refusal ≡ 0)
        → record { pool = (backup_all_in o b.pool b.table u ts ns is).pool; table = (backup_all_in o b.pool b.table u ts ns is).table } ≡ b
    go none h = unfold backup_all_in in refl
    go (some x) h = unfold backup_all_in in one x.shape (backup_all x.shape x.state u ts ns is) h

rights_alters : (b : Buffers) (u subject t : ℕ) (r : Rights) → ¬ ((set_rights_of b.pool b.table u subject t r).refusal ≡ 0)
    → record { pool = b.pool; table = (set_rights_of b.pool b.table u subject t r).table } ≡ b
unfolding set_rights_of
rights_alters b u subject t r h = go (store_of b.pool b.table) h
  where
    one : (s : Shape) (o : Outcome After) → ¬ ((rights_answer b.table s o).refusal ≡ 0) → record { pool = b.pool; table = (rights_answer b.table s o).table } ≡ b
    one s (refused n) h = unfold rights_answer in refl
    one s (done a) h = absurd (h (unfold rights_answer in refl))

    go : (o : Option Store) → ¬ ((set_rights_in o b.table u subject t r).refusal ≡ 0) → record { pool = b.pool; table = (set_rights_in o b.table u subject t r).table } ≡ b
    go none h = unfold set_rights_in in refl
    go (some x) h = unfold set_rights_in in one x.shape (set_rights x.shape x.state u subject t r) h

-- no buffer is altered
pub alters_nothing : (b : Buffers) (call : Call) → ¬ (refusal_of b call ≡ 0) → buffers_after b call ≡ b
unfolding refusal_of answer_of refusal_in buffers_after
alters_nothing b (call_layout c) h =
    unfold layout_of in (let r = layout_refused _ _ _ b.pool b.table h in same_buffers b _ _ r.0 r.1)
alters_nothing b (call_backup era t d image) h = unfold backup_by in go (store_of b.pool b.table) h
  where
    go : (o : Option Store) → ¬ ((backup_in era o b.pool b.table t d image).refusal ≡ 0)
        → record { pool = (backup_in era o b.pool b.table t d image).pool; table = (backup_in era o b.pool b.table t d image).table } ≡ b
    go none h = unfold backup_in in refl
    go (some x) h = unfold backup_in in backup_alters b x.shape (backup era x.shape x.state t d image) h
alters_nothing b (call_restore t v output) h = refl
alters_nothing b (call_retire t v) h = unfold retire_of in go (store_of b.pool b.table) h
  where
    one : (s : Shape) (o : Outcome After) → ¬ ((retire_answer b.pool b.table s o).refusal ≡ 0)
        → record { pool = (retire_answer b.pool b.table s o).pool; table = (retire_answer b.pool b.table s o).table } ≡ b
    one s (refused n) h = unfold retire_answer in refl
    one s (done a) h = unfold retire_answer in absurd (h refl)

    go : (o : Option Store) → ¬ ((retire_in o b.pool b.table t v).refusal ≡ 0)
        → record { pool = (retire_in o b.pool b.table t v).pool; table = (retire_in o b.pool b.table t v).table } ≡ b
    go none h = unfold retire_in in refl
    go (some x) h = unfold retire_in in one x.shape (retire x.shape x.state t v) h
alters_nothing b (call_listing t) h = refl
alters_nothing b (call_version_on t day) h = refl
alters_nothing b call_tally h = refl
alters_nothing b (call_bill price) h = refl
alters_nothing b (call_write_stream t v output) h = refl
alters_nothing b (call_offer t fs ms) h = refl
alters_nothing b (call_backup_sent t n fs ms ss) h = unfold backup_sent_of backup_sent_by in go (store_of b.pool b.table) h
  where
    go : (o : Option Store) → ¬ ((backup_sent_in sha1 o b.pool b.table t n fs ms ss).refusal ≡ 0)
        → record { pool = (backup_sent_in sha1 o b.pool b.table t n fs ms ss).pool; table = (backup_sent_in sha1 o b.pool b.table t n fs ms ss).table } ≡ b
    go none h = unfold backup_sent_in in refl
    go (some x) h = unfold backup_sent_in in backup_alters b x.shape (backup_sent sha1 x.shape x.state t n fs ms ss) h
alters_nothing b (call_backup_all ts ns is) h = closing_alters b 0 ts ns is h
alters_nothing b (call_set_rights subject t r) h = rights_alters b 0 subject t r h

-- the answer of a refusal
unfoldable pub refused_with : ℕ → Call → Answer
refused_with n (call_layout c) = laid_out n
refused_with n (call_backup era t d image) = backed_up n 0
refused_with n (call_restore t v output) = restored (record { refusal = n; length = 0; hops = 0; output = output })
refused_with n (call_retire t v) = retired n 0
refused_with n (call_listing t) = listed (record { refusal = n; oldest = 0; newest = 0; last = 0 })
refused_with n (call_version_on t day) = found_on (record { refusal = n; version = 0 })
refused_with n call_tally = tallied (record { refusal = n; cells = 0; records = 0; counts = 0 })
refused_with n (call_bill price) = billed (bill_refused n)
refused_with n (call_write_stream t v output) = streamed (record { refusal = n; length = 0; output = output })
refused_with n (call_offer t fs ms) = offered (record { refusal = n; marks = ms })
refused_with n (call_backup_sent t bytes fs ms ss) = backed_up n 0
refused_with n (call_backup_all ts ns is) = backed_up_all (all_refused n)
refused_with n (call_set_rights subject t r) = rights_set n

abbrev ZeroRestore : List ℕ → RestoreAnswer → Type 0
ZeroRestore output r = ¬ (r.refusal ≡ 0) → r ≡ record { refusal = r.refusal; length = 0; hops = 0; output = output }

from_zero : (bytes : ℕ) (a : Storage) (output : List ℕ) (l : Lookup) → ZeroRestore output (restore_from bytes a l output)
unfolding restore_from restore_refusal
from_zero bytes a output (missing n) = λ h. refl
from_zero bytes a output (found older v newer) = by_test (ZeroRestore output) (ltb (length output) v.length) (λ e h. refl) (λ e h. absurd (h refl))

restore_zero : (t v : ℕ) (output : List ℕ) (o : Option Store) → ZeroRestore output (restore_in o t v output)
unfolding restore_in restore restore_refusal
restore_zero t v output none = λ h. refl
restore_zero t v output (some x) =
    by_test (ZeroRestore output) (leb x.shape.capacities.tills t) (λ e h. refl)
    (λ e. from_zero x.shape.measures.block_bytes x.state.storage output (look_up (till_of x.state t) v))

abbrev ZeroListing : ListingAnswer → Type 0
ZeroListing r = ¬ (r.refusal ≡ 0) → r ≡ record { refusal = r.refusal; oldest = 0; newest = 0; last = 0 }

listing_zero : (t : ℕ) (o : Option Store) → ZeroListing (listing_in o t)
unfolding listing_in listing_refusal list_till
listing_zero t none = λ h. refl
listing_zero t (some x) = by_test ZeroListing (leb x.shape.capacities.tills t) (λ e h. refl) (λ e h. absurd (h refl))

abbrev ZeroFound : VersionOnAnswer → Type 0
ZeroFound r = ¬ (r.refusal ≡ 0) → r ≡ record { refusal = r.refusal; version = 0 }

newest_zero : (vs : List Version) → ZeroFound (newest_or_none vs)
unfolding newest_or_none
newest_zero [] = λ h. refl
newest_zero (v ∷ vs) = λ h. absurd (h refl)

found_zero : (t day : ℕ) (o : Option Store) → ZeroFound (version_on_in o t day)
unfolding version_on_in
found_zero t day none = λ h. refl
found_zero t day (some x) = by_test ZeroFound (leb x.shape.capacities.tills t) (λ e h. refl) (λ e. newest_zero (not_after day (till_of x.state t).versions))

backup_zero : (b : Buffers) (s : Shape) (o : Outcome After) → ¬ ((backup_answer b.pool b.table s o).refusal ≡ 0)
    → backed_up (backup_answer b.pool b.table s o).refusal (backup_answer b.pool b.table s o).version ≡ backed_up (backup_answer b.pool b.table s o).refusal 0
unfolding backup_answer
backup_zero b s (refused n) h = refl
backup_zero b s (done a) h = absurd (h refl)

abbrev SameMarks : List ℕ → OfferAnswer → Type 0
SameMarks ms r = ¬ (r.refusal ≡ 0) → r ≡ record { refusal = r.refusal; marks = ms }

offer_zero : (t : ℕ) (fs ms : List ℕ) (o : Option Store) → SameMarks ms (offer_in sha1 o t fs ms)
unfolding offer_in
offer_zero t fs ms none = λ h. refl
offer_zero t fs ms (some x) = go (offer sha1 x.shape x.state t fs ms)
  where
    go : (o : Outcome (List ℕ)) → SameMarks ms (offer_answer ms o)
    go (refused n) = unfold offer_answer in (λ h. refl)
    go (done marks) = unfold offer_answer in (λ h. absurd (h refl))

bill_zero : (price : ℕ) (o : Option Store) → ¬ ((bill_in o price).refusal ≡ 0) → bill_in o price ≡ bill_refused (bill_in o price).refusal
unfolding bill_in bill_refused
bill_zero price none = λ h. refl
bill_zero price (some x) = by_test (λ (a : BillAnswer). ¬ (a.refusal ≡ 0) → a ≡ bill_refused a.refusal) (ltb 10000 price) (λ e h. unfold bill_refused in refl) (λ e h. absurd (h refl))

tally_zero : (o : Option Store) → ¬ ((tally_in o).refusal ≡ 0) → tally_in o ≡ record { refusal = (tally_in o).refusal; cells = 0; records = 0; counts = 0 }
unfolding tally_in
tally_zero none h = refl
tally_zero (some x) h = absurd (h refl)

stream_zero : (b : Buffers) (t v : ℕ) (output : List ℕ) → ¬ ((write_stream_of b.pool b.table t v output).refusal ≡ 0)
    → write_stream_of b.pool b.table t v output ≡ record { refusal = (write_stream_of b.pool b.table t v output).refusal; length = 0; output = output }
stream_zero b t v output h =
    let a : StreamAnswer = write_stream_of b.pool b.table t v output in
    let z = (claims.write_careful b.pool b.table t v output).refused h in
    ap₂ (λ (n : ℕ) (l : List ℕ). record { refusal = a.refusal; length = n; output = l }) z.0 z.1

closing_zero : (b : Buffers) (u : ℕ) (ts ns is : List ℕ) → ¬ ((backup_all_as b.pool b.table u ts ns is).answer.refusal ≡ 0)
    → (backup_all_as b.pool b.table u ts ns is).answer ≡ all_refused (backup_all_as b.pool b.table u ts ns is).answer.refusal
unfolding backup_all_as
closing_zero b u ts ns is h = go (store_of b.pool b.table) h
  where
    one : (s : Shape) (o : Outcome Closed) → ¬ ((backup_all_answer b.pool b.table s o).answer.refusal ≡ 0)
        → (backup_all_answer b.pool b.table s o).answer ≡ all_refused (backup_all_answer b.pool b.table s o).answer.refusal
    one s (refused n) h = unfold backup_all_answer all_refused in refl
    one s (done c) h = absurd (h (unfold backup_all_answer all_answer in refl))

    go : (o : Option Store) → ¬ ((backup_all_in o b.pool b.table u ts ns is).answer.refusal ≡ 0)
        → (backup_all_in o b.pool b.table u ts ns is).answer ≡ all_refused (backup_all_in o b.pool b.table u ts ns is).answer.refusal
    go none h = unfold backup_all_in all_refused in refl
    go (some x) h = unfold backup_all_in in one x.shape (backup_all x.shape x.state u ts ns is) h

pub answers_number_only : (b : Buffers) (call : Call) → ¬ (refusal_of b call ≡ 0) → answer_of b call ≡ refused_with (refusal_of b call) call
unfolding refusal_of answer_of refusal_in refused_with
answers_number_only b (call_layout c) h = refl
answers_number_only b (call_backup era t d image) h = unfold backup_by in go (store_of b.pool b.table) h
  where
    go : (o : Option Store) → ¬ ((backup_in era o b.pool b.table t d image).refusal ≡ 0)
        → backed_up (backup_in era o b.pool b.table t d image).refusal (backup_in era o b.pool b.table t d image).version ≡ backed_up (backup_in era o b.pool b.table t d image).refusal 0
    go none h = unfold backup_in in refl
    go (some x) h = unfold backup_in in backup_zero b x.shape (backup era x.shape x.state t d image) h
answers_number_only b (call_restore t v output) h = unfold restore_of in ap restored (restore_zero t v output (store_of b.pool b.table) h)
answers_number_only b (call_retire t v) h = unfold retire_of in go (store_of b.pool b.table) h
  where
    one : (s : Shape) (o : Outcome After) → ¬ ((retire_answer b.pool b.table s o).refusal ≡ 0)
        → retired (retire_answer b.pool b.table s o).refusal (retire_answer b.pool b.table s o).length ≡ retired (retire_answer b.pool b.table s o).refusal 0
    one s (refused n) h = unfold retire_answer in refl
    one s (done a) h = unfold retire_answer in absurd (h refl)

    go : (o : Option Store) → ¬ ((retire_in o b.pool b.table t v).refusal ≡ 0)
        → retired (retire_in o b.pool b.table t v).refusal (retire_in o b.pool b.table t v).length ≡ retired (retire_in o b.pool b.table t v).refusal 0
    go none h = unfold retire_in in refl
    go (some x) h = unfold retire_in in one x.shape (retire x.shape x.state t v) h
answers_number_only b (call_listing t) h = unfold listing_of in ap listed (listing_zero t (store_of b.pool b.table) h)
answers_number_only b (call_version_on t day) h = unfold version_on_of in ap found_on (found_zero t day (store_of b.pool b.table) h)
answers_number_only b call_tally h = unfold tally_of in ap tallied (tally_zero (store_of b.pool b.table) h)
answers_number_only b (call_bill price) h = unfold bill_of in ap billed (bill_zero price (store_of b.pool b.table) h)
answers_number_only b (call_write_stream t v output) h = ap streamed (stream_zero b t v output h)
answers_number_only b (call_offer t fs ms) h = unfold offer_of in ap offered (offer_zero t fs ms (store_of b.pool b.table) h)
answers_number_only b (call_backup_sent t n fs ms ss) h = unfold backup_sent_of backup_sent_by in go (store_of b.pool b.table) h
  where
    go : (o : Option Store) → ¬ ((backup_sent_in sha1 o b.pool b.table t n fs ms ss).refusal ≡ 0)
        → backed_up (backup_sent_in sha1 o b.pool b.table t n fs ms ss).refusal (backup_sent_in sha1 o b.pool b.table t n fs ms ss).version
        ≡ backed_up (backup_sent_in sha1 o b.pool b.table t n fs ms ss).refusal 0
    go none h = unfold backup_sent_in in refl
    go (some x) h = unfold backup_sent_in in backup_zero b x.shape (backup_sent sha1 x.shape x.state t n fs ms ss) h
answers_number_only b (call_backup_all ts ns is) h = ap backed_up_all (closing_zero b 0 ts ns is h)
answers_number_only b (call_set_rights subject t r) h = refl

-- ---- with their users

backup_unless : (b : Buffers) (n : ℕ) (a : BackupAnswer) → (¬ (a.refusal ≡ 0) → record { pool = a.pool; table = a.table } ≡ b)
    → ¬ ((unless n (backup_refusal b.pool b.table) a).refusal ≡ 0)
    → record { pool = (unless n (backup_refusal b.pool b.table) a).pool; table = (unless n (backup_refusal b.pool b.table) a).table } ≡ b
backup_unless b n a h = go (eqb n 0)
  where
    go : (q : Bool) → ¬ ((cond q a (backup_refusal b.pool b.table n)).refusal ≡ 0)
        → record { pool = (cond q a (backup_refusal b.pool b.table n)).pool; table = (cond q a (backup_refusal b.pool b.table n)).table } ≡ b
    go true e = h e
    go false e = unfold backup_refusal in refl

retire_unless : (b : Buffers) (n : ℕ) (a : RetireAnswer) → (¬ (a.refusal ≡ 0) → record { pool = a.pool; table = a.table } ≡ b)
    → ¬ ((unless n (retire_refusal b.pool b.table) a).refusal ≡ 0)
    → record { pool = (unless n (retire_refusal b.pool b.table) a).pool; table = (unless n (retire_refusal b.pool b.table) a).table } ≡ b
retire_unless b n a h = go (eqb n 0)
  where
    go : (q : Bool) → ¬ ((cond q a (retire_refusal b.pool b.table n)).refusal ≡ 0)
        → record { pool = (cond q a (retire_refusal b.pool b.table n)).pool; table = (cond q a (retire_refusal b.pool b.table n)).table } ≡ b
    go true e = h e
    go false e = unfold retire_refusal in refl

pub alters_nothing_by : (b : Buffers) (u : ℕ) (call : Call) → ¬ (refusal_by b u call ≡ 0) → buffers_by b u call ≡ b
unfolding refusal_by answer_by refusal_in buffers_by
alters_nothing_by b u (call_layout c) h = unfold refusal_of answer_of refusal_in buffers_after in alters_nothing b (call_layout c) h
alters_nothing_by b u (call_backup era t d image) h =
    unfold backup_as refusal_of answer_of refusal_in buffers_after in
    backup_unless b (refusal_for (store_of b.pool b.table) u t to_back_up) (backup_by era b.pool b.table t d image) (alters_nothing b (call_backup era t d image)) h
alters_nothing_by b u (call_restore t v output) h = refl
alters_nothing_by b u (call_retire t v) h =
    unfold retire_as refusal_of answer_of refusal_in buffers_after in
    retire_unless b (refusal_for (store_of b.pool b.table) u t to_retire) (retire_of b.pool b.table t v) (alters_nothing b (call_retire t v)) h
alters_nothing_by b u (call_listing t) h = refl
alters_nothing_by b u (call_version_on t day) h = refl
alters_nothing_by b u call_tally h = refl
alters_nothing_by b u (call_bill price) h = refl
alters_nothing_by b u (call_write_stream t v output) h = refl
alters_nothing_by b u (call_offer t fs ms) h = refl
alters_nothing_by b u (call_backup_sent t n fs ms ss) h =
    unfold backup_sent_as refusal_of answer_of refusal_in buffers_after in
    backup_unless b (refusal_for (store_of b.pool b.table) u t to_back_up) (backup_sent_of b.pool b.table t n fs ms ss) (alters_nothing b (call_backup_sent t n fs ms ss)) h
alters_nothing_by b u (call_backup_all ts ns is) h = closing_alters b u ts ns is h
alters_nothing_by b u (call_set_rights subject t r) h = rights_alters b u subject t r h

-- an answer that waits for a right, where all other fields of a refusal are fixed
number_unless : {A : Type 0} (f : A → ℕ) (refuse : ℕ → A) → ((n : ℕ) → f (refuse n) ≡ n) → (n : ℕ) (a : A) → (¬ (f a ≡ 0) → a ≡ refuse (f a))
    → ¬ (f (unless n refuse a) ≡ 0) → unless n refuse a ≡ refuse (f (unless n refuse a))
number_unless f refuse g n a h = go (eqb n 0)
  where
    go : (q : Bool) → ¬ (f (cond q a (refuse n)) ≡ 0) → cond q a (refuse n) ≡ refuse (f (cond q a (refuse n)))
    go true e = h e
    go false e = ap refuse (sym (g n))

backed_unless : (b : Buffers) (n : ℕ) (a : BackupAnswer) → (¬ (a.refusal ≡ 0) → backed_up a.refusal a.version ≡ backed_up a.refusal 0)
    → ¬ ((unless n (backup_refusal b.pool b.table) a).refusal ≡ 0)
    → backed_up (unless n (backup_refusal b.pool b.table) a).refusal (unless n (backup_refusal b.pool b.table) a).version ≡ backed_up (unless n (backup_refusal b.pool b.table) a).refusal 0
backed_unless b n a h = go (eqb n 0)
  where
    go : (q : Bool) → ¬ ((cond q a (backup_refusal b.pool b.table n)).refusal ≡ 0)
        → backed_up (cond q a (backup_refusal b.pool b.table n)).refusal (cond q a (backup_refusal b.pool b.table n)).version ≡ backed_up (cond q a (backup_refusal b.pool b.table n)).refusal 0
    go true e = h e
    go false e = unfold backup_refusal in refl

retired_unless : (b : Buffers) (n : ℕ) (a : RetireAnswer) → (¬ (a.refusal ≡ 0) → retired a.refusal a.length ≡ retired a.refusal 0)
    → ¬ ((unless n (retire_refusal b.pool b.table) a).refusal ≡ 0)
    → retired (unless n (retire_refusal b.pool b.table) a).refusal (unless n (retire_refusal b.pool b.table) a).length ≡ retired (unless n (retire_refusal b.pool b.table) a).refusal 0
retired_unless b n a h = go (eqb n 0)
  where
    go : (q : Bool) → ¬ ((cond q a (retire_refusal b.pool b.table n)).refusal ≡ 0)
        → retired (cond q a (retire_refusal b.pool b.table n)).refusal (cond q a (retire_refusal b.pool b.table n)).length ≡ retired (cond q a (retire_refusal b.pool b.table n)).refusal 0
    go true e = h e
    go false e = unfold retire_refusal in refl

pub answers_number_only_by : (b : Buffers) (u : ℕ) (call : Call) → ¬ (refusal_by b u call ≡ 0) → answer_by b u call ≡ refused_with (refusal_by b u call) call
unfolding refusal_by answer_by refusal_in refused_with restore_refusal listing_refusal version_on_refusal tally_refusal stream_refusal
answers_number_only_by b u (call_layout c) h = refl
answers_number_only_by b u (call_backup era t d image) h =
    unfold backup_as in
    backed_unless b (refusal_for (store_of b.pool b.table) u t to_back_up) (backup_by era b.pool b.table t d image) (unfold refusal_of answer_of refusal_in refused_with in answers_number_only b (call_backup era t d image)) h
answers_number_only_by b u (call_restore t v output) h =
    unfold restore_as in
    ap restored (number_unless (λ (a : RestoreAnswer). a.refusal) (λ n. restore_refusal n output) (λ n. unfold restore_refusal in refl) (refusal_for (store_of b.pool b.table) u t to_restore) (restore_of b.pool b.table t v output) (unfold restore_of restore_refusal in restore_zero t v output (store_of b.pool b.table)) h)
answers_number_only_by b u (call_retire t v) h =
    unfold retire_as in
    retired_unless b (refusal_for (store_of b.pool b.table) u t to_retire) (retire_of b.pool b.table t v) (unfold refusal_of answer_of refusal_in refused_with in answers_number_only b (call_retire t v)) h
answers_number_only_by b u (call_listing t) h =
    unfold listing_as in
    ap listed (number_unless (λ (a : ListingAnswer). a.refusal) listing_refusal (λ n. unfold listing_refusal in refl) (refusal_for (store_of b.pool b.table) u t to_list) (listing_of b.pool b.table t) (unfold listing_of listing_refusal in listing_zero t (store_of b.pool b.table)) h)
answers_number_only_by b u (call_version_on t day) h =
    unfold version_on_as in
    ap found_on (number_unless (λ (a : VersionOnAnswer). a.refusal) version_on_refusal (λ n. unfold version_on_refusal in refl) (refusal_for (store_of b.pool b.table) u t to_list) (version_on_of b.pool b.table t day) (unfold version_on_of version_on_refusal in found_zero t day (store_of b.pool b.table)) h)
answers_number_only_by b u call_tally h =
    unfold tally_as in
    ap tallied (number_unless (λ (a : TallyAnswer). a.refusal) tally_refusal (λ n. unfold tally_refusal in refl) (owner_refusal (store_of b.pool b.table) u) (tally_of b.pool b.table) (unfold tally_of tally_refusal in tally_zero (store_of b.pool b.table)) h)
answers_number_only_by b u (call_bill price) h =
    unfold bill_as in
    ap billed (number_unless (λ (a : BillAnswer). a.refusal) bill_refused (λ n. unfold bill_refused in refl) (owner_refusal (store_of b.pool b.table) u) (bill_of b.pool b.table price) (unfold bill_of bill_refused in bill_zero price (store_of b.pool b.table)) h)
answers_number_only_by b u (call_write_stream t v output) h =
    unfold write_stream_as in
    ap streamed (number_unless (λ (a : StreamAnswer). a.refusal) (λ n. stream_refusal n output) (λ n. unfold stream_refusal in refl) (refusal_for (store_of b.pool b.table) u t to_restore) (write_stream_of b.pool b.table t v output) (unfold stream_refusal in stream_zero b t v output) h)
answers_number_only_by b u (call_offer t fs ms) h =
    unfold offer_as in
    ap offered (number_unless (λ (a : OfferAnswer). a.refusal) (λ n. record { refusal = n; marks = ms }) (λ n. refl) (refusal_for (store_of b.pool b.table) u t to_back_up) (offer_of b.pool b.table t fs ms) (unfold offer_of in offer_zero t fs ms (store_of b.pool b.table)) h)
answers_number_only_by b u (call_backup_sent t n fs ms ss) h =
    unfold backup_sent_as in
    backed_unless b (refusal_for (store_of b.pool b.table) u t to_back_up) (backup_sent_of b.pool b.table t n fs ms ss) (unfold refusal_of answer_of refusal_in refused_with in answers_number_only b (call_backup_sent t n fs ms ss)) h
answers_number_only_by b u (call_backup_all ts ns is) h = ap backed_up_all (closing_zero b u ts ns is h)
answers_number_only_by b u (call_set_rights subject t r) h = refl
