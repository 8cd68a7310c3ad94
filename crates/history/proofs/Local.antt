-- What a call on a till answers follows from what that till shows, 14 and 16 apart.
use mathlib.Core.Path.{◌≡◌, refl, sym, ap, ap₂, ◌∙◌, subst}
use mathlib.Core.Logic.{◌⊎◌, inl, inr}
use mathlib.Core.Bool.{Bool, true, false, cond, ◌||◌, false≢true}
use mathlib.Core.List.{List, [], ◌∷◌, ◌++◌}
use mathlib.Core.Option.{Option, none, some}
use Prim.Native.Nat.{ℕ, suc, ◌*◌}
use lib.ListN.{length, drop}
use lib.Dec.{eqb, leb, ltb}
use Rattle.lists.specs.Lists.{every, first_from}
use Rattle.lists.proofs.Tests.{by_test}
use Rattle.model.specs.Measures.{Shape}
use Rattle.model.specs.State.{Block, Storage, Version, Rights, Till, State, Outcome, refused, done}
use Rattle.model.specs.Image.{Era, is_bare, image_blocks, image_segments}
use Rattle.model.specs.Records.{is_free, equals}
use Rattle.model.specs.Runs.{Run, find_run}
use Rattle.model.specs.Place.{Placed, stored_blocks, write_run, write_record, share_or_write, place_segment, after_some, place_next, place_all}
use Rattle.model.specs.Trace.{image_of}
use Rattle.model.specs.Calls.{till_of, held_from, restore_from, restore_refusal, restore, held_before, retire_from, retire, newest_day, day_for, VersionOnAnswer, not_after, version_on_in, file_in, place_and_file, backup, list_till, listing_refusal, listing_in, RestoreAnswer, After, first_of, not_held, look_up, outcome_refusal, outcome_number}
use Rattle.model.specs.Rights.{set_rights}
use Rattle.stream.specs.Version.{longest_output, write_restored, write_version}
use Rattle.history.specs.Calls.{Call, call_layout, call_backup, call_restore, call_retire, call_listing, call_version_on, call_tally, call_bill, call_write_stream, call_offer, call_backup_sent, call_backup_all, call_set_rights, Answer, backed_up, restored, retired, listed, found_on, streamed, rights_set, till_named}
use Rattle.history.proofs.Calls.{answer_in}
use Rattle.history.proofs.View.{VersionView, view_versions, view_of, view_at, is_on_till, shown_from, shown_not_after, restore_shown, retire_shown, answer_shown}
use Rattle.history.proofs.Users.{set_refusal_lem}
use Rattle.history.proofs.Shown.{views_length, newest_day_is, day_is, newest_or_none_lem, oldest_is, newest_is, from_same, chain_is}

-- ---- step 1 refuses with 14 or 16

abbrev NoRoom : {A : Type 0} → Outcome A → Type 0
NoRoom (refused n) = (n ≡ 14) ⊎ (n ≡ 16)
NoRoom (done a) = Unit {0}

run_room : (era : Era) (a : Storage) (seg : List Block) (k : ℕ) (o : Option Run) → NoRoom (write_run era a seg k o)
unfolding write_run
run_room era a seg k none = inr refl
run_room era a seg k (some run) = tt

record_room : (era : Era) (a : Storage) (seg : List Block) (o : Option ℕ) → NoRoom (write_record era a seg o)
unfolding write_record
record_room era a seg none = inl refl
record_room era a seg (some k) = run_room era a seg k (find_run a (length (stored_blocks era seg)))

either_room : (era : Era) (a : Storage) (seg : List Block) (o : Option ℕ) → NoRoom (share_or_write era a seg o)
unfolding share_or_write
either_room era a seg none = record_room era a seg (first_from is_free 0 a.records)
either_room era a seg (some k) = tt

segment_room : (era : Era) (a : Storage) (seg : List Block) → NoRoom (place_segment era a seg)
unfolding place_segment
segment_room era a seg = by_test NoRoom (every (is_bare era) seg) (λ e. tt) (λ e. either_room era a seg (first_from (equals era a seg) 0 a.records))

next_room : (era : Era) (o : Outcome Placed) (seg : List Block) → NoRoom o → NoRoom (place_next era o seg)
unfolding place_next after_some
next_room era (refused n) seg h = h
next_room era (done p) seg h = go (place_segment era p.storage seg) (segment_room era p.storage seg)
  where
    go : (o : Outcome Placed) → NoRoom o → NoRoom (after_some p.pointers o)
    go (refused n) h = h
    go (done q) h = tt

all_room : (era : Era) (o : Outcome Placed) (segs : List (List Block)) → NoRoom o → NoRoom (place_all era o segs)
unfolding place_all
all_room era o [] h = h
all_room era o (seg ∷ segs) h = all_room era (place_next era o seg) segs (next_room era o seg h)

-- ---- each call

-- the answer of a backup, other than 14 and 16
abbrev pub NotFull : Answer → Type 0
NotFull a = (a ≡ backed_up 14 0 → ⊥) × (a ≡ backed_up 16 0 → ⊥)

-- what a backup answers by its outcome
abbrev pub outcome_answer : Outcome After → Answer
outcome_answer o = backed_up (outcome_refusal o) (outcome_number o)

file_answer : (era : Era) (s : Shape) (st : State) (t day : ℕ) (image : List ℕ) (blocks : List Block) (till : Till) (o : Outcome Placed) → NoRoom o
    → NotFull (outcome_answer (file_in era s st t day image blocks till o)) → outcome_answer (file_in era s st t day image blocks till o) ≡ backed_up 0 (suc till.last)
unfolding file_in outcome_refusal outcome_number
file_answer era s st t day image blocks till (refused n) (inl e) r = absurd (r.0 (ap (λ (k : ℕ). backed_up k 0) e))
file_answer era s st t day image blocks till (refused n) (inr e) r = absurd (r.1 (ap (λ (k : ℕ). backed_up k 0) e))
file_answer era s st t day image blocks till (done p) h r = refl

-- a backup's refusals in their order, and what it answers or comes to where there is none
abbrev shown_if : Bool → Bool → Bool → Bool → Bool → Answer → Answer
shown_if gone size full top early a = cond gone (backed_up 3 0) (cond size (backed_up 4 0) (cond full (backed_up 11 0) (cond top (backed_up 12 0) (cond early (backed_up 28 0) a))))

abbrev outcome_if : Bool → Bool → Bool → Bool → Bool → Outcome After → Outcome After
outcome_if gone size full top early o = cond gone (refused 3) (cond size (refused 4) (cond full (refused 11) (cond top (refused 12) (cond early (refused 28) o))))

abbrev Is : Answer → Outcome After → Type 0
Is a o = NotFull (outcome_answer o) → outcome_answer o ≡ a

in_order : (gone size full top early : Bool) (a : Answer) (o : Outcome After) → Is a o → Is (shown_if gone size full top early a) (outcome_if gone size full top early o)
in_order gone size full top early a o h = step gone 3 _ _ (step size 4 _ _ (step full 11 _ _ (step top 12 _ _ (step early 28 _ _ h))))
  where
    step : (b : Bool) (n : ℕ) (o : Outcome After) (a : Answer) → Is a o → Is (cond b (backed_up n 0) a) (cond b (refused n) o)
    step true n o a h r = unfold outcome_refusal outcome_number in refl
    step false n o a h r = h r

backup_shown : (era : Era) (s : Shape) (st : State) (t : ℕ) (d : Option ℕ) (image : List ℕ) → NotFull (outcome_answer (backup era s st t d image))
    → outcome_answer (backup era s st t d image) ≡ answer_shown s (view_at s.measures.block_bytes st t) (call_backup era t d image)
unfolding answer_shown backup view_of
backup_shown era s st t d image =
    subst
    (λ (e : Bool). Is (shown_if gone size (leb s.capacities.versions (length (view_versions s.measures.block_bytes st.storage (till_of st t).versions))) top e given)
    (outcome_if gone size full top early (place_and_file era s st t day image (till_of st t))))
    (ap₂ ltb (day_is s.measures.block_bytes st.storage d (till_of st t).versions) (newest_day_is s.measures.block_bytes st.storage (till_of st t).versions))
    (subst (λ (n : ℕ). Is (shown_if gone size (leb s.capacities.versions n) top early given) (outcome_if gone size full top early (place_and_file era s st t day image (till_of st t))))
    (sym (views_length s.measures.block_bytes st.storage (till_of st t).versions))
    (in_order gone size full top early given (place_and_file era s st t day image (till_of st t)) filed))
  where
    day : ℕ
    day = day_for d (till_of st t).versions

    gone : Bool
    gone = leb s.capacities.tills t

    size : Bool
    size = eqb (length image) 0 || ltb (s.measures.block_bytes * s.capacities.blocks) (length image)

    full : Bool
    full = leb s.capacities.versions (length (till_of st t).versions)

    top : Bool
    top = eqb (till_of st t).last 65535

    early : Bool
    early = ltb day (newest_day (till_of st t).versions)

    given : Answer
    given = backed_up 0 (suc (till_of st t).last)

    filed : Is given (place_and_file era s st t day image (till_of st t))
    filed =
        unfold place_and_file in
        file_answer era s st t day image (image_blocks s.measures.block_bytes image) (till_of st t)
        (place_all era (done (record { storage = st.storage; pointers = [] })) (image_segments s.measures.block_bytes s.measures.segment_blocks image))
        (all_room era (done (record { storage = st.storage; pointers = [] })) (image_segments s.measures.block_bytes s.measures.segment_blocks image) tt)

-- a restore, from what the till shows
restore_view : (s : Shape) (st : State) (t v : ℕ) (output : List ℕ)
    → restore s st t v output
    ≡ cond (leb s.capacities.tills t) (restore_refusal 3 output) (restore_shown (not_held (view_at s.measures.block_bytes st t).last v) (shown_from v (view_at s.measures.block_bytes st t).versions) output)
unfolding restore look_up view_of
restore_view s st t v output =
    ap (λ (r : RestoreAnswer). cond (leb s.capacities.tills t) (restore_refusal 3 output) r)
    (first (held_from v (till_of st t).versions) ∙ ap (λ (l : List VersionView). restore_shown (not_held (till_of st t).last v) l output) (sym (from_same s.measures.block_bytes st.storage v (till_of st t).versions)))
  where
    first : (vs : List Version)
        → restore_from s.measures.block_bytes st.storage (first_of (not_held (till_of st t).last v) (held_before v (till_of st t).versions) vs) output
        ≡ restore_shown (not_held (till_of st t).last v) (view_versions s.measures.block_bytes st.storage vs) output
    first [] = unfold restore_from first_of restore_shown view_versions in refl
    first (w ∷ ws) =
        unfold restore_from first_of restore_shown view_versions in
        ap (λ (c : ℕ). cond (ltb (length output) w.length) (restore_refusal 5 output)
        (record { refusal = 0; length = w.length; hops = c; output = image_of s.measures.block_bytes st.storage (w ∷ ws) ++ drop w.length output }))
        (unfold view_versions in chain_is s.measures.block_bytes st.storage (w ∷ ws))

restore_shown_lem : (s : Shape) (st : State) (t v : ℕ) (output : List ℕ)
    → restored (restore s st t v output) ≡ answer_shown s (view_at s.measures.block_bytes st t) (call_restore t v output)
unfolding answer_shown
restore_shown_lem s st t v output = ap restored (restore_view s st t v output)

stream_shown : (s : Shape) (st : State) (t v : ℕ) (output : List ℕ)
    → streamed (write_version s st t v output) ≡ answer_shown s (view_at s.measures.block_bytes st t) (call_write_stream t v output)
unfolding write_version answer_shown
stream_shown s st t v output = ap (λ (r : RestoreAnswer). streamed (write_restored r output)) (restore_view s st t v longest_output)

abbrev retired_from : Outcome After → Answer
retired_from o = retired (outcome_refusal o) (outcome_number o)

retire_shown_lem : (s : Shape) (st : State) (t v : ℕ) → retired_from (retire s st t v) ≡ answer_shown s (view_at s.measures.block_bytes st t) (call_retire t v)
unfolding retire look_up answer_shown view_of
retire_shown_lem s st t v = either (leb s.capacities.tills t)
  where
    one : (n : ℕ) (older hs : List Version) → retired_from (retire_from s st t (till_of st t) (first_of n older hs)) ≡ retire_shown n (view_versions s.measures.block_bytes st.storage hs)
    one n older [] = unfold retire_from first_of retire_shown view_versions outcome_refusal outcome_number in refl
    one n older (w ∷ ws) = unfold retire_from first_of retire_shown view_versions outcome_refusal outcome_number in refl

    either : (b : Bool)
        → retired_from (cond b (refused 3) (retire_from s st t (till_of st t) (first_of (not_held (till_of st t).last v) (held_before v (till_of st t).versions) (held_from v (till_of st t).versions))))
        ≡ cond b (retired 3 0) (retire_shown (not_held (till_of st t).last v) (shown_from v (view_versions s.measures.block_bytes st.storage (till_of st t).versions)))
    either true = unfold outcome_refusal outcome_number in refl
    either false =
        one (not_held (till_of st t).last v) (held_before v (till_of st t).versions) (held_from v (till_of st t).versions)
        ∙ ap (retire_shown (not_held (till_of st t).last v)) (sym (from_same s.measures.block_bytes st.storage v (till_of st t).versions))

listing_shown : (s : Shape) (st : State) (t : ℕ)
    → listed (listing_in (some (record { shape = s; state = st })) t) ≡ answer_shown s (view_at s.measures.block_bytes st t) (call_listing t)
unfolding listing_in list_till answer_shown view_of
listing_shown s st t =
    ap₂ (λ (o n : ℕ). listed (cond (leb s.capacities.tills t) (listing_refusal 3) (record { refusal = 0; oldest = o; newest = n; last = (till_of st t).last })))
    (oldest_is s.measures.block_bytes st.storage (till_of st t).versions) (newest_is s.measures.block_bytes st.storage (till_of st t).versions)

found_shown : (s : Shape) (st : State) (t day : ℕ)
    → found_on (version_on_in (some (record { shape = s; state = st })) t day) ≡ answer_shown s (view_at s.measures.block_bytes st t) (call_version_on t day)
unfolding version_on_in not_after answer_shown shown_not_after view_of
found_shown s st t day =
    ap (λ (a : VersionOnAnswer). found_on (cond (leb s.capacities.tills t) (record { refusal = 3; version = 0 }) a))
    (newest_or_none_lem s.measures.block_bytes st.storage day (till_of st t).versions)

rights_shown : (s : Shape) (st : State) (subject t : ℕ) (r : Rights)
    → rights_set (outcome_refusal (set_rights s st 0 subject t r)) ≡ answer_shown s (view_at s.measures.block_bytes st t) (call_set_rights subject t r)
unfolding answer_shown
rights_shown s st subject t r = ap rights_set (set_refusal_lem s st 0 subject t r)

-- a backup is not answered 14 or 16; of any other call nothing is asked
abbrev pub HasRoom : Call → Answer → Type 0
HasRoom (call_layout c) a = Unit {0}
HasRoom (call_backup era t d image) a = NotFull a
HasRoom (call_restore t v output) a = Unit {0}
HasRoom (call_retire t v) a = Unit {0}
HasRoom (call_listing t) a = Unit {0}
HasRoom (call_version_on t day) a = Unit {0}
HasRoom call_tally a = Unit {0}
HasRoom (call_bill price) a = Unit {0}
HasRoom (call_write_stream t v output) a = Unit {0}
HasRoom (call_offer t fs ms) a = Unit {0}
HasRoom (call_backup_sent t n fs ms ss) a = Unit {0}
HasRoom (call_backup_all ts ns is) a = Unit {0}
HasRoom (call_set_rights subject t r) a = Unit {0}

-- The law: a call on a till answers what the till's view says.
pub answer_in_lem : (s : Shape) (st : State) (call : Call) → is_on_till call ≡ true → HasRoom call (answer_in s st call)
    → answer_in s st call ≡ answer_shown s (view_at s.measures.block_bytes st (till_named call)) call
unfolding answer_in till_named
answer_in_lem s st (call_layout c) on room = absurd (false≢true on)
answer_in_lem s st (call_backup era t d image) on room = backup_shown era s st t d image room
answer_in_lem s st (call_restore t v output) on room = restore_shown_lem s st t v output
answer_in_lem s st (call_retire t v) on room = retire_shown_lem s st t v
answer_in_lem s st (call_listing t) on room = listing_shown s st t
answer_in_lem s st (call_version_on t day) on room = found_shown s st t day
answer_in_lem s st call_tally on room = absurd (false≢true on)
answer_in_lem s st (call_bill price) on room = absurd (false≢true on)
answer_in_lem s st (call_write_stream t v output) on room = stream_shown s st t v output
answer_in_lem s st (call_offer t fs ms) on room = absurd (false≢true on)
answer_in_lem s st (call_backup_sent t n fs ms ss) on room = absurd (false≢true on)
answer_in_lem s st (call_backup_all ts ns is) on room = absurd (false≢true on)
answer_in_lem s st (call_set_rights subject t r) on room = rights_shown s st subject t r
