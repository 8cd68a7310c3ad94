-- "The calls" and "Refusals". Each call answers a refusal's number, 0 for an accepted call, and its other fields, all 0 in a refusal; and it says what
-- the lent buffers are afterwards: as they were, in a refusal. The heading of each call gives its refusals in their order. These are the calls of a user who may make
-- them; Rights.antt has them with their users.
use Rattle.std.specs.Prelude.{ℕ, suc, ◌*◌, Bool, true, false, cond, not, ◌&&◌, ◌||◌, List, [], ◌∷◌, ◌++◌, map, length, get_or, set, take, drop, replicate, eqb, ltb, leb}
use Rattle.std.proofs.Math.Option.{Option, none, some}
use Rattle.lists.specs.Lists.{keep, count, total, last_of}
use Rattle.model.specs.Measures.{Shape, in_range, table_words, pool_bytes}
use Rattle.model.specs.State.{Block, Pointer, null_pointer, blank_pointer, direct, indirect, Storage, Version, with_pointers, Rights, staff, Till, State, Outcome, refused, done}
use Rattle.model.specs.Image.{zero_block, Era, with_blanks, image_blocks, image_segments}
use Rattle.model.specs.Records.{free_segment, is_free, named_cells, count_of}
use Rattle.model.specs.Place.{Placed, place_all}
use Rattle.model.specs.Turn.{turn, turning}
use Rattle.model.specs.Sweep.{release, claim, sweep}
use Rattle.model.specs.Trace.{image_of, longest_chain}
use Rattle.model.specs.Table.{state_to_words, state_to_bytes}
use Rattle.model.specs.Sound.{Store, store_of}

-- ---- table length: 1

pub record LengthAnswer : Type 0 where
  pub refusal : ℕ
  pub words : ℕ

unfoldable pub table_length_of : Shape → LengthAnswer
table_length_of s = cond (in_range s) (record { refusal = 0; words = table_words s }) (record { refusal = 1; words = 0 })

-- ---- lay out: 1, 2

pub record LayoutAnswer : Type 0 where
  pub refusal : ℕ
  pub pool : List ℕ
  pub table : List ℕ

unfoldable pub no_rights : Rights
no_rights = record { list = false; back_up = false; restore = false; retire = false }

-- "none at first"
unfoldable pub empty_till : Till
empty_till = record { last = 0; rights = replicate staff no_rights; versions = [] }

unfoldable pub empty_state : Shape → State
empty_state s = record {
  tills = replicate s.capacities.tills empty_till;
  storage = record {
    records = replicate s.capacities.records (free_segment s.measures.segment_blocks);
    cells = replicate s.capacities.cells (zero_block s.measures.block_bytes);
  };
}

unfoldable pub layout_if : Bool → Bool → Shape → List ℕ → List ℕ → LayoutAnswer
layout_if false fit s pool table = record { refusal = 1; pool = pool; table = table }
layout_if true false s pool table = record { refusal = 2; pool = pool; table = table }
layout_if true true s pool table = record { refusal = 0; pool = state_to_bytes (empty_state s); table = state_to_words s (empty_state s) }

unfoldable pub layout_of : Shape → List ℕ → List ℕ → LayoutAnswer
layout_of s pool table =
    layout_if (in_range s) (eqb (length pool) (pool_bytes s) && eqb (length table) (table_words s)) s pool table

-- ---- tills and versions

unfoldable pub till_of : State → ℕ → Till
till_of st t = get_or st.tills t empty_till

-- the version of that number and those after it; [] where it is not held
unfoldable pub held_from : ℕ → List Version → List Version
held_from n [] = []
held_from n (v ∷ vs) = let r = held_from n vs in cond (eqb v.number n) (v ∷ vs) r

unfoldable pub with_till : State → ℕ → Till → Storage → State
with_till st t till storage = record { tills = set st.tills t till; storage = storage }

-- ---- backup: 10, 3, 4, 11, 12, 28 if it brings a day, then 14 before 16 at the first segment that cannot be placed

pub record BackupAnswer : Type 0 where
  pub refusal : ℕ
  pub version : ℕ
  pub pool : List ℕ
  pub table : List ℕ

-- a state, and the number that the call answers beside the refusal's
pub record After : Type 0 where
  pub state : State
  pub answer : ℕ

-- what a call that may be refused leaves of a state, and its refusal, or 0, and its number
unfoldable pub state_or : State → Outcome After → State
state_or st (refused n) = st
state_or st (done a) = a.state

unfoldable pub outcome_refusal : Outcome After → ℕ
outcome_refusal (refused n) = n
outcome_refusal (done a) = 0

unfoldable pub outcome_number : Outcome After → ℕ
outcome_number (refused n) = 0
outcome_number (done a) = a.answer

-- the pointers of the till's previous held version (its newest), and the held versions with others in their place
unfoldable pub newest_pointers : List Version → List Pointer
newest_pointers vs = last_of (λ (v : Version). v.pointers) [] vs

unfoldable pub with_newest_pointers : List Version → List Pointer → List Version
with_newest_pointers [] ps = []
with_newest_pointers (v ∷ []) ps = with_pointers v ps ∷ []
with_newest_pointers (v ∷ w ∷ vs) ps = v ∷ with_newest_pointers (w ∷ vs) ps

-- §13: the day of the till's newest held version, 0 if none is held
unfoldable pub newest_day : List Version → ℕ
newest_day vs = last_of (λ (v : Version). v.day) 0 vs

-- the day of a new version: the one that is brought; "backups without one … take that day"
unfoldable pub day_for : Option ℕ → List Version → ℕ
day_for none vs = newest_day vs
day_for (some day) vs = day

-- the till with the new version, the previous one's pointers turned
unfoldable pub till_with : Till → List Pointer → ℕ → ℕ → List Pointer → Till
till_with till turned bytes day pointers = record {
  last = suc till.last;
  rights = till.rights;
  versions = with_newest_pointers till.versions turned ++ (record { number = suc till.last; length = bytes; day = day; pointers = pointers } ∷ []);
}

-- steps 2 and 3, once the segments are placed
unfoldable pub file_in : Era → Shape → State → ℕ → ℕ → List ℕ → List Block → Till → Outcome Placed → Outcome After
file_in era s st t day image blocks till (refused n) = refused n
file_in era s st t day image blocks till (done p) = done (record {
  state =
      with_till st t
      (till_with till (turn era p.storage blocks (newest_pointers till.versions)) (length image) day (take (length blocks) p.pointers))
      (sweep s.measures (release p.storage (turning era p.storage blocks (newest_pointers till.versions))));
  answer = suc till.last;
})

-- steps 1 to 3
unfoldable pub place_and_file : Era → Shape → State → ℕ → ℕ → List ℕ → Till → Outcome After
place_and_file era s st t day image till =
    file_in era s st t day image (image_blocks s.measures.block_bytes image) till
    (place_all era (done (record { storage = st.storage; pointers = [] })) (image_segments s.measures.block_bytes s.measures.segment_blocks image))

-- with the day that it brings, if it does
unfoldable pub backup : Era → Shape → State → ℕ → Option ℕ → List ℕ → Outcome After
backup era s st t brought image =
    cond (leb s.capacities.tills t) (refused 3)
    (cond (eqb (length image) 0 || ltb (s.measures.block_bytes * s.capacities.blocks) (length image)) (refused 4)
    (cond (leb s.capacities.versions (length (till_of st t).versions)) (refused 11)
    (cond (eqb (till_of st t).last 65535) (refused 12)
    (cond (ltb (day_for brought (till_of st t).versions) (newest_day (till_of st t).versions)) (refused 28)
    (place_and_file era s st t (day_for brought (till_of st t).versions) image (till_of st t))))))

unfoldable pub backup_answer : List ℕ → List ℕ → Shape → Outcome After → BackupAnswer
backup_answer pool table s (refused n) = record { refusal = n; version = 0; pool = pool; table = table }
backup_answer pool table s (done a) = record { refusal = 0; version = a.answer; pool = state_to_bytes a.state; table = state_to_words s a.state }

unfoldable pub backup_in : Era → Option Store → List ℕ → List ℕ → ℕ → Option ℕ → List ℕ → BackupAnswer
backup_in era none pool table t brought image = record { refusal = 10; version = 0; pool = pool; table = table }
backup_in era (some store) pool table t brought image = backup_answer pool table store.shape (backup era store.shape store.state t brought image)

-- by the rules of an era: stores in the field have backups from before
unfoldable pub backup_by : Era → List ℕ → List ℕ → ℕ → Option ℕ → List ℕ → BackupAnswer
backup_by era pool table t brought image = backup_in era (store_of pool table) pool table t brought image

-- without a day and with one
unfoldable pub backup_of : List ℕ → List ℕ → ℕ → List ℕ → BackupAnswer
backup_of pool table t image = backup_by with_blanks pool table t none image

unfoldable pub backup_dated_of : List ℕ → List ℕ → ℕ → ℕ → List ℕ → BackupAnswer
backup_dated_of pool table t day image = backup_by with_blanks pool table t (some day) image

-- ---- the version lookup of restore and retire: 17, 18

-- the versions before that of the number
unfoldable pub held_before : ℕ → List Version → List Version
held_before n [] = []
held_before n (v ∷ vs) = let r = held_before n vs in cond (eqb v.number n) [] (v ∷ r)

-- the version of a number, between the older and the newer ones held; or the refusal
pub data Lookup : Type 0 where
  found : (older : List Version) (version : Version) (newer : List Version) → Lookup
  missing : (refusal : ℕ) → Lookup

-- the first of some versions, behind the older ones; the refusal where there is none
unfoldable pub first_of : ℕ → List Version → List Version → Lookup
first_of n older [] = missing n
first_of n older (v ∷ newer) = found older v newer

-- a number that is not held: 17 if it was never given, being 0 or above the till's last, and 18 if it was given before
unfoldable pub not_held : ℕ → ℕ → ℕ
not_held last n = cond (eqb n 0) 17 (cond (ltb last n) 17 18)

unfoldable pub look_up : Till → ℕ → Lookup
look_up till n = first_of (not_held till.last n) (held_before n till.versions) (held_from n till.versions)

-- ---- restore: 10, 3, 17 or 18, 5. Answers the length and the longest chain.

pub record RestoreAnswer : Type 0 where
  pub refusal : ℕ
  pub length : ℕ
  pub hops : ℕ
  pub output : List ℕ

unfoldable pub restore_refusal : ℕ → List ℕ → RestoreAnswer
restore_refusal n output = record { refusal = n; length = 0; hops = 0; output = output }

-- Later bytes of the output stay.
unfoldable pub restore_from : ℕ → Storage → Lookup → List ℕ → RestoreAnswer
restore_from bytes storage (missing n) output = restore_refusal n output
restore_from bytes storage (found older v newer) output =
    cond (ltb (length output) v.length) (restore_refusal 5 output)
    (record {
      refusal = 0;
      length = v.length;
      hops = longest_chain (v ∷ newer);
      output = image_of bytes storage (v ∷ newer) ++ drop v.length output;
    })

unfoldable pub restore : Shape → State → ℕ → ℕ → List ℕ → RestoreAnswer
restore s st t version output =
    cond (leb s.capacities.tills t) (restore_refusal 3 output)
    (restore_from s.measures.block_bytes st.storage (look_up (till_of st t) version) output)

unfoldable pub restore_in : Option Store → ℕ → ℕ → List ℕ → RestoreAnswer
restore_in none t version output = restore_refusal 10 output
restore_in (some store) t version output = restore store.shape store.state t version output

unfoldable pub restore_of : List ℕ → List ℕ → ℕ → ℕ → List ℕ → RestoreAnswer
restore_of pool table t version output = restore_in (store_of pool table) t version output

-- ---- retire: 10, 3, 17 or 18. Answers the retired length.

pub record RetireAnswer : Type 0 where
  pub refusal : ℕ
  pub length : ℕ
  pub pool : List ℕ
  pub table : List ℕ

-- A pointer of the older neighbour of a version with the pointers `gone`, once that version is retired: an indirect one takes over the pointer it named.
abbrev pub take_over : List Pointer → Pointer → Pointer
take_over gone null_pointer = null_pointer
take_over gone blank_pointer = blank_pointer
take_over gone (direct k i) = direct k i
take_over gone (indirect n) = get_or gone n null_pointer

-- the pointer that it takes over; none, null, if it is not indirect
abbrev pub taken : List Pointer → Pointer → Pointer
taken gone null_pointer = null_pointer
taken gone blank_pointer = null_pointer
taken gone (direct k i) = null_pointer
taken gone (indirect n) = get_or gone n null_pointer

-- the versions without `v`, which stood between the older and the newer ones
unfoldable pub close_up : List Version → Version → List Version → List Version
close_up older v newer = with_newest_pointers older (map (take_over v.pointers) (newest_pointers older)) ++ newer

-- The direct pointers taken over add 1 to their counts, then the retired version's lower theirs, and step 3 is done.
unfoldable pub retire_from : Shape → State → ℕ → Till → Lookup → Outcome After
retire_from s st t till (missing n) = refused n
retire_from s st t till (found older v newer) = done (record {
  state =
      with_till st t (record { last = till.last; rights = till.rights; versions = close_up older v newer })
      (sweep s.measures (release (claim st.storage (map (taken v.pointers) (newest_pointers older))) v.pointers));
  answer = v.length;
})

unfoldable pub retire : Shape → State → ℕ → ℕ → Outcome After
retire s st t version =
    cond (leb s.capacities.tills t) (refused 3)
    (retire_from s st t (till_of st t) (look_up (till_of st t) version))

unfoldable pub retire_answer : List ℕ → List ℕ → Shape → Outcome After → RetireAnswer
retire_answer pool table s (refused n) = record { refusal = n; length = 0; pool = pool; table = table }
retire_answer pool table s (done a) = record { refusal = 0; length = a.answer; pool = state_to_bytes a.state; table = state_to_words s a.state }

unfoldable pub retire_in : Option Store → List ℕ → List ℕ → ℕ → ℕ → RetireAnswer
retire_in none pool table t version = record { refusal = 10; length = 0; pool = pool; table = table }
retire_in (some store) pool table t version = retire_answer pool table store.shape (retire store.shape store.state t version)

unfoldable pub retire_of : List ℕ → List ℕ → ℕ → ℕ → RetireAnswer
retire_of pool table t version = retire_in (store_of pool table) pool table t version

-- ---- listing: 10, 3. Oldest and newest held number (0 and 0 if none) and the last given.

pub record ListingAnswer : Type 0 where
  pub refusal : ℕ
  pub oldest : ℕ
  pub newest : ℕ
  pub last : ℕ

unfoldable pub oldest_number : List Version → ℕ
oldest_number [] = 0
oldest_number (v ∷ vs) = v.number

unfoldable pub newest_number : List Version → ℕ
newest_number vs = last_of (λ (v : Version). v.number) 0 vs

unfoldable pub listing_refusal : ℕ → ListingAnswer
listing_refusal n = record { refusal = n; oldest = 0; newest = 0; last = 0 }

unfoldable pub list_till : Till → ListingAnswer
list_till t = record { refusal = 0; oldest = oldest_number t.versions; newest = newest_number t.versions; last = t.last }

unfoldable pub listing_in : Option Store → ℕ → ListingAnswer
listing_in none t = listing_refusal 10
listing_in (some store) t = cond (leb store.shape.capacities.tills t) (listing_refusal 3) (list_till (till_of store.state t))

unfoldable pub listing_of : List ℕ → List ℕ → ℕ → ListingAnswer
listing_of pool table t = listing_in (store_of pool table) t

-- ---- lookup by day (§13): 10, 3, 29. "The newest held version not after the day."

pub record VersionOnAnswer : Type 0 where
  pub refusal : ℕ
  pub version : ℕ

unfoldable pub not_after : ℕ → List Version → List Version
not_after day vs = keep (λ (v : Version). leb v.day day) vs

unfoldable pub newest_or_none : List Version → VersionOnAnswer
newest_or_none [] = record { refusal = 29; version = 0 }
newest_or_none (v ∷ vs) = record { refusal = 0; version = newest_number (v ∷ vs) }

unfoldable pub version_on_in : Option Store → ℕ → ℕ → VersionOnAnswer
version_on_in none t day = record { refusal = 10; version = 0 }
version_on_in (some store) t day =
    cond (leb store.shape.capacities.tills t) (record { refusal = 3; version = 0 }) (newest_or_none (not_after day (till_of store.state t).versions))

unfoldable pub version_on_of : List ℕ → List ℕ → ℕ → ℕ → VersionOnAnswer
version_on_of pool table t day = version_on_in (store_of pool table) t day

-- ---- tally: 10. Occupied cells, records in use, sum of all counts.

pub record TallyAnswer : Type 0 where
  pub refusal : ℕ
  pub cells : ℕ
  pub records : ℕ
  pub counts : ℕ

unfoldable pub tally_in : Option Store → TallyAnswer
tally_in none = record { refusal = 10; cells = 0; records = 0; counts = 0 }
tally_in (some store) = record {
  refusal = 0;
  cells = length (named_cells store.state.storage.records);
  records = count (λ seg. not (is_free seg)) store.state.storage.records;
  counts = total (total count_of) store.state.storage.records;
}

unfoldable pub tally_of : List ℕ → List ℕ → TallyAnswer
tally_of pool table = tally_in (store_of pool table)
