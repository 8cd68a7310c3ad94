-- What the steps of a backup ask of the table, and leave there.
use Rattle.std.specs.Prelude.{◌≡◌, List, [], map, ℕ, ◌+◌, ◌-◌, ◌*◌, ◌≤◌, ◌<◌, length, get_or, set, take, drop}
use Rattle.model.specs.Image.{image_blocks, image_segments, with_blanks}
use Rattle.model.specs.Measures.{Measures, Shape, till_words, record_words, records_at}
use Rattle.model.specs.Calls.{till_of, till_with, newest_pointers}
use Rattle.backup_file.specs.Filing.{Room, HasFreeSlot}
use Rattle.model.specs.Place.{Placed, place_all}
use Rattle.model.specs.State.{Block, Pointer, Storage, State, Outcome, refused, done}
use Rattle.model.specs.Sweep.{release, sweep}
use Rattle.model.specs.Table.{shape_of, state_in, state_to_words, state_to_bytes, pointer_word, word_to_pointer}
use Rattle.model.specs.Turn.{turn, turning}
use Rattle.laws.specs.Stores.{till_at, Sound}
use Rattle.laws.specs.Storage.{Suffices}
use Rattle.place.specs.All.{segments_in}
use Rattle.backup_steps.specs.Limit.{limited}
use Rattle.backup_steps.specs.Steps.{Pointed}

-- the table's measures
abbrev pub measures_on : List ℕ → Measures
measures_on table = (shape_of table).measures

-- the image's blocks, and step 1
abbrev pub blocks_on : List ℕ → List ℕ → List Block
blocks_on table image = image_blocks (measures_on table).block_bytes image

abbrev pub placed_on : List ℕ → List ℕ → List ℕ → Outcome Placed
placed_on pool table image =
    place_all with_blanks (done (record { storage = (state_in (shape_of table) pool table).storage; pointers = [] })) (image_segments (measures_on table).block_bytes (measures_on table).segment_blocks image)

-- with the limit: `ps` are the newest version's pointers
abbrev pub limited_on : ℕ → ℕ → List ℕ → List ℕ → List ℕ → List Pointer → Outcome Placed
limited_on others most pool table image ps = limited others most (measures_on table) (blocks_on table image) ps (placed_on pool table image)

pub record StoreInPre (m : Measures) (image pool table : List ℕ) (from : ℕ) (words prev : List ℕ) : Type 0 where
  pub sound : Sound pool table
  pub measures : m ≡ measures_on table
  pub begins : from ≡ records_at (shape_of table).capacities
  pub short : length image ≤ 65536
  pub room : length words ≡ segments_in m image * m.segment_blocks
  pub pointers : Pointed (measures_on table).segment_blocks (get_or table 3 0 * record_words (measures_on table).segment_blocks) prev
  pub suffices : Suffices (state_in (shape_of table) pool table).storage.records (map word_to_pointer prev)

-- the state with the segments placed, the pointers let go and the storage swept, before the till has the new version
abbrev pub swept_state : Measures → State → List Block → List Pointer → Storage → State
swept_state m st blocks ps storage = record { tills = st.tills; storage = sweep m (release storage (turning with_blanks storage blocks ps)) }

pub record StoreInDone (image : List ℕ) (ps : List Pointer) (pool₀ table₀ : List ℕ) (p : Placed) (pool table words prev : List ℕ) : Type 0 where
  pub bytes : pool ≡ state_to_bytes (swept_state (measures_on table₀) (state_in (shape_of table₀) pool₀ table₀) (blocks_on table₀ image) ps p.storage)
  pub tables : table ≡ state_to_words (shape_of table₀) (swept_state (measures_on table₀) (state_in (shape_of table₀) pool₀ table₀) (blocks_on table₀ image) ps p.storage)
  pub turned : prev ≡ map pointer_word (turn with_blanks p.storage (blocks_on table₀ image) ps)
  pub placed : words ≡ map pointer_word p.pointers

-- a refusal alters neither buffer
abbrev pub StoreInResult : List ℕ → List Pointer → List ℕ → List ℕ → Outcome Placed → ℕ → List ℕ → List ℕ → List ℕ → List ℕ → Type 0
StoreInResult image ps pool₀ table₀ (refused n) r pool table words prev = (r ≡ n) × (0 < n) × (pool ≡ pool₀) × (table ≡ table₀)
StoreInResult image ps pool₀ table₀ (done p) r pool table words prev = (r ≡ 0) × StoreInDone image ps pool₀ table₀ p pool table words prev

-- a till's words, with a slot left
pub record FilePre (table : List ℕ) (at end b : ℕ) (turned pointers : List ℕ) : Type 0 where
  pub order : at ≤ end
  pub inside : end ≤ length table
  pub small : end ≤ 1051720
  pub room : Room b (take (end - at) (drop at table))
  pub left : HasFreeSlot b (take (end - at) (drop at table))
  pub few : length turned ≤ b
  pub short : length pointers ≤ b

-- the table's state has the version filed in the till whose words they are
abbrev pub FileResult : ℕ → ℕ → ℕ → List ℕ → ℕ → ℕ → List ℕ → List ℕ → List ℕ → Type 0
FileResult at end b turned bytes day pointers table out =
    (s : Shape) (st : State) (t : ℕ) (ps qs : List Pointer) → t < length st.tills → b ≡ s.capacities.blocks → at ≡ till_at s t
    → end ≡ at + till_words s.capacities.versions s.capacities.blocks → table ≡ state_to_words s st → length (till_of st t).versions < s.capacities.versions
    → turned ≡ map pointer_word ps → length ps ≡ length (newest_pointers (till_of st t).versions) → pointers ≡ map pointer_word qs
    → out ≡ state_to_words s (record { tills = set st.tills t (till_with (till_of st t) ps bytes day qs); storage = st.storage })
