-- The words of a table and the bytes of a pool for a state, and the state that words and bytes are read as. docs/FORMAT.md has the picture.
--   header    tills, versions, blocks, records, cells; block bytes, blocks per segment, rebuild percentage, or 0, 0, 0 for 64, 8, 20
--   till      last number, held versions, rights, 0; then a slot for each version that the till can hold, the oldest first, unused ones zero
--   rights    four bits for each of users 1 to 7, the lowest for user 1: list, back up, restore, retire
--   slot      number, length, day; then a pointer word for each block that an image can have, unused ones zero
--   record    mask of held positions, mask of removed ones, mask of blank ones; a cell word for each position; a count word for each position
--   pointer   0; or 2^24 + record * 16 + position; or 2 * 2^24 + block; or 3 * 2^24
use Rattle.std.specs.Prelude.{ℕ, zero, suc, ◌+◌, ◌*◌, ◌/◌, ◌%◌, min, Bool, cond, List, [], ◌∷◌, ◌++◌, map, length, get_or, take, drop, eqb}
use Rattle.lists.specs.Lists.{all_zero}
use Rattle.lists.specs.Rows.{joined, rows, parts, chunks, fill}
use Rattle.lists.specs.Masks.{mask_of}
use Rattle.model.specs.Measures.{Measures, Capacities, Shape, base_measures, is_base, header_words, slot_words, till_words, record_words, records_at, parts_for}
use Rattle.model.specs.State.{Block, Pointer, null_pointer, blank_pointer, direct, indirect, Position, null_position, blank_position, held, removed, Segment, Storage, Version, Rights, Till, staff, State}
use Rattle.model.specs.Records.{is_held, is_removed, is_blank_position, cell_of, count_of}

-- ---- to words

abbrev pub kind_unit : ℕ
kind_unit = 16777216

unfoldable pub pointer_word : Pointer → ℕ
pointer_word null_pointer = 0
pointer_word (direct k i) = kind_unit + (k * 16 + i)
pointer_word (indirect n) = 2 * kind_unit + n
pointer_word blank_pointer = 3 * kind_unit

-- bit i of a mask is position i's
unfoldable pub record_to_words : Segment → List ℕ
record_to_words seg = mask_of is_held seg ∷ mask_of is_removed seg ∷ mask_of is_blank_position seg ∷ (map cell_of seg ++ map count_of seg)

-- for images of up to `b` blocks
unfoldable pub version_to_words : ℕ → Version → List ℕ
version_to_words b v = v.number ∷ v.length ∷ v.day ∷ fill b (map pointer_word v.pointers)

unfoldable pub rights_bits : Rights → ℕ
rights_bits r = mask_of (λ b. b) (r.list ∷ r.back_up ∷ r.restore ∷ r.retire ∷ [])

unfoldable pub rights_word : List Rights → ℕ
rights_word [] = 0
rights_word (r ∷ rs) = rights_bits r + 16 * rights_word rs

-- for up to `v` versions
unfoldable pub till_to_words : ℕ → ℕ → Till → List ℕ
till_to_words v b t = t.last ∷ length t.versions ∷ rights_word t.rights ∷ 0 ∷ fill (v * slot_words b) (rows (version_to_words b) t.versions)

-- The word of a measure `n`. A table from before the measures could be chosen has zeros, and so has every table with those measures.
unfoldable pub measure_word : Measures → ℕ → ℕ
measure_word m n = cond (is_base m) 0 n

unfoldable pub header_to_words : Shape → List ℕ
header_to_words s =
    s.capacities.tills ∷ s.capacities.versions ∷ s.capacities.blocks ∷ s.capacities.records ∷ s.capacities.cells
    ∷ measure_word s.measures s.measures.block_bytes
    ∷ measure_word s.measures s.measures.segment_blocks
    ∷ measure_word s.measures s.measures.rebuild_percent
    ∷ []

unfoldable pub state_to_words : Shape → State → List ℕ
state_to_words s st =
    header_to_words s
    ++ (rows (till_to_words s.capacities.versions s.capacities.blocks) st.tills ++ rows record_to_words st.storage.records)

unfoldable pub state_to_bytes : State → List ℕ
state_to_bytes st = joined st.storage.cells

-- ---- from words. All of this is total: it reads something from any words, and `store_of` tells whether they are those of what was read.

-- from the header's last three words
unfoldable pub measures_in : ℕ → ℕ → ℕ → Measures
measures_in bytes n percent =
    cond (all_zero (bytes ∷ n ∷ percent ∷ [])) base_measures (record { block_bytes = bytes; segment_blocks = n; rebuild_percent = percent })

-- what the header gives
unfoldable pub shape_of : List ℕ → Shape
shape_of table = record {
  measures = measures_in (get_or table 5 0) (get_or table 6 0) (get_or table 7 0);
  capacities = record {
    tills = get_or table 0 0;
    versions = get_or table 1 0;
    blocks = get_or table 2 0;
    records = get_or table 3 0;
    cells = get_or table 4 0;
  };
}

-- from the kind and the rest
unfoldable pub pointer_of : ℕ → ℕ → Pointer
pointer_of zero n = null_pointer
pointer_of (suc zero) n = direct (n / 16) (n % 16)
pointer_of (suc (suc zero)) n = indirect n
pointer_of (suc (suc (suc zero))) n = blank_pointer
pointer_of (suc (suc (suc (suc kind)))) n = null_pointer

unfoldable pub word_to_pointer : ℕ → Pointer
word_to_pointer w = pointer_of (w / kind_unit) (w % kind_unit)

-- from its three bits, its cell word and its count word
unfoldable pub position_of : ℕ → ℕ → ℕ → ℕ → ℕ → Position
position_of zero zero zero c n = null_position
position_of zero zero (suc b) c n = blank_position
position_of zero (suc r) b c n = removed
position_of (suc h) r b c n = held c n

-- from the three masks, whose lowest bit is the first position's, the cell words and the count words
unfoldable pub positions_in : ℕ → ℕ → ℕ → List ℕ → List ℕ → Segment
positions_in h r b [] ns = []
positions_in h r b (c ∷ cs) [] = []
positions_in h r b (c ∷ cs) (n ∷ ns) = position_of (h % 2) (r % 2) (b % 2) c n ∷ positions_in (h / 2) (r / 2) (b / 2) cs ns

-- the record of `n` positions in a row of words
unfoldable pub segment_in : ℕ → List ℕ → Segment
segment_in n row = positions_in (get_or row 0 0) (get_or row 1 0) (get_or row 2 0) (take n (drop 3 row)) (take n (drop (3 + n) row))

unfoldable pub records_in : ℕ → List ℕ → List Segment
records_in n ws = map (segment_in n) (chunks (record_words n) ws)

unfoldable pub cells_in : ℕ → List ℕ → List Block
cells_in bytes pool = chunks bytes pool

-- from the pool and the records' words
unfoldable pub storage_in : Measures → List ℕ → List ℕ → Storage
storage_in m pool ws = record { records = records_in m.segment_blocks ws; cells = cells_in m.block_bytes pool }

-- as many pointers as the length has blocks
unfoldable pub version_in : ℕ → List ℕ → Version
version_in bytes row = record {
  number = get_or row 0 0;
  length = get_or row 1 0;
  day = get_or row 2 0;
  pointers = map word_to_pointer (take (parts_for bytes (get_or row 1 0)) (drop 3 row));
}

-- the versions of the first `n` slots
unfoldable pub versions_in : ℕ → ℕ → ℕ → List ℕ → List Version
versions_in bytes b n slots = map (version_in bytes) (parts (slot_words b) n slots)

unfoldable pub is_odd : ℕ → Bool
is_odd n = eqb (n % 2) 1

-- from the four lowest bits
unfoldable pub rights_of : ℕ → Rights
rights_of w = record { list = is_odd w; back_up = is_odd (w / 2); restore = is_odd (w / 4); retire = is_odd (w / 8) }

-- of `n` users
unfoldable pub rights_in : ℕ → ℕ → List Rights
rights_in zero w = []
rights_in (suc n) w = rights_of w ∷ rights_in n (w / 16)

unfoldable pub till_in : ℕ → ℕ → ℕ → List ℕ → Till
till_in bytes v b row = record {
  last = get_or row 0 0;
  rights = rights_in staff (get_or row 2 0);
  versions = versions_in bytes b (min (get_or row 1 0) v) (drop 4 row);
}

unfoldable pub tills_in : ℕ → ℕ → ℕ → List ℕ → List Till
tills_in bytes v b ws = map (till_in bytes v b) (chunks (till_words v b) ws)

-- the two parts of the table behind the header
abbrev pub tills_part : Capacities → List ℕ → List ℕ
tills_part c table = take (c.tills * till_words c.versions c.blocks) (drop header_words table)

abbrev pub records_part : Capacities → List ℕ → List ℕ
records_part c table = drop (records_at c) table

unfoldable pub state_in : Shape → List ℕ → List ℕ → State
state_in s pool table = record {
  tills = tills_in s.measures.block_bytes s.capacities.versions s.capacities.blocks (tills_part s.capacities table);
  storage = storage_in s.measures pool (records_part s.capacities table);
}
