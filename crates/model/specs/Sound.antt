-- "Sound means all of this", clause by clause, and the store that a pool and a table are.
use Rattle.std.specs.Prelude.{ℕ, suc, ◌-◌, ◌*◌, Bool, true, false, cond, not, ◌||◌, List, [], ◌∷◌, map, length, get_or, drop, eqb, ltb, leb}
use Rattle.std.specs.Bool.{beq}
use Rattle.std.proofs.Math.Option.{Option, none, some}
use Rattle.lists.specs.Lists.{every, all_of, count, same_numbers, rises, is_in, distinct, all_zero}
use Rattle.lists.specs.Rows.{rows}
use Rattle.model.specs.Measures.{Shape, is_within, in_range, table_words, pool_bytes, parts_for}
use Rattle.model.specs.State.{Block, Pointer, null_pointer, blank_pointer, direct, indirect, Position, null_position, blank_position, held, removed, Segment, Storage, Version, Till, staff, State}
use Rattle.model.specs.Records.{is_held, is_free, named_cells, position_at}
use Rattle.model.specs.Trace.{traced_block}
use Rattle.model.specs.Table.{shape_of, state_in, state_to_words}

-- ---- lengths and ranges

-- as many tills, records, positions, cells and bytes of a cell as the shape says
unfoldable pub is_shaped : Shape → State → Bool
is_shaped s st =
    all_of
    (eqb (length st.tills) s.capacities.tills
    ∷ eqb (length st.storage.records) s.capacities.records
    ∷ every (λ seg. eqb (length seg) s.measures.segment_blocks) st.storage.records
    ∷ eqb (length st.storage.cells) s.capacities.cells
    ∷ every (λ b. eqb (length b) s.measures.block_bytes) st.storage.cells
    ∷ [])

-- a length of 1 to block size × blocks per image, and one pointer for each block
unfoldable pub has_length : ℕ → ℕ → Version → Bool
has_length bytes b v =
    all_of (is_within 1 (bytes * b) v.length ∷ eqb (length v.pointers) (parts_for bytes v.length) ∷ [])

-- at most the till's versions, with numbers that rise, each at least 1 and at most the last given, which is at most 65,535
unfoldable pub is_numbered : ℕ → Till → Bool
is_numbered v t =
    all_of
    (leb (length t.versions) v
    ∷ leb t.last 65535
    ∷ rises 0 t.last (map (λ (v : Version). v.number) t.versions)
    ∷ [])

-- a record in use holds at least one position
unfoldable pub is_free_or_holds : Segment → Bool
is_free_or_holds seg = is_free seg || ltb 0 (count is_held seg)

-- every held position names a cell of the pool, and no two name one
unfoldable pub has_cells : Storage → Bool
has_cells storage =
    all_of (every (λ c. ltb c (length storage.cells)) (named_cells storage.records) ∷ distinct (named_cells storage.records) ∷ [])

-- ---- pointers

abbrev pub is_null : Pointer → Bool
is_null null_pointer = true
is_null blank_pointer = false
is_null (direct k i) = false
is_null (indirect n) = false

-- A pointer of a version whose next newer held version has the pointers `newer`: a direct one names a held position, an indirect one an existing
-- block whose pointer is not null. For the newest `newer` is [], so that it has no indirect one.
abbrev pub resolves : Storage → List Pointer → Pointer → Bool
resolves storage newer null_pointer = true
resolves storage newer blank_pointer = true
resolves storage newer (direct k i) = is_held (position_at storage k i)
resolves storage newer (indirect n) = not (is_null (get_or newer n null_pointer))

-- the pointers of the first version of a list
unfoldable pub next_pointers : List Version → List Pointer
next_pointers [] = []
next_pointers (v ∷ vs) = v.pointers

-- a version's last block, as traced, is zero after the version's length
unfoldable pub ends_zero : ℕ → Storage → Version → List Version → Bool
ends_zero bytes storage v newer =
    all_zero (drop (v.length - bytes * (length v.pointers - 1)) (traced_block bytes storage (v ∷ newer) (length v.pointers - 1)))

-- for images of up to `b` blocks
unfoldable pub are_traceable : ℕ → ℕ → Storage → List Version → Bool
are_traceable bytes b storage [] = true
are_traceable bytes b storage (v ∷ newer) =
    all_of
    (has_length bytes b v
    ∷ every (resolves storage (next_pointers newer)) v.pointers
    ∷ ends_zero bytes storage v newer
    ∷ are_traceable bytes b storage newer
    ∷ [])

-- numbers, versions, and the rights of the seven users
unfoldable pub is_till : Shape → Storage → Till → Bool
is_till s storage t =
    all_of
    (is_numbered s.capacities.versions t
    ∷ are_traceable s.measures.block_bytes s.capacities.blocks storage t.versions
    ∷ eqb (length t.rights) staff
    ∷ [])

-- ---- counts and cells

abbrev pub leads_to : ℕ → ℕ → Pointer → Bool
leads_to k i null_pointer = false
leads_to k i blank_pointer = false
leads_to k i (direct k' i') = all_of (eqb k k' ∷ eqb i i' ∷ [])
leads_to k i (indirect n) = false

-- all pointers of the whole store
unfoldable pub all_pointers : List Till → List Pointer
all_pointers ts = rows (λ (t : Till). rows (λ (v : Version). v.pointers) t.versions) ts

-- position `i` of record `k`, where it is held, has as its count the number of direct pointers to it, at least 1
abbrev pub is_counted : List Pointer → ℕ → ℕ → Position → Bool
is_counted ps k i null_position = true
is_counted ps k i blank_position = true
is_counted ps k i (held c n) = all_of (ltb 0 n ∷ eqb n (count (leads_to k i) ps) ∷ [])
is_counted ps k i removed = true

unfoldable pub are_counted : List Pointer → ℕ → ℕ → Segment → Bool
are_counted ps k i [] = true
are_counted ps k i (p ∷ seg) = all_of (is_counted ps k i p ∷ are_counted ps k (suc i) seg ∷ [])

unfoldable pub all_counted : List Pointer → ℕ → List Segment → Bool
all_counted ps k [] = true
all_counted ps k (seg ∷ segs) = all_of (are_counted ps k 0 seg ∷ all_counted ps (suc k) segs ∷ [])

-- a block that is not all zero
abbrev pub is_filled : Block → Bool
is_filled b = not (all_zero b)

-- a cell named by no position is free and all zero; an occupied one is not all zero
unfoldable pub are_filled : List ℕ → ℕ → List Block → Bool
are_filled named c [] = true
are_filled named c (b ∷ bs) = all_of (beq (is_in c named) (is_filled b) ∷ are_filled named (suc c) bs ∷ [])

unfoldable pub is_sound : Shape → State → Bool
is_sound s st =
    all_of
    (in_range s
    ∷ is_shaped s st
    ∷ every is_free_or_holds st.storage.records
    ∷ has_cells st.storage
    ∷ every (is_till s st.storage) st.tills
    ∷ all_counted (all_pointers st.tills) 0 st.storage.records
    ∷ are_filled (named_cells st.storage.records) 0 st.storage.cells
    ∷ [])

-- ---- the store of a pool and a table

pub record Store : Type 0 where
  pub shape : Shape
  pub state : State

-- the state is sound, and the table has exactly its words: ranges and zero words hold
unfoldable pub if_sound : Shape → List ℕ → State → Option Store
if_sound s table st = cond (all_of (same_numbers (state_to_words s st) table ∷ is_sound s st ∷ [])) (some (record { shape = s; state = st })) none

unfoldable pub has_lengths : Shape → List ℕ → List ℕ → Bool
has_lengths s pool table = all_of (in_range s ∷ eqb (length pool) (pool_bytes s) ∷ eqb (length table) (table_words s) ∷ [])

unfoldable pub store_as : Shape → List ℕ → List ℕ → Option Store
store_as s pool table = let r = if_sound s table (state_in s pool table) in cond (has_lengths s pool table) r none

-- nothing where they are no sound store
unfoldable pub store_of : List ℕ → List ℕ → Option Store
store_of pool table = store_as (shape_of table) pool table
