-- Reading back what was written gives the state, and writing what was read gives the words and the bytes.
use mathlib.Core.Path.{◌≡◌, refl, sym, ap, ap₂, ◌∙◌, subst}
use mathlib.Core.Bool.{Bool, true, false, cond, false≢true}
use mathlib.Core.List.{List, [], ◌∷◌, ◌++◌, map}
use mathlib.Core.Option.{Option, none, some}
use Prim.Native.Nat.{ℕ, zero, suc, ◌+◌, ◌*◌, ◌/◌, ◌%◌, ◌≤◌, ◌<◌, min}
use native.Mathlib.Nat.{min-eq_left, mul-le-mul_right}
use native.Mathlib.Omega.{arith}
use lib.ListN.{length, get_or, take, drop, length-append, length-map, replicate, replicate-append-replicate}
use lib.Seq.{take_at, drop_at, drop-drop, take_all}
use borrow.Author.Tests.{eqb-true, eq-eqb}
use Rattle.lists.specs.Lists.{all_of, is_some, same_numbers}
use Rattle.lists.specs.Rows.{rows, parts, fill}
use Rattle.lists.specs.Each.{Each}
use Rattle.lists.specs.Masks.{mask_of}
use Rattle.lists.proofs.Tests.{clause}
use Rattle.lists.proofs.Each.{each_all, each_weaken}
use Rattle.lists.proofs.Same.{same_refl, same_eq}
use Rattle.lists.proofs.Rows.{length_joined, length_rows, length_fill, fill_split}
use Rattle.lists.proofs.Cuts.{parts_rows, chunks_rows, chunks_joined, joined_chunks, map_back}
use Rattle.lists.proofs.Masks.{half, odd}
use Rattle.model.specs.Measures.{Shape, slot_words, till_words, record_words, table_words, pool_bytes, parts_for, in_range}
use Rattle.model.specs.State.{Pointer, null_pointer, blank_pointer, direct, indirect, Position, null_position, blank_position, held, removed, Segment, Version, Till, staff, State}
use Rattle.model.specs.Records.{is_held, is_removed, is_blank_position, cell_of, count_of, free_segment}
use Rattle.model.specs.Table.{kind_unit, pointer_word, record_to_words, version_to_words, till_to_words, header_to_words, state_to_words, state_to_bytes, shape_of, pointer_of, word_to_pointer, position_of, positions_in, segment_in, records_in, cells_in, storage_in, version_in, versions_in, till_in, tills_in, tills_part, records_part, state_in}
use Rattle.model.specs.Sound.{is_sound, Store, if_sound, has_lengths, store_as, store_of}
use Rattle.laws.proofs.Rights.{rights_back}
use Rattle.laws.proofs.Fits.{Fit, range_fit, PointerFits, VersionFits, TillFits, StateFits, state_fits}

-- ---- a record

position_back : (p : Position) → position_of (cond (is_held p) 1 0) (cond (is_removed p) 1 0) (cond (is_blank_position p) 1 0) (cell_of p) (count_of p) ≡ p
unfolding position_of
position_back null_position = refl
position_back blank_position = refl
position_back (held c n) = refl
position_back removed = refl

pub positions_back : (seg : Segment) → positions_in (mask_of is_held seg) (mask_of is_removed seg) (mask_of is_blank_position seg) (map cell_of seg) (map count_of seg) ≡ seg
unfolding positions_in mask_of
positions_back [] = refl
positions_back (p ∷ seg) =
    rw (
      odd (is_held p) (mask_of is_held seg),
      odd (is_removed p) (mask_of is_removed seg),
      odd (is_blank_position p) (mask_of is_blank_position seg),
      half (is_held p) (mask_of is_held seg),
      half (is_removed p) (mask_of is_removed seg),
      half (is_blank_position p) (mask_of is_blank_position seg),
    )
    (ap₂ ◌∷◌ (position_back p) (positions_back seg))

pub length_record : (n : ℕ) (seg : Segment) → length seg ≡ n → length (record_to_words seg) ≡ record_words n
unfolding record_to_words
length_record n seg l = omega (arith, length-append (map cell_of seg) (map count_of seg), length-map seg cell_of, length-map seg count_of, l)

pub segment_back : (n : ℕ) (seg : Segment) → length seg ≡ n → segment_in n (record_to_words seg) ≡ seg
unfolding segment_in record_to_words
segment_back n seg l =
    let cells : List ℕ = map cell_of seg in
    let counts : List ℕ = map count_of seg in
    let first : take n (cells ++ counts) ≡ cells = take_at cells counts n (length-map seg cell_of ∙ l) in
    let later : take n (drop (3 + n) (record_to_words seg)) ≡ counts =
    ap (take n) (sym (drop-drop n 3 (record_to_words seg)) ∙ drop_at cells counts n (length-map seg cell_of ∙ l))
    ∙ take_all n counts (omega (arith, length-map seg count_of, l)) in
    ap₂ (positions_in (mask_of is_held seg) (mask_of is_removed seg) (mask_of is_blank_position seg)) first later ∙ positions_back seg

free_masks : (f : Position → Bool) → f null_position ≡ false → (n : ℕ) → mask_of f (replicate n null_position) ≡ 0
unfolding mask_of
free_masks f e zero = refl
free_masks f e (suc n) = rw (e, free_masks f e n)

free_numbers : (f : Position → ℕ) → f null_position ≡ 0 → (n : ℕ) → map f (replicate n null_position) ≡ replicate n 0
free_numbers f e zero = refl
free_numbers f e (suc n) = rw (e, free_numbers f e n)

-- a free record's words are zeros
pub free_row : (n : ℕ) → record_to_words (free_segment n) ≡ replicate (record_words n) 0
unfolding record_to_words free_segment
free_row n =
    let w : record_words n ≡ suc (suc (suc (n + n))) = omega arith in
    rw (free_masks is_held refl n, free_masks is_removed refl n, free_masks is_blank_position refl n, free_numbers cell_of refl n, free_numbers count_of refl n, w, replicate-append-replicate {A = ℕ} n n 0)

-- ---- a pointer

pub null_word : pointer_word null_pointer ≡ 0
unfolding pointer_word
null_word = refl

pub direct_word : (k i : ℕ) → pointer_word (direct k i) ≡ 16777216 + (k * 16 + i)
unfolding pointer_word
direct_word k i = refl

pub indirect_word : (n : ℕ) → pointer_word (indirect n) ≡ 33554432 + n
unfolding pointer_word
indirect_word n = refl

pub blank_word : pointer_word blank_pointer ≡ 50331648
unfolding pointer_word
blank_word = refl

pub pointer_back : (p : Pointer) → PointerFits p → word_to_pointer (pointer_word p) ≡ p
unfolding word_to_pointer pointer_word pointer_of
pointer_back null_pointer h = refl
pointer_back blank_pointer h = refl
pointer_back (direct k i) h =
    let q : (kind_unit + (k * 16 + i)) / kind_unit ≡ 1 = omega arith in
    let r : (kind_unit + (k * 16 + i)) % kind_unit ≡ k * 16 + i = omega arith in
    let a : (k * 16 + i) / 16 ≡ k = omega arith in
    let b : (k * 16 + i) % 16 ≡ i = omega arith in
    ap₂ pointer_of q r ∙ ap₂ direct a b
pointer_back (indirect n) h =
    let q : (2 * kind_unit + n) / kind_unit ≡ 2 = omega arith in
    let r : (2 * kind_unit + n) % kind_unit ≡ n = omega arith in
    ap₂ pointer_of q r

pub pointers_back : (ps : List Pointer) → Each PointerFits ps → map word_to_pointer (map pointer_word ps) ≡ ps
pointers_back ps h = map_back pointer_word word_to_pointer ps (each_weaken PointerFits _ pointer_back ps h)

-- ---- a version, whose slot has its width whatever is in it

pub length_version : (b : ℕ) (v : Version) → length (version_to_words b v) ≡ slot_words b
unfolding version_to_words
length_version b v = omega (arith, length_fill b (map pointer_word v.pointers))

pub version_back : (s : Shape) (v : Version) → VersionFits s v → version_in s.measures.block_bytes (version_to_words s.capacities.blocks v) ≡ v
unfolding version_in version_to_words
version_back s v f = λ i. record {
  number = v.number;
  length = v.length;
  day = v.day;
  pointers = (ap (map word_to_pointer) front ∙ pointers_back v.pointers f.pointers) i;
}
  where
    many : length (map pointer_word v.pointers) ≡ parts_for s.measures.block_bytes v.length
    many = length-map v.pointers pointer_word ∙ f.blocks

    front : take (parts_for s.measures.block_bytes v.length) (fill s.capacities.blocks (map pointer_word v.pointers)) ≡ map pointer_word v.pointers
    front =
        ap (take (parts_for s.measures.block_bytes v.length))
        (fill_split s.capacities.blocks (map pointer_word v.pointers) (omega (arith, length-map v.pointers pointer_word, f.most)))
        ∙ take_at (map pointer_word v.pointers) _ (parts_for s.measures.block_bytes v.length) many

-- ---- a till

pub length_till : (v b : ℕ) (t : Till) → length (till_to_words v b t) ≡ till_words v b
unfolding till_to_words
length_till v b t = omega (arith, length_fill (v * slot_words b) (rows (version_to_words b) t.versions))

pub till_back : (s : Shape) (t : Till) → TillFits s t
    → till_in s.measures.block_bytes s.capacities.versions s.capacities.blocks (till_to_words s.capacities.versions s.capacities.blocks t) ≡ t
unfolding till_in versions_in till_to_words
till_back s t f = λ i. record { last = t.last; rights = rights_back staff t.rights f.rights i; versions = slots i }
  where
    wide : Each (λ (v : Version). length (version_to_words s.capacities.blocks v) ≡ slot_words s.capacities.blocks) t.versions
    wide = each_all (λ (v : Version). length (version_to_words s.capacities.blocks v) ≡ slot_words s.capacities.blocks) (length_version s.capacities.blocks) t.versions

    size : length (rows (version_to_words s.capacities.blocks) t.versions) ≡ length t.versions * slot_words s.capacities.blocks
    size = length_rows (version_to_words s.capacities.blocks) (slot_words s.capacities.blocks) t.versions wide

    read : Each (λ (v : Version). version_in s.measures.block_bytes (version_to_words s.capacities.blocks v) ≡ v) t.versions
    read = each_weaken (VersionFits s) _ (version_back s) t.versions f.versions

    slots : map (version_in s.measures.block_bytes) (parts (slot_words s.capacities.blocks) (min (length t.versions) s.capacities.versions)
        (fill (s.capacities.versions * slot_words s.capacities.blocks) (rows (version_to_words s.capacities.blocks) t.versions))) ≡ t.versions
    slots =
        ap₂ (λ (n : ℕ) (ws : List ℕ). map (version_in s.measures.block_bytes) (parts (slot_words s.capacities.blocks) n ws)) (min-eq_left f.most)
        (fill_split (s.capacities.versions * slot_words s.capacities.blocks) (rows (version_to_words s.capacities.blocks) t.versions)
        (subst (λ (n : ℕ). n ≤ s.capacities.versions * slot_words s.capacities.blocks) (sym size) (mul-le-mul_right (slot_words s.capacities.blocks) f.most)))
        ∙ parts_rows (version_to_words s.capacities.blocks) (version_in s.measures.block_bytes) (slot_words s.capacities.blocks) t.versions wide read _

-- ---- a state

module _ (s : Shape) (st : State) (f : StateFits s st) where
  tills_wide : Each (λ (t : Till). length (till_to_words s.capacities.versions s.capacities.blocks t) ≡ till_words s.capacities.versions s.capacities.blocks) st.tills
  tills_wide = each_all _ (length_till s.capacities.versions s.capacities.blocks) st.tills

  tills_length : length (rows (till_to_words s.capacities.versions s.capacities.blocks) st.tills) ≡ s.capacities.tills * till_words s.capacities.versions s.capacities.blocks
  tills_length =
      length_rows (till_to_words s.capacities.versions s.capacities.blocks) (till_words s.capacities.versions s.capacities.blocks) st.tills tills_wide
      ∙ ap (λ (n : ℕ). n * till_words s.capacities.versions s.capacities.blocks) f.till_count

  records_wide : Each (λ (seg : Segment). length (record_to_words seg) ≡ record_words s.measures.segment_blocks) st.storage.records
  records_wide =
      each_weaken (λ (seg : Segment). length seg ≡ s.measures.segment_blocks) _ (length_record s.measures.segment_blocks) st.storage.records f.records

  records_length : length (rows record_to_words st.storage.records) ≡ s.capacities.records * record_words s.measures.segment_blocks
  records_length =
      length_rows record_to_words (record_words s.measures.segment_blocks) st.storage.records records_wide
      ∙ ap (λ (n : ℕ). n * record_words s.measures.segment_blocks) f.record_count

  pub table_length_lem : length (state_to_words s st) ≡ table_words s
  unfolding state_to_words table_words header_to_words
  table_length_lem =
      omega (
        arith,
        length-append (rows (till_to_words s.capacities.versions s.capacities.blocks) st.tills) (rows record_to_words st.storage.records),
        tills_length,
        records_length,
      )

  pub pool_length : length (state_to_bytes st) ≡ pool_bytes s
  unfolding state_to_bytes pool_bytes
  pool_length = length_joined s.measures.block_bytes st.storage.cells f.cells ∙ ap (λ (n : ℕ). n * s.measures.block_bytes) f.cell_count

  -- the two parts behind the header
  pub tills_part_lem : tills_part s.capacities (state_to_words s st) ≡ rows (till_to_words s.capacities.versions s.capacities.blocks) st.tills
  unfolding state_to_words header_to_words
  tills_part_lem = take_at (rows (till_to_words s.capacities.versions s.capacities.blocks) st.tills) (rows record_to_words st.storage.records) _ tills_length

  pub records_part_lem : records_part s.capacities (state_to_words s st) ≡ rows record_to_words st.storage.records
  unfolding state_to_words header_to_words
  records_part_lem =
      sym (drop-drop (s.capacities.tills * till_words s.capacities.versions s.capacities.blocks) 8 (state_to_words s st))
      ∙ drop_at (rows (till_to_words s.capacities.versions s.capacities.blocks) st.tills) (rows record_to_words st.storage.records) _ tills_length

  module _ (hb : 0 < s.measures.block_bytes) where
    tills_back : tills_in s.measures.block_bytes s.capacities.versions s.capacities.blocks (rows (till_to_words s.capacities.versions s.capacities.blocks) st.tills) ≡ st.tills
    unfolding tills_in
    tills_back =
        chunks_rows (till_to_words s.capacities.versions s.capacities.blocks) (till_in s.measures.block_bytes s.capacities.versions s.capacities.blocks)
        (till_words s.capacities.versions s.capacities.blocks) st.tills tills_wide
        (each_weaken (TillFits s) _ (till_back s) st.tills f.tills) (omega arith)

    records_back : records_in s.measures.segment_blocks (rows record_to_words st.storage.records) ≡ st.storage.records
    unfolding records_in
    records_back =
        chunks_rows record_to_words (segment_in s.measures.segment_blocks) (record_words s.measures.segment_blocks) st.storage.records records_wide
        (each_weaken (λ (seg : Segment). length seg ≡ s.measures.segment_blocks) _ (segment_back s.measures.segment_blocks) st.storage.records f.records) (omega arith)

    pub state_back : state_in s (state_to_bytes st) (state_to_words s st) ≡ st
    unfolding state_in storage_in cells_in state_to_bytes
    state_back = λ i. record {
      tills = (ap (tills_in s.measures.block_bytes s.capacities.versions s.capacities.blocks) tills_part_lem ∙ tills_back) i;
      storage = record {
        records = (ap (records_in s.measures.segment_blocks) records_part_lem ∙ records_back) i;
        cells = chunks_joined s.measures.block_bytes st.storage.cells f.cells hb i;
      };
    }

range_of : (s : Shape) (st : State) → is_sound s st ≡ true → in_range s ≡ true
unfolding is_sound
range_of s st h = clause _ 0 h

-- Reading back what was written: what a call leaves is the store that the next call finds.
pub round_trip : (s : Shape) (st : State) → Fit s → is_sound s st ≡ true
    → store_of (state_to_bytes st) (state_to_words s st) ≡ some (record { shape = s; state = st })
unfolding store_of store_as has_lengths if_sound all_of
round_trip s st fit h =
    let f : StateFits s st = state_fits s st fit.proper.bytes fit.most h in
    ap (λ (x : Shape). store_as x (state_to_bytes st) (state_to_words s st)) (fit.back st)
    ∙ rw (
      range_of s st h,
      eq-eqb (length (state_to_bytes st)) (pool_bytes s) (pool_length s st f),
      eq-eqb (length (state_to_words s st)) (table_words s) (table_length_lem s st f),
      state_back s st f fit.proper.bytes,
      same_refl (state_to_words s st),
      h,
    ) refl

-- ---- writing what was read

-- what a store that is found is
pub record Found (pool table : List ℕ) (x : Store) : Type 0 where
  pub shape : x.shape ≡ shape_of table
  pub sound : is_sound x.shape x.state ≡ true
  pub bytes : state_to_bytes x.state ≡ pool
  pub words : state_to_words x.shape x.state ≡ table

store_or : Store → Option Store → Store
store_or d none = d
store_or d (some x) = x

chosen : (b : Bool) (o : Option Store) (x : Store) → cond b o none ≡ some x → (b ≡ true) × (o ≡ some x)
unfolding is_some
chosen true o x e = (refl, e)
chosen false o x e = absurd (false≢true (ap is_some e))

module _ (pool table : List ℕ) where
  read : State
  read = state_in (shape_of table) pool table

  read_found : has_lengths (shape_of table) pool table ≡ true → all_of (same_numbers (state_to_words (shape_of table) read) table ∷ is_sound (shape_of table) read ∷ []) ≡ true
      → Found pool table (record { shape = shape_of table; state = read })
  unfolding read has_lengths state_to_bytes state_in storage_in cells_in pool_bytes
  read_found l t = record {
    shape = refl;
    sound = clause _ 1 t;
    bytes =
        joined_chunks (shape_of table).measures.block_bytes (shape_of table).capacities.cells pool (eqb-true _ _ (clause _ 1 l))
        (range_fit (shape_of table) (clause _ 0 l)).proper.bytes;
    words = same_eq _ _ (clause _ 0 t);
  }

  -- Writing what was read gives the words and the bytes.
  pub store_found : (x : Store) → store_of pool table ≡ some x → Found pool table x
  unfolding store_of store_as if_sound read store_or
  store_found x e =
      let (l, r) = chosen (has_lengths (shape_of table) pool table) (if_sound (shape_of table) table (state_in (shape_of table) pool table)) x e in
      let (t, q) = chosen (all_of (same_numbers (state_to_words (shape_of table) read) table ∷ is_sound (shape_of table) read ∷ [])) (some (record { shape = shape_of table; state = read })) x r in
      subst (Found pool table) (ap (store_or x) q) (read_found l t)

-- ---- the first words of a till

pub last_word : (v b : ℕ) (t : Till) → get_or (till_to_words v b t) 0 0 ≡ t.last
unfolding till_to_words
last_word v b t = refl

pub held_word : (v b : ℕ) (t : Till) → get_or (till_to_words v b t) 1 0 ≡ length t.versions
unfolding till_to_words
held_word v b t = refl
