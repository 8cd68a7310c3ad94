-- What a stored storage gives: how many cells and records there are, that every position's cell is one of the cells, and that a cell that none names is zero.
use mathlib.Core.Path.{◌≡◌, refl, sym, ap, ◌∙◌}
use mathlib.Core.Bool.{Bool, true, false, cond, not}
use mathlib.Core.List.{List, [], ◌++◌}
use mathlib.Core.Logic.{◌↔◌}
use Prim.Native.Nat.{ℕ, suc, ◌+◌, ◌*◌, ◌/◌, ◌≤◌, ◌<◌}
use native.Mathlib.Nat.{div-mul-le_self, le-div_iff_mul-le, suc-mul, zero-mul}
use native.Mathlib.Omega.{arith}
use lib.ListN.{length, get_or, take, drop, set, length-append, length-drop}
use lib.Seq.{length-take-le}
use Rattle.lists.specs.Lists.{all_zero, uses}
use Rattle.lists.specs.Rows.{chunks}
use Rattle.lists.proofs.Cuts.{chunk_at, each_part, joined_chunks, length_chunks}
use Rattle.lists.proofs.Places.{row_room, row_below, row_in, rows_few}
use Rattle.lists.proofs.Puts.{parts_put}
use Rattle.model.specs.Image.{zero_block}
use Rattle.model.specs.Measures.{Measures, record_words}
use Rattle.model.specs.Records.{is_held, cell_of, cell_at, named_cells}
use Rattle.model.specs.State.{Block, Position, null_position, blank_position, held, removed, Segment, Storage}
use Rattle.model.specs.Table.{cells_in, records_in, storage_in}
use Rattle.laws.proofs.Named.{inside_any}
use Rattle.laws.proofs.Bare.{zero_eq}
use Rattle.laws.proofs.Place.{held_named}
use Rattle.laws.proofs.Sweep.{named_one}
use Rattle.laws.specs.Storage.{Exact, filled_bit}
use Rattle.storage.specs.Stored.{EncodesCells, Stored, position_in}
use Rattle.storage.proofs.Read.{cells_length, records_count, records_length}

pub cells_count : (bytes : ℕ) (pool : List ℕ) → length (cells_in bytes pool) ≡ length pool / bytes
unfolding cells_in
cells_count bytes pool = length_chunks bytes pool

-- whole cells, and nothing left over
pub encodes_cells : (bytes n : ℕ) (pool : List ℕ) → 0 < bytes → length pool ≡ n * bytes → EncodesCells bytes pool (cells_in bytes pool)
unfolding cells_in chunks
encodes_cells bytes n pool h e = record {
  blocks =
      each_part (λ (b : Block). length b ≡ bytes) bytes (length pool / bytes) pool
      (λ i l. length-take-le bytes (drop (i * bytes) pool) (omega (arith, row_in (length pool) bytes h i l, length-drop (i * bytes) pool)));
  joins = sym (joined_chunks bytes n pool e h);
}

module _ (bytes : ℕ) (pool : List ℕ) (c : ℕ) (some : 0 < bytes) (room : c * bytes + bytes ≤ length pool) where
  cell_below : c < length pool / bytes
  cell_below = let e : (suc c ≤ length pool / bytes) ↔ (suc c * bytes ≤ length pool) = le-div_iff_mul-le some in e.1 (omega (arith, suc-mul c bytes))

  -- a cell's bytes
  pub cell_bytes : get_or (cells_in bytes pool) c [] ≡ take bytes (drop (c * bytes) pool)
  unfolding cells_in
  cell_bytes = chunk_at bytes pool c cell_below

  -- and of a storage that has these cells
  pub cell_is : (s : Storage) → s.cells ≡ cells_in bytes pool → take bytes (drop (c * bytes) pool) ≡ cell_at s c
  unfolding cell_at
  cell_is s e = sym (ap (λ (l : List Block). get_or l c []) e ∙ cell_bytes)

  -- other bytes in their place
  pub cell_put : (b : List ℕ) → length b ≡ bytes → cells_in bytes (take (c * bytes) pool ++ (b ++ drop bytes (drop (c * bytes) pool))) ≡ set (cells_in bytes pool) c b
  unfolding cells_in chunks
  cell_put b e =
      let n : length (take (c * bytes) pool ++ (b ++ drop bytes (drop (c * bytes) pool))) ≡ length pool =
      rw (length-append (take (c * bytes) pool) (b ++ drop bytes (drop (c * bytes) pool)), length-append b (drop bytes (drop (c * bytes) pool)))
      (omega (arith, length-take-le (c * bytes) pool (omega arith), length-drop bytes (drop (c * bytes) pool), length-drop (c * bytes) pool)) in
      rw n (parts_put bytes (length pool / bytes) c pool b cell_below (div-mul-le_self (length pool) bytes) e)

-- ---- what is named

module _ (sh : Storage) (x : Exact sh) where
  -- a held position's cell
  pub held_inside : (k i : ℕ) → is_held (position_in sh.records k i) ≡ true → cell_of (position_in sh.records k i) < length sh.cells
  held_inside k i e =
      let c : ℕ = cell_of (position_in sh.records k i) in
      inside_any sh x c (omega (arith, held_named (get_or sh.records k []) i e, named_one c sh.records k))

  -- any position's, where there is a cell
  pub position_inside : 0 < length sh.cells → (k i : ℕ) → cell_of (position_in sh.records k i) < length sh.cells
  position_inside z k i = go (position_in sh.records k i) (held_inside k i)
    where
      go : (p : Position) → (is_held p ≡ true → cell_of p < length sh.cells) → cell_of p < length sh.cells
      go null_position f = z
      go blank_position f = z
      go (held c n) f = f refl
      go removed f = z

  -- a cell that is not named
  pub unnamed_zero : (m : Measures) (c : ℕ) → length (get_or sh.cells c []) ≡ m.block_bytes → uses c (named_cells sh.records) ≡ 0 → get_or sh.cells c [] ≡ zero_block m.block_bytes
  unnamed_zero m c w u = sym (zero_eq m (get_or sh.cells c []) (zero_bit (get_or sh.cells c []) (sym (x c) ∙ u)) w)
    where
      zero_bit : (b : Block) → filled_bit b ≡ 0 → all_zero b ≡ true
      zero_bit b h = go (all_zero b) refl (unfold filled_bit in h)
        where
          go : (t : Bool) → all_zero b ≡ t → ◌≡◌ {A = ℕ} (cond (not (all_zero b)) 1 0) 0 → all_zero b ≡ true
          go true e h = e
          go false e h = absurd (omega (arith, h, ap {B = ℕ} (λ (t : Bool). cond (not t) 1 0) e))

-- ---- Stored

module _ {m : Measures} {pool words : List ℕ} (s : Stored m pool words) where
  abbrev cells : List Block
  cells = cells_in m.block_bytes pool

  abbrev segs : List Segment
  segs = records_in m.segment_blocks words

  some_bytes : 0 < m.block_bytes
  some_bytes = omega (arith, s.measured.some_bytes)

  pub stored_cells : length pool ≡ length cells * m.block_bytes
  unfolding storage_in
  stored_cells = cells_length m.block_bytes pool cells s.encodes.cells

  pub stored_words : length words ≡ length segs * record_words m.segment_blocks
  unfolding storage_in
  stored_words = records_length m.segment_blocks words segs s.encodes.records

  pub some_cell : 0 < length cells
  some_cell = row_below 0 (length cells) m.block_bytes some_bytes (omega (arith, zero-mul m.block_bytes, s.some, stored_cells))

  pub few_cells : length cells ≤ 32768
  few_cells = omega (arith, cells_count m.block_bytes pool, rows_few (length pool) m.block_bytes some_bytes 32768 s.few)

  pub few_records : length segs ≤ 4096
  few_records = omega (arith, records_count m.segment_blocks words, rows_few (length words) (record_words m.segment_blocks) (omega arith) 4096 s.short)

  pub cell_inside : (k i : ℕ) → cell_of (position_in segs k i) < length cells
  unfolding storage_in
  cell_inside = position_inside (storage_in m pool words) s.exact some_cell

  pub cell_room : (c : ℕ) → c < length cells → c * m.block_bytes + m.block_bytes ≤ length pool
  cell_room c h = omega (arith, stored_cells, row_room c (length cells) m.block_bytes h)
