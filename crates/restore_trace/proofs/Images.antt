-- A version's image, block by block.
use mathlib.Core.Path.{◌≡◌, refl, sym, ap, ap₂, ◌∙◌}
use mathlib.Core.List.{List, [], ◌∷◌, ◌++◌, map}
use Prim.Native.Nat.{ℕ, zero, suc, ◌+◌, ◌*◌, ◌/◌, ◌%◌, ◌≤◌, ◌<◌}
use native.Mathlib.Nat.{zero-add, zero-mul}
use native.Mathlib.Omega.{arith}
use lib.ListN.{length, get_or, take, drop, replicate, length-map, length-drop, length-replicate, get_or-map, get_or-append}
use lib.Seq.{get_or-take, get_or-drop, drop-cons, take-take, length-take-le}
use Rattle.lists.specs.Each.{Each}
use Rattle.lists.specs.Lists.{counted, largest}
use Rattle.lists.specs.Rows.{joined}
use Rattle.lists.proofs.Counted.{length_counted, counted_at}
use Rattle.lists.proofs.Each.{each_counted}
use Rattle.lists.proofs.Rows.{get_d_rows, length_joined}
use Rattle.lists.proofs.Slices.{take_replicate}
use Rattle.model.specs.Image.{blank_block, zero_block}
use Rattle.model.specs.Measures.{Measures, record_words}
use Rattle.model.specs.Records.{cell_of, count_of, cell_at, position_at}
use Rattle.model.specs.State.{Segment, null_position, Storage, direct, indirect, null_pointer, blank_pointer, Pointer, Version, Block}
use Rattle.model.specs.Table.{record_to_words, storage_in, records_in, word_to_pointer, pointer_of, versions_in, version_in}
use Rattle.model.specs.Trace.{block_at, end_of, traced_block, traced_blocks, image_of, longest_chain, hops}
use Rattle.storage.specs.Fits.{WithinRecords}
use Rattle.storage.specs.Stored.{EncodesRecords, Stored}
use Rattle.storage.proofs.Changes.{fits_direct, direct_word}
use Rattle.storage.proofs.Read.{row_inside, wide_of, count_at, cells_length, stored_records}
use Rattle.lists.proofs.Places.{row_room}
use Rattle.lists.proofs.Joins.{row_joined}
use Rattle.sweep_laws.proofs.Named.{named_in}
use Rattle.restore_trace.specs.Versions.{fill_byte, no_version, Traceable, DirectWithin, pointers_at}
use Rattle.restore_trace.proofs.Traces.{ends_fit, length_versions, version_row}

-- ---- the cell of a position

cell_row : (seg : Segment) → (i : ℕ) → i < length seg → get_or (record_to_words seg) (3 + i) 0 ≡ cell_of (get_or seg i null_position)
unfolding record_to_words
cell_row seg i h =
    let q : 3 + i ≡ suc (suc (suc i)) = omega arith in
    rw q (get_or-append (map cell_of seg) (map count_of seg) 0 i (omega (arith, length-map seg cell_of)) ∙ get_or-map cell_of seg i null_position)

pub cell_word : (n : ℕ) (ws : List ℕ) (segs : List Segment) → EncodesRecords n ws segs → (k i : ℕ) → k * record_words n + record_words n ≤ length ws → i < n
    → get_or ws (k * record_words n + (3 + i)) 0 ≡ cell_of (get_or (get_or segs k []) i null_position)
cell_word n ws segs r k i h l =
    let hk : k < length segs = row_inside n ws segs r k h in
    ap (λ (x : List ℕ). get_or x (k * record_words n + (3 + i)) 0) r.words
    ∙ get_d_rows record_to_words (record_words n) [] 0 segs (wide_of n segs r.sized) k (3 + i) hk (omega arith)
    ∙ cell_row (get_or segs k []) i (omega (arith, count_at n ws segs r k hk))

-- ---- the byte of a block that has no cell

pub blank_fill : (w : ℕ) → w / 16777216 ≡ 3 → 255 ≡ fill_byte (word_to_pointer w)
unfolding word_to_pointer pointer_of fill_byte
blank_fill w e = rw e

pub null_fill : (w : ℕ) → (w / 16777216 ≡ 3 → ⊥) → 0 ≡ fill_byte (word_to_pointer w)
unfolding word_to_pointer pointer_of fill_byte
null_fill w f = go (w / 16777216) f
  where
    go : (k : ℕ) → (k ≡ 3 → ⊥) → 0 ≡ fill_byte (pointer_of k (w % 16777216))
    go zero f = refl
    go (suc zero) f = refl
    go (suc (suc zero)) f = refl
    go (suc (suc (suc zero))) f = absurd (f refl)
    go (suc (suc (suc (suc k)))) f = refl

-- ---- the block of a pointer

module _ (m : Measures) (pool words : List ℕ) (s : Stored m pool words) where
  abbrev size : ℕ
  size = m.block_bytes

  abbrev n : ℕ
  n = m.segment_blocks

  abbrev sh : Storage
  sh = storage_in m pool words

  cell_there : (k i : ℕ) → k * record_words n + record_words n ≤ length words → i < n → cell_of (get_or (get_or (records_in n words) k []) i null_position) < length sh.cells
  cell_there k i h l =
      let hk : k < length (records_in n words) = row_inside n words (records_in n words) (stored_records m s) k h in
      let e : get_or (map cell_of (get_or (records_in n words) k [])) i 0 ≡ cell_of (get_or (get_or (records_in n words) k []) i null_position) =
      get_or-map cell_of (get_or (records_in n words) k []) i null_position in
      rw (← e) ((named_in m pool words s (length sh.cells) (sym (cells_length size pool sh.cells s.encodes.cells))).inside k i hk)

  -- the cell lies in the pool
  pub cell_room : (k i : ℕ) → k * record_words n + record_words n ≤ length words → i < n
      → cell_of (get_or (get_or (records_in n words) k []) i null_position) * size + size ≤ length pool
  cell_room k i h l = omega (arith, cells_length size pool sh.cells s.encodes.cells, row_room _ _ size (cell_there k i h l))

  cell_bytes : (c : ℕ) → c < length sh.cells → take size (drop (c * size) pool) ≡ get_or sh.cells c []
  cell_bytes c h = ap (λ (p : List ℕ). take size (drop (c * size) p)) s.encodes.cells.joins ∙ row_joined size sh.cells s.encodes.cells.blocks c h

  -- the block that a direct pointer leads to
  block_direct : (k i : ℕ) → k * record_words n + record_words n ≤ length words → i < n
      → take size (drop (cell_of (get_or (get_or (records_in n words) k []) i null_position) * size) pool) ≡ block_at size sh (direct k i)
  unfolding block_at cell_at position_at storage_in
  block_direct k i h l = cell_bytes (cell_of (get_or (get_or (records_in n words) k []) i null_position)) (cell_there k i h l)

  pub length_block : (p : Pointer) → WithinRecords n (length words) p → length (block_at size sh p) ≡ size
  unfolding WithinRecords
  length_block null_pointer f = unfold block_at zero_block in length-replicate {A = ℕ} size 0
  length_block blank_pointer f = unfold block_at blank_block in length-replicate {A = ℕ} size 255
  length_block (direct k i) f =
      sym (ap length (block_direct k i f.0 f.1))
      ∙ length-take-le size (drop (cell_of (get_or (get_or (records_in n words) k []) i null_position) * size) pool)
      (omega (arith, cell_room k i f.0 f.1, length-drop (cell_of (get_or (get_or (records_in n words) k []) i null_position) * size) pool))
  length_block (indirect b) f = unfold block_at zero_block in length-replicate {A = ℕ} size 0

  -- the front of a block from its cell
  put_cell : (w c l : ℕ) → w / 16777216 ≡ 1 → WithinRecords n (length words) (word_to_pointer w) → l ≤ size
      → c ≡ cell_of (get_or (get_or (records_in n words) (w % 16777216 / 16) []) (w % 16777216 % 16) null_position)
      → take l (drop (c * size) pool) ≡ take l (block_at size sh (word_to_pointer w))
  put_cell w c l e f h ec =
      let (room, hi) = fits_direct n (length words) w e f in
      sym (take-take l size (drop (c * size) pool) h)
      ∙ ap (λ (i : ℕ). take l (take size (drop (i * size) pool))) ec
      ∙ ap (take l) (block_direct (w % 16777216 / 16) (w % 16777216 % 16) room hi ∙ ap (block_at size sh) (sym (direct_word w e)))

  -- the front of a block that is one byte over and over
  fill_other : (w : ℕ) → (w / 16777216 ≡ 1 → ⊥) → block_at size sh (word_to_pointer w) ≡ replicate size (fill_byte (word_to_pointer w))
  unfolding block_at word_to_pointer pointer_of fill_byte zero_block blank_block
  fill_other w f = go (w / 16777216) f
    where
      go : (k : ℕ) → (k ≡ 1 → ⊥) → block_at size sh (pointer_of k (w % 16777216)) ≡ replicate size (fill_byte (pointer_of k (w % 16777216)))
      go zero f = refl
      go (suc zero) f = absurd (f refl)
      go (suc (suc zero)) f = refl
      go (suc (suc (suc zero))) f = refl
      go (suc (suc (suc (suc k)))) f = refl

  put_filled : (w v l : ℕ) → (w / 16777216 ≡ 1 → ⊥) → l ≤ size → v ≡ fill_byte (word_to_pointer w) → replicate l v ≡ take l (block_at size sh (word_to_pointer w))
  put_filled w v l f h b = ap (replicate l) b ∙ sym (ap (take l) (fill_other w f) ∙ take_replicate l size (fill_byte (word_to_pointer w)) h)

  -- either of them at its place in the output
  module _ (w l to : ℕ) (out ys : List ℕ) (h : l ≤ size) where
    pub cell_put : (c : ℕ) → w / 16777216 ≡ 1 → WithinRecords n (length words) (word_to_pointer w)
        → c ≡ cell_of (get_or (get_or (records_in n words) (w % 16777216 / 16) []) (w % 16777216 % 16) null_position)
        → ys ≡ take to out ++ (take l (drop (c * size) pool) ++ drop (to + l) out) → ys ≡ take to out ++ (take l (block_at size sh (word_to_pointer w)) ++ drop (to + l) out)
    cell_put c e f ec ey = ey ∙ ap (λ (x : List ℕ). take to out ++ (x ++ drop (to + l) out)) (put_cell w c l e f h ec)

    pub filled_put : (v : ℕ) → (w / 16777216 ≡ 1 → ⊥) → v ≡ fill_byte (word_to_pointer w)
        → ys ≡ take to out ++ (replicate l v ++ drop (to + l) out) → ys ≡ take to out ++ (take l (block_at size sh (word_to_pointer w)) ++ drop (to + l) out)
    filled_put v f b ey = ey ∙ ap (λ (x : List ℕ). take to out ++ (x ++ drop (to + l) out)) (put_filled w v l f h b)

  -- ---- the image

  module _ (b h : ℕ) (slots : List ℕ) (ok : Traceable size b h slots) (dir : DirectWithin n size b h slots (length words)) where
    abbrev vs : List Version
    vs = versions_in size b h slots

    pub fits_end : (i : ℕ) → WithinRecords n (length words) (end_of vs i)
    fits_end i = ends_fit n (length words) vs dir.fit i

    -- the first c blocks
    abbrev pub traced : ℕ → List Block
    traced c = counted (traced_block size sh vs) 0 c

    sized : (c : ℕ) → Each (λ (x : Block). length x ≡ size) (traced c)
    unfolding traced_block
    sized c = each_counted (λ (x : Block). length x ≡ size) (traced_block size sh vs) (λ n. length_block (end_of vs n) (fits_end n)) 0 c

    pub length_traced : (c : ℕ) → length (joined (traced c)) ≡ c * size
    length_traced c = length_joined size (traced c) (sized c) ∙ ap (λ (i : ℕ). i * size) (length_counted (traced_block size sh vs) 0 c)

    -- the front of block n, whose tracing ends at the pointer of w
    pub traced_at : (c j w : ℕ) → word_to_pointer w ≡ end_of vs j → j < c → (l : ℕ) → l ≤ size
        → take l (drop (j * size) (joined (traced c))) ≡ take l (block_at size sh (word_to_pointer w))
    unfolding traced_block
    traced_at c j w e h l k =
        sym (take-take l size (drop (j * size) (joined (traced c))) k)
        ∙ ap (take l) (row_joined size (traced c) (sized c) j (omega (arith, length_counted (traced_block size sh vs) 0 c)) ∙ counted_at (traced_block size sh vs) 0 c j [] h ∙ ap (traced_block size sh vs) (zero-add j) ∙ ap (block_at size sh) (sym e))

    cut : vs ≡ get_or vs 0 no_version ∷ drop 1 vs
    cut = drop-cons vs 0 no_version (omega (arith, ok.some, length_versions size b h slots))

    first_length : (get_or vs 0 no_version).length ≡ get_or slots 1 0
    unfolding version_in
    first_length =
        ap (λ (v : Version). v.length) (version_row size b h slots 0 ok.some)
        ∙ get_or-take (3 + b) (drop (0 * (3 + b)) slots) 1 0 (omega arith)
        ∙ get_or-drop (0 * (3 + b)) slots 1 0
        ∙ ap (λ (i : ℕ). get_or slots i 0) (let z : 0 * (3 + b) + 1 ≡ 1 = omega (arith, zero-mul (3 + b)) in z)

    image_of_lem : image_of size sh vs ≡ take (get_or vs 0 no_version).length (joined (traced (length (pointers_at vs 0))))
    unfolding image_of traced_blocks
    image_of_lem = go vs cut
      where
        go : (us : List Version) → us ≡ get_or us 0 no_version ∷ drop 1 us
            → image_of size sh us ≡ take (get_or us 0 no_version).length (joined (counted (traced_block size sh us) 0 (length (pointers_at us 0))))
        go [] e = let z : ◌≡◌ {A = ℕ} 0 1 = ap length e in absurd (omega arith)
        go (v ∷ us) e = refl

    pub image_is : (c : ℕ) → length (pointers_at vs 0) ≡ c → take (get_or slots 1 0) (joined (traced c)) ≡ image_of size sh vs
    image_is c e = sym (image_of_lem ∙ ap₂ (λ (l n : ℕ). take l (joined (traced n))) first_length e)

    pub chain_is : (c : ℕ) → length (pointers_at vs 0) ≡ c → longest_chain vs ≡ largest (counted (hops vs) 0 c)
    unfolding longest_chain
    chain_is c e = go vs cut ∙ ap (λ (n : ℕ). largest (counted (hops vs) 0 n)) e
      where
        go : (us : List Version) → us ≡ get_or us 0 no_version ∷ drop 1 us → longest_chain us ≡ largest (counted (hops us) 0 (length (pointers_at us 0)))
        go [] e = let z : ◌≡◌ {A = ℕ} 0 1 = ap length e in absurd (omega arith)
        go (v ∷ us) e = refl
