-- What a placing leaves, from what its steps leave.
use mathlib.Core.Path.{◌∙◌, ◌≡◌, ap, refl, sym}
use mathlib.Core.Bool.{Bool, cond, false, not, true}
use mathlib.Core.List.{List, [], ◌++◌, ◌∷◌, map}
use mathlib.Core.Option.{none, some}
use Prim.Native.Nat.{◌*◌, ◌+◌, ◌-◌, ◌<◌, ◌≤◌, suc, zero, ℕ}
use native.Mathlib.Omega.{arith}
use lib.ListN.{drop, get_or, length, length-map, take}
use lib.Seq.{length-sets, sets}
use Rattle.lists.specs.Lists.{first_from}
use Rattle.lists.proofs.Puts.{first_found}
use Rattle.model.specs.Image.{blocks_from, is_bare, with_blanks}
use Rattle.model.specs.Measures.{Measures, record_words}
use Rattle.model.specs.Place.{bare_position, new_positions, one_more, place_segment, pointers_to, share, stored_blocks, write}
use Rattle.model.specs.Records.{cell_of, cells_of, equals, is_free}
use Rattle.model.specs.Runs.{Run, find_run, scan}
use Rattle.model.specs.State.{Block, Segment, Storage, held, null_position}
use Rattle.model.specs.Table.{cells_in, pointer_word, record_to_words, records_in, storage_in}
use Rattle.laws.proofs.Image.{length_blocks}
use Rattle.laws.proofs.RoundTrip.{length_record}
use Rattle.laws.proofs.Runs.{Free, RunOk}
use Rattle.laws.proofs.Segments.{run_found}
use Rattle.storage.specs.Stored.{EncodesCells, EncodesRecords, Stored}
use Rattle.storage.proofs.Inside.{encodes_cells, few_cells, few_records, some_cell, stored_cells}
use Rattle.storage.proofs.Read.{count_at, part_put, stored_records}
use Rattle.place_free.specs.Free.{without_cells}
use Rattle.place_free.proofs.Free.{free_new, free_same, length_free, named_same}
use Rattle.place_undo.proofs.Undoing.{undo_past}
use Rattle.place_words.specs.Marks.{stored_bit, stored_mask}
use Rattle.lists.specs.Search.{as_option}
use Rattle.place_words.proofs.Marks.{kept_count}
use Rattle.place_words.proofs.Rowing.{bare_cell}
use Rattle.lists.proofs.Puts.{as_none, as_some}
use Rattle.storage.proofs.Row.{cells_below}
use Rattle.place_segment.specs.Results.{SegmentResult}
use Rattle.place_segment.specs.Conditions.{Masked, SegmentPre, Unmatched}
use Rattle.place_segment.proofs.Cases.{bare_pointers, place_bare, place_full, place_share, place_tight, place_write, some_blocks_lem}
use Rattle.place_segment.proofs.Undone.{free_none, more_cells, room, undo_share, undo_write}

new_length : (c : ℕ) (seg : List Block) → length (new_positions with_blanks c seg) ≡ length seg
unfolding new_positions
new_length c [] = refl
new_length c (b ∷ seg) = ap suc (new_length (cond (is_bare with_blanks b) c (suc c)) seg)

-- a new position's cell is one of the run's, or 0
new_inside : (n c : ℕ) (seg : List Block) → 0 < n → c + length (stored_blocks with_blanks seg) ≤ n → (i : ℕ) → cell_of (get_or (new_positions with_blanks c seg) i null_position) < n
unfolding new_positions
new_inside n c [] z l i = z
new_inside n c (b ∷ seg) z l i = go (is_bare with_blanks b) refl (λ d q j. new_inside n d seg z q j) i
  where
    go : (t : Bool) → is_bare with_blanks b ≡ t → ((d : ℕ) → d + length (stored_blocks with_blanks seg) ≤ n → (j : ℕ) → cell_of (get_or (new_positions with_blanks d seg) j null_position) < n)
        → (i : ℕ) → cell_of (get_or (cond t (bare_position b) (held c 1) ∷ new_positions with_blanks (cond t c (suc c)) seg) i null_position) < n
    go true e r zero = rw (bare_cell b) z
    go true e r (suc i) = r c (let y : stored_bit b ≡ 0 = ap {B = ℕ} (λ (t : Bool). cond (not t) 1 0) e in omega (arith, kept_count b seg)) i
    go false e r zero = let y : stored_bit b ≡ 1 = ap {B = ℕ} (λ (t : Bool). cond (not t) 1 0) e in omega (arith, kept_count b seg)
    go false e r (suc i) = r (suc c) (let y : stored_bit b ≡ 1 = ap {B = ℕ} (λ (t : Bool). cond (not t) 1 0) e in omega (arith, kept_count b seg)) i

module _ {m : Measures} {from : ℕ} {pool ws : List ℕ} {free : List Bool} {words : List ℕ} (r : SegmentPre m from pool ws free words) where
  abbrev n : ℕ
  n = m.segment_blocks

  abbrev s : Storage
  s = storage_in m pool ws

  abbrev segs : List Segment
  segs = records_in n ws

  abbrev segment : List ℕ → List Block
  segment image = blocks_from m.block_bytes image from n

  st : Stored m pool ws
  st = r.stored

  encodes : EncodesRecords n ws segs
  encodes = stored_records m st

  pub seg_length : (image : List ℕ) → length (segment image) ≡ n
  seg_length image = length_blocks m.block_bytes image from n

  pub seg_room : (image : List ℕ) → length (segment image) ≡ length words
  seg_room image = seg_length image ∙ sym r.room

  pub few_marks : length free ≤ 32768
  unfolding storage_in
  few_marks = omega (arith, ap length r.cells, length_free s, few_cells st)

  -- ---- a segment that has no stored block

  pub did_bare : (image : List ℕ) (mask k : ℕ) → mask ≡ stored_mask (segment image) → mask ≡ 0 → (words' : List ℕ) → words' ≡ map pointer_word (pointers_to with_blanks k 0 (segment image))
      → SegmentResult m s (place_segment with_blanks s (segment image)) 0 4096 pool ws pool ws free words'
  unfolding storage_in
  did_bare image mask k e z words' f =
      rw (place_bare s (segment image) (sym e ∙ z))
      (refl, record { encodes = st.encodes; cells = r.cells; pointers = f ∙ ap (map pointer_word) (bare_pointers k 0 (segment image) (sym e ∙ z)); undo = undo_past m s 4096 (few_records st) })

  module _ {image : List ℕ} {mask blank : ℕ} (mk : Masked m image from mask blank) where
    abbrev seg : List Block
    seg = segment image

    not_null : stored_mask seg ≡ 0 → ⊥
    not_null z = omega (arith, mk.is, mk.some)

    -- ---- a record that serves

    pub did_share : (k : ℕ) → k < length segs → as_option (length segs) k ≡ first_from (equals with_blanks s seg) 0 segs
        → (at width : ℕ) → at ≡ k * record_words n → width ≡ record_words n
        → (row words' : List ℕ) → row ≡ record_to_words (map one_more (get_or segs k [])) → words' ≡ map pointer_word (pointers_to with_blanks k 0 seg)
        → SegmentResult m s (place_segment with_blanks s seg) 0 k pool ws pool (take at ws ++ (row ++ drop (at + width - at) (drop at ws))) free words'
    unfolding share storage_in
    did_share k h e at width ea ew row words' er ep =
        let found : first_from (equals with_blanks s seg) 0 segs ≡ some k = sym e ∙ as_some (length segs) k h in
        let rec : Segment = get_or segs k [] in
        rw (place_share s seg not_null k found, er) (
          refl,
          record {
            encodes = record { cells = st.encodes.cells; records = part_put n ws segs encodes k h at width ea ew (map one_more rec) (length-map rec one_more ∙ count_at n ws segs encodes k h) };
            cells = r.cells ∙ free_same s (share with_blanks s seg k).storage.records (named_same segs k (map one_more rec) (more_cells rec));
            pointers = ep;
            undo = undo_share m s seg k h (first_found [] (equals with_blanks s seg) segs k found).1 not_null (λ i. r.counts.some k i);
          },
        )

    module _ (no : Unmatched m image from pool ws) where
      pub did_full : (k : ℕ) → length segs ≤ k → as_option (length segs) k ≡ first_from is_free 0 segs → SegmentResult m s (place_segment with_blanks s seg) 14 0 pool ws pool ws free words
      unfolding storage_in
      did_full k h e = rw (place_full s seg not_null no (sym e ∙ as_none (length segs) k h)) (refl, omega arith, refl, refl)

      module _ (k : ℕ) (h : k < length segs) (e : as_option (length segs) k ≡ first_from is_free 0 segs) where
        found : first_from is_free 0 segs ≡ some k
        found = sym e ∙ as_some (length segs) k h

        pub did_tight : scan (length (stored_blocks with_blanks seg)) free 0 0 none ≡ none → SegmentResult m s (place_segment with_blanks s seg) 16 0 pool ws pool ws free words
        unfolding storage_in
        did_tight f = rw (place_tight s seg not_null no k found (rw r.cells at f)) (refl, omega arith, refl, refl)

        -- ---- a free record, and a run

        module _ (run : Run) (f : scan (length (stored_blocks with_blanks seg)) free 0 0 none ≡ some run) where
          ok : RunOk (Free s) (length (stored_blocks with_blanks seg)) run
          unfolding find_run
          ok = run_found s (length (stored_blocks with_blanks seg)) run (rw r.cells at f)

          unused : is_free (get_or segs k []) ≡ true
          unused = (first_found [] is_free segs k found).1

          abbrev new : Segment
          new = new_positions with_blanks run.start seg

          pub new_sized : length new ≡ n
          new_sized = new_length run.start seg ∙ seg_length image

          pub write_room : run.start + length (stored_blocks with_blanks seg) ≤ length (cells_in m.block_bytes pool)
          unfolding storage_in
          write_room = room m s st.exact st.encodes.cells.blocks seg run ok (some_blocks_lem seg not_null)

          -- the new record's row
          pub write_row : (row : List ℕ) → row ≡ record_to_words new → (length row ≡ record_words n) × ((i : ℕ) → i < n → get_or row (3 + i) 0 < length free)
          unfolding storage_in
          write_row row er =
              let nf : length free ≡ length (cells_in m.block_bytes pool) = ap length r.cells ∙ length_free s in
              (ap length er ∙ length_record n new new_sized, rw nf (cells_below n _ new new_sized (new_inside _ run.start seg (some_cell st) write_room) row er))

          pub did_write : (at width : ℕ) → at ≡ k * record_words n → width ≡ record_words n → (pool' row words' : List ℕ) (free' : List Bool) → length pool' ≡ length pool
              → cells_in m.block_bytes pool' ≡ sets (cells_in m.block_bytes pool) run.start (stored_blocks with_blanks seg) → row ≡ record_to_words new → free' ≡ without_cells (cells_of new) free
              → words' ≡ map pointer_word (pointers_to with_blanks k 0 seg)
              → SegmentResult m s (place_segment with_blanks s seg) 0 k pool ws pool' (take at ws ++ (row ++ drop (at + width - at) (drop at ws))) free' words'
          unfolding write storage_in
          did_write at width ea ew pool' row words' free' np ec er ef ep =
              let c : EncodesCells m.block_bytes pool' (cells_in m.block_bytes pool') = encodes_cells m.block_bytes _ pool' (omega (arith, st.measured.some_bytes)) (np ∙ stored_cells st) in
              rw (place_write s seg not_null no k run found (rw r.cells at f), er) (
                refl,
                record {
                  encodes = record { cells = rw ec at c; records = part_put n ws segs encodes k h at width ea ew new new_sized };
                  cells = ef ∙ rw r.cells (free_new s k new (sets (cells_in m.block_bytes pool) run.start (stored_blocks with_blanks seg)) h (free_none (get_or segs k []) unused) (length-sets (cells_in m.block_bytes pool) run.start (stored_blocks with_blanks seg)));
                  pointers = ep;
                  undo = undo_write m s st.exact st.encodes.cells.blocks seg run ok k h (count_at n ws segs encodes k h) unused;
                },
              )
