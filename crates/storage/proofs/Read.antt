-- What was written is read.
use mathlib.Core.Path.{◌≡◌, refl, sym, ap, ◌∙◌, subst}
use mathlib.Core.List.{List, [], ◌++◌, map}
use Prim.Native.Nat.{ℕ, ◌+◌, ◌-◌, ◌*◌, ◌/◌, ◌≤◌, ◌<◌}
use native.Mathlib.Omega.{arith}
use lib.ListN.{length, get_or, set, take, drop, length-map}
use lib.Seq.{length-take-le}
use Rattle.lists.specs.Each.{Each}
use Rattle.lists.specs.Rows.{chunks}
use Rattle.lists.proofs.Cuts.{chunks_rows, chunks_joined, length_chunks}
use Rattle.lists.proofs.Places.{row_room, row_below}
use Rattle.lists.proofs.Each.{each_weaken, each_at, each_set}
use Rattle.lists.proofs.Slices.{mid_is}
use Rattle.lists.proofs.Rows.{Wide, length_rows, length_joined, row_rows, paste_rows}
use Rattle.model.specs.Measures.{Measures, record_words}
use Rattle.model.specs.State.{Segment, Block, Storage}
use Rattle.model.specs.Table.{record_to_words, segment_in, records_in, cells_in, storage_in}
use Rattle.laws.proofs.RoundTrip.{length_record, segment_back}
use Rattle.laws.specs.Storage.{Exact}
use Rattle.laws.specs.Ranges.{Measured}
use Rattle.storage.specs.Stored.{EncodesRecords, EncodesCells, Encodes, Stored}

-- ---- EncodesRecords

module _ (n : ℕ) where
  abbrev w : ℕ
  w = record_words n

  pub wide_of : (segs : List Segment) → Each (λ (s : Segment). length s ≡ n) segs → Wide record_to_words w segs
  wide_of segs e = each_weaken (λ (s : Segment). length s ≡ n) (λ (s : Segment). length (record_to_words s) ≡ w) (length_record n) segs e

  module _ (ws : List ℕ) (segs : List Segment) (r : EncodesRecords n ws segs) where
    pub records_length : length ws ≡ length segs * w
    records_length = ap length r.words ∙ length_rows record_to_words w segs (wide_of segs r.sized)

    pub records_read : records_in n ws ≡ segs
    unfolding records_in
    records_read =
        ap (λ (l : List ℕ). map (segment_in n) (chunks w l)) r.words
        ∙ chunks_rows record_to_words (segment_in n) w segs (wide_of segs r.sized)
        (each_weaken (λ (s : Segment). length s ≡ n) (λ (s : Segment). segment_in n (record_to_words s) ≡ s) (segment_back n) segs r.sized) (omega arith)

    -- a row that is there is a record's
    pub row_inside : (k : ℕ) → k * w + w ≤ length ws → k < length segs
    row_inside k h = row_below k (length segs) w (omega arith) (omega (arith, records_length))

    module _ (k : ℕ) (h : k < length segs) where
      pub count_at : length (get_or segs k []) ≡ n
      count_at = each_at (λ (s : Segment). length s ≡ n) [] segs r.sized k h

      -- record k's words
      pub row_at : take w (drop (k * w) ws) ≡ record_to_words (get_or segs k [])
      row_at = ap (λ (l : List ℕ). take w (drop (k * w) l)) r.words ∙ row_rows record_to_words w [] segs (wide_of segs r.sized) k h

      pub room_at : k * w + w ≤ length ws
      room_at = omega (arith, records_length, row_room k (length segs) w h)

      -- another record's words in their place
      pub store_at : (seg : Segment) → length seg ≡ n → EncodesRecords n (take (k * w) ws ++ (record_to_words seg ++ drop w (drop (k * w) ws))) (set segs k seg)
      store_at seg hn = record {
        sized = each_set (λ (s : Segment). length s ≡ n) segs k seg r.sized hn;
        words =
            ap (λ (l : List ℕ). take (k * w) l ++ (record_to_words seg ++ drop w (drop (k * w) l))) r.words
            ∙ paste_rows record_to_words w segs (wide_of segs r.sized) k seg h;
      }

      -- as code lends them: from a place, so many
      module _ (at width : ℕ) (ea : at ≡ k * w) (ew : width ≡ w) where
        part_is : at + width - at ≡ w
        part_is = omega arith

        pub part_room : at + width ≤ length ws
        part_room = omega (arith, room_at)

        pub row_part_lem : take (at + width - at) (drop at ws) ≡ record_to_words (get_or segs k [])
        row_part_lem = rw (part_is, ea) row_at

        pub part_length : length (take (at + width - at) (drop at ws)) ≡ w
        part_length = ap length row_part_lem ∙ length_record n (get_or segs k []) count_at

        -- and gets them back
        pub part_put : (seg : Segment) → length seg ≡ n → EncodesRecords n (take at ws ++ (record_to_words seg ++ drop (at + width - at) (drop at ws))) (set segs k seg)
        part_put seg l = rw (part_is, ea) (store_at seg l)

        pub part_again : (row : List ℕ) → length row ≡ w → take (at + width - at) (drop at (take at ws ++ (row ++ drop (at + width - at) (drop at ws)))) ≡ row
        part_again row l = mid_is (take at ws) row (drop (at + width - at) (drop at ws)) _ at (at + width - at) refl (length-take-le at ws (omega (arith, part_room))) (l ∙ sym part_is)

  pub records_count : (words : List ℕ) → length (records_in n words) ≡ length words / w
  unfolding records_in
  records_count words = length-map (chunks w words) (segment_in n) ∙ length_chunks w words

-- ---- EncodesCells

module _ (bytes : ℕ) (pool : List ℕ) (cells : List Block) (r : EncodesCells bytes pool cells) where
  pub cells_length : length pool ≡ length cells * bytes
  cells_length = ap length r.joins ∙ length_joined bytes cells r.blocks

  pub cells_read : 0 < bytes → cells_in bytes pool ≡ cells
  unfolding cells_in
  cells_read h = ap (chunks bytes) r.joins ∙ chunks_joined bytes cells r.blocks h

-- ---- Encodes

module _ (m : Measures) where
  pub storage_read : Measured m → (pool ws : List ℕ) (sh : Storage) → Encodes m pool ws sh → storage_in m pool ws ≡ sh
  unfolding storage_in
  storage_read h pool ws sh d = λ i. record {
    records = records_read m.segment_blocks ws sh.records d.records i;
    cells = cells_read m.block_bytes pool sh.cells d.cells (omega (arith, h.some_bytes)) i;
  }

  -- the storage's records
  pub records_of : (pool ws : List ℕ) → (storage_in m pool ws).records ≡ records_in m.segment_blocks ws
  unfolding storage_in
  records_of pool ws = refl

  -- and its cells
  pub cells_of : (pool ws : List ℕ) → (storage_in m pool ws).cells ≡ cells_in m.block_bytes pool
  unfolding storage_in
  cells_of pool ws = refl

  -- ---- Stored

  pub stored_records : {pool words : List ℕ} → Stored m pool words → EncodesRecords m.segment_blocks words (records_in m.segment_blocks words)
  unfolding storage_in
  stored_records s = s.encodes.records

  -- a step's result is stored again
  pub stored_again : (pool ws p w : List ℕ) (sh : Storage) → Stored m pool ws → Encodes m p w sh → Exact sh → length p ≡ length pool → length w ≡ length ws → Stored m p w
  stored_again pool ws p w sh s d x lp lw =
      let e : storage_in m p w ≡ sh = storage_read s.measured p w sh d in
      record {
        measured = s.measured;
        encodes = subst (λ (t : Storage). Encodes m p w t) (sym e) d;
        exact = subst (λ (t : Storage). Exact t) (sym e) x;
        some = omega (arith, s.some);
        few = omega (arith, s.few);
        short = omega (arith, s.short);
      }
