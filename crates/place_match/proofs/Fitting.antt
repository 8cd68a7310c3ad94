-- The records whose masks fit a segment's, and those passed by, which do not equal it.
use mathlib.Core.Path.{◌∙◌, ◌≡◌, ap, refl, sym}
use mathlib.Core.Bool.{Bool, false, true}
use mathlib.Core.List.{List, []}
use Prim.Native.Nat.{◌*◌, ◌+◌, ◌-◌, ◌<◌, ◌≤◌, ℕ}
use native.Mathlib.Nat.{mul-le-mul_right}
use native.Mathlib.Omega.{arith}
use lib.ListN.{drop, get_or, length, take}
use Rattle.lists.specs.Lists.{all_zero, first_from}
use Rattle.lists.proofs.Puts.{first_no, same_over}
use Rattle.lists.proofs.Slices.{part_get}
use Rattle.lists.proofs.Uses.{uses_in}
use Rattle.model.specs.Image.{blocks_from, with_blanks}
use Rattle.model.specs.Measures.{Measures, record_words}
use Rattle.model.specs.Records.{cell_at, cell_of, equals, is_held, named_cells}
use Rattle.model.specs.State.{Block, Segment, null_position}
use Rattle.model.specs.Table.{record_to_words, records_in, storage_in}
use Rattle.laws.proofs.Named.{named_full}
use Rattle.laws.proofs.Place.{held_named}
use Rattle.laws.proofs.Sweep.{named_one}
use Rattle.storage.specs.Stored.{Stored}
use Rattle.storage.proofs.Inside.{stored_words}
use Rattle.storage.proofs.Read.{row_at, stored_records}
use Rattle.storage.proofs.Row.{blank_word, held_word, removed_word}
use Rattle.place_words.specs.Marks.{blank_mask, stored_mask}
use Rattle.place_match.specs.Fit.{RowFits}
use Rattle.place_match.proofs.Blank.{each_some}
use Rattle.place_match.proofs.Matching.{equal_blank, equal_less, equal_more, equal_whole}

-- a word of a row, as code lends it
pub row_word : (ws : List ℕ) (at width i : ℕ) → i < width → get_or (take (at + width - at) (drop at ws)) i 0 ≡ get_or ws (at + i) 0
row_word ws at width i h = part_get ws at (at + width - at) i 0 (omega arith)

module _ {m : Measures} {pool ws : List ℕ} (st : Stored m pool ws) (width : ℕ) (ew : width ≡ record_words m.segment_blocks) where
  abbrev segs : List Segment
  segs = records_in m.segment_blocks ws

  pub rows_room : (k : ℕ) → k ≤ length segs → k * width ≤ length ws
  rows_room k h = let p : k * width ≤ length segs * width = mul-le-mul_right width h in omega (arith, p, stored_words st, ap (λ (w : ℕ). length segs * w) ew)

  -- a cell that is named is occupied
  held_full : (k i : ℕ) → is_held (get_or (get_or segs k []) i null_position) ≡ true → all_zero (cell_at (storage_in m pool ws) (cell_of (get_or (get_or segs k []) i null_position))) ≡ false
  unfolding storage_in
  held_full k i e =
      let c : ℕ = cell_of (get_or (get_or segs k []) i null_position) in
      (named_full (storage_in m pool ws) st.exact c).0 (uses_in c (named_cells segs) (omega (arith, held_named (get_or segs k []) i e, named_one c segs k)))

  word_at : (k i : ℕ) → k < length segs → i < width → get_or ws (k * width + i) 0 ≡ get_or (record_to_words (get_or segs k [])) i 0
  word_at k i h l =
      let row : take width (drop (k * width) ws) ≡ record_to_words (get_or segs k []) = rw ew (row_at m.segment_blocks ws segs (stored_records m st) k h) in
      sym (part_get ws (k * width) width i 0 l) ∙ ap (λ (r : List ℕ). get_or r i 0) row

  module _ (image : List ℕ) (from mask blank : ℕ) (em : mask ≡ stored_mask (blocks_from m.block_bytes image from m.segment_blocks)) (eb : blank ≡ blank_mask (blocks_from m.block_bytes image from m.segment_blocks)) where
    abbrev bs : List Block
    bs = blocks_from m.block_bytes image from m.segment_blocks

    abbrev test : Segment → Bool
    test = equals with_blanks (storage_in m pool ws) bs

    fits : (k : ℕ) → k < length segs → test (get_or segs k []) ≡ true → RowFits mask blank ws (k * width)
    fits k h e =
        let seg : Segment = get_or segs k [] in
        let z : k * width + 0 ≡ k * width = omega arith in
        record {
          stored = omega (arith, em, rw z at (word_at k 0 h (omega arith)), held_word seg, equal_more (storage_in m pool ws) bs seg e, equal_less (storage_in m pool ws) bs seg (held_full k) e);
          whole = word_at k 1 h (omega arith) ∙ removed_word seg ∙ equal_whole (storage_in m pool ws) bs seg e;
          same = word_at k 2 h (omega arith) ∙ blank_word seg ∙ equal_blank (storage_in m pool ws) bs seg (each_some m.block_bytes image (omega (arith, st.measured.some_bytes)) from m.segment_blocks) e ∙ sym eb;
        }

    unfit : (k : ℕ) → k < length segs → (RowFits mask blank ws (k * width) → ⊥) → false ≡ test (get_or segs k [])
    unfit k h n = go (test (get_or segs k [])) refl
      where
        go : (t : Bool) → test (get_or segs k []) ≡ t → false ≡ t
        go true e = absurd (n (fits k h e))
        go false e = refl

    -- past records whose masks do not fit
    pub match_next : (k r : ℕ) → k ≤ r → r ≤ length segs → ((j : ℕ) → j < r → k ≤ j → RowFits mask blank ws (j * width) → ⊥) → first_from test k (drop k segs) ≡ first_from test r (drop r segs)
    match_next k r l h g = same_over (λ j. first_from test j (drop j segs)) k r l (λ j i q. first_no test [] segs j (omega arith) (unfit j (omega arith) (g j q i)))
