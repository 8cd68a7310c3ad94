-- Segment by segment: what is placed, what is left, and how it is taken back.
use mathlib.Core.Path.{◌∙◌, ◌≡◌, ap, ap₂, refl, subst, sym}
use mathlib.Core.Bool.{Bool}
use mathlib.Core.List.{List, [], ◌++◌, ◌∷◌, append_assoc, map, map-append}
use Prim.Native.Nat.{◌*◌, ◌+◌, ◌-◌, ◌<◌, ◌≤◌, suc, zero, ℕ}
use native.Mathlib.Nat.{zero-mul}
use native.Mathlib.Numerals.{add-one}
use native.Mathlib.Omega.{arith}
use lib.ListN.{drop, get_or, length, length-append, length-drop, length-set, set, take}
use lib.Seq.{get_or-set_other, get_or-set_same, length-take-le, take_all, take_at}
use Rattle.lists.proofs.Places.{row_next, row_room}
use Rattle.model.specs.Image.{blocks_from, image_segments, segments_from, with_blanks}
use Rattle.model.specs.Measures.{Measures}
use Rattle.model.specs.Place.{Placed, after_some, place_all, place_next, place_segment}
use Rattle.model.specs.Runs.{free_cells}
use Rattle.model.specs.State.{Block, Outcome, Pointer, Storage, done, refused}
use Rattle.model.specs.Table.{pointer_word, records_in, storage_in}
use Rattle.laws.proofs.Measures.{parts_few, parts_least}
use Rattle.laws.specs.Ranges.{Measured}
use Rattle.numbers.proofs.Products.{segment_some}
use Rattle.storage.specs.Stored.{Countable, Stored, Encodes}
use Rattle.storage.proofs.Read.{records_of, storage_read, stored_again}
use Rattle.place_segment.specs.Results.{SegmentResult, SegmentDone}
use Rattle.place_free.specs.Free.{RestFree}
use Rattle.place_undo.specs.Undo.{undo_record, undo_upto}
use Rattle.place.specs.All.{PlaceResult, placed_in, segments_in}
use Rattle.place.proofs.Keeping.{counts_wider, placed_counts, placed_exact}
use Rattle.place.proofs.Rest.{rest_after}

-- ---- the records of the placings

upto_set : (m : Measures) (placed : List ℕ) (j k r : ℕ) (s : Storage) → k ≤ j → undo_upto m (set placed j r) k s ≡ undo_upto m placed k s
unfolding undo_upto
upto_set m placed j zero r s h = refl
upto_set m placed j (suc k) r s h =
    rw (get_or-set_other placed j k r 0 (λ e. omega arith)) (upto_set m placed j k r (undo_record m s (get_or placed k 0)) (omega arith))

-- one placing more
upto_more : (m : Measures) (placed : List ℕ) (j r : ℕ) → j < length placed → (s t : Storage) → undo_record m t r ≡ s → undo_upto m (set placed j r) (j + 1) t ≡ undo_upto m placed j s
unfolding undo_upto
upto_more m placed j r h s t e = rw (add-one j, get_or-set_same placed j r 0 h, e) (upto_set m placed j j r s (omega arith))

-- ---- the words: w in place of the n from `at` on

module _ (words w : List ℕ) (at n : ℕ) (h : at + n ≤ length words) (e : length w ≡ n) where
  words_more : take (at + n) (take at words ++ (w ++ drop n (drop at words))) ≡ take at words ++ w
  words_more =
      let p : length (take at words ++ w) ≡ at + n = rw (length-append (take at words) w) (omega (arith, length-take-le at words (omega arith))) in
      ap (take (at + n)) (sym (append_assoc (take at words) w (drop n (drop at words)))) ∙ take_at (take at words ++ w) (drop n (drop at words)) (at + n) p

  words_same : length (take at words ++ (w ++ drop n (drop at words))) ≡ length words
  words_same =
      length-append (take at words) (w ++ drop n (drop at words))
      ∙ (let y : length (take at words) + length (w ++ drop n (drop at words)) ≡ length words =
      omega (arith, length-append w (drop n (drop at words)), length-take-le at words (omega arith), length-drop n (drop at words), length-drop at words) in y)

-- ---- the segments

-- of n segments j are done: the next one, and those after it
segments_next : (bytes k : ℕ) (image : List ℕ) (at n j : ℕ) → j < n → segments_from bytes k image at (n - j) ≡ blocks_from bytes image at k ∷ segments_from bytes k image (at + k * bytes) (n - (j + 1))
unfolding segments_from
segments_next bytes k image at n j h = let e : n - j ≡ suc (n - (j + 1)) = omega arith in rw e

all_refused_lem : (n : ℕ) (segs : List (List Block)) → place_all with_blanks (refused n) segs ≡ refused n
unfolding place_all place_next
all_refused_lem n [] = refl
all_refused_lem n (seg ∷ segs) = all_refused_lem n segs

module _ (m : Measures) (image : List ℕ) (ok : Measured m) where
  abbrev width : ℕ
  width = m.segment_blocks * m.block_bytes

  some_width : 256 ≤ width
  some_width = segment_some m.segment_blocks m.block_bytes ok.some_blocks ok.some_bytes

  -- at most 256
  pub few_segments : length image ≤ 65536 → segments_in m image ≤ 256
  few_segments h = parts_least width (length image) 256 (omega (arith, some_width)) (omega (arith, some_width))

  -- each begins within the image
  pub segment_begins : length image ≤ 65536 → (j : ℕ) → j < segments_in m image → j * width < 65536
  segment_begins h j l = omega (arith, parts_few width (length image) (omega (arith, some_width)), row_room j (segments_in m image) width l)

-- `j` segments are placed
pub record Along (m : Measures) (image pool₀ ws₀ : List ℕ) (free₀ : List Bool) (placed₀ words₀ : List ℕ) (n used : ℕ) (pool ws : List ℕ) (free : List Bool) (placed words : List ℕ) (j : ℕ) : Type 0 where
  pub all : n ≡ segments_in m image
  pub pointers : List Pointer
  pub stored : Stored m pool ws
  pub counts : Countable (2147483648 + j) (records_in m.segment_blocks ws)
  pub cells : free ≡ free_cells (storage_in m pool ws)
  pub rest : RestFree (used + j) (records_in m.segment_blocks ws)
  pub written : take (j * m.segment_blocks) words ≡ map pointer_word pointers
  pub left : place_all with_blanks (done (record { storage = storage_in m pool ws; pointers = pointers })) (segments_from m.block_bytes m.segment_blocks image (j * (m.segment_blocks * m.block_bytes)) (n - j)) ≡ placed_in m image pool₀ ws₀
  pub back : undo_upto m placed j (storage_in m pool ws) ≡ storage_in m pool₀ ws₀
  pub same_pool : length pool ≡ length pool₀
  pub same_table : length ws ≡ length ws₀
  pub same_free : length free ≡ length free₀
  pub same_placed : length placed ≡ length placed₀
  pub same_words : length words ≡ length words₀

pub along_start : (m : Measures) (image pool ws : List ℕ) (free : List Bool) (placed words : List ℕ) (n used : ℕ) → n ≡ segments_in m image → Stored m pool ws → Countable 2147483648 (records_in m.segment_blocks ws)
    → free ≡ free_cells (storage_in m pool ws) → RestFree used (records_in m.segment_blocks ws) → Along m image pool ws free placed words n used pool ws free placed words 0
unfolding undo_upto image_segments
along_start m image pool ws free placed words n used e st k c r = record {
  all = e;
  pointers = [];
  stored = st;
  counts = counts_wider 2147483648 _ k (2147483648 + 0) (omega arith);
  cells = c;
  rest = λ j h l. r j (omega arith) l;
  written = rw zero-mul;
  left = let z : n - 0 ≡ segments_in m image = omega arith in rw (z, zero-mul);
  back = refl;
  same_pool = refl;
  same_table = refl;
  same_free = refl;
  same_placed = refl;
  same_words = refl;
}

module _ {m : Measures} {image pool₀ ws₀ : List ℕ} {free₀ : List Bool} {placed₀ words₀ : List ℕ} {n used : ℕ} {pool ws : List ℕ} {free : List Bool} {placed words : List ℕ} {j : ℕ}
    (a : Along m image pool₀ ws₀ free₀ placed₀ words₀ n used pool ws free placed words j) where
  abbrev s : Storage
  s = storage_in m pool ws

  abbrev k : ℕ
  k = m.segment_blocks

  -- the next segment's first byte, and the first of its words
  abbrev from : ℕ
  from = j * (k * m.block_bytes)

  abbrev first : ℕ
  first = j * k

  abbrev seg : List Block
  seg = blocks_from m.block_bytes image from k

  -- one more
  step_left : j < n → place_all with_blanks (after_some a.pointers (place_segment with_blanks s seg)) (segments_from m.block_bytes k image (from + k * m.block_bytes) (n - (j + 1))) ≡ placed_in m image pool₀ ws₀
  unfolding place_all place_next
  step_left h = rw (segments_next m.block_bytes k image from n j h) at a.left

  -- it begins within the image
  pub along_begins : j < n → length image ≤ 65536 → (width : ℕ) → width ≡ k * m.block_bytes → j * width < 65536
  along_begins h short width e = rw e (segment_begins m image a.stored.measured short j (omega (arith, a.all)))

  -- there are few of them
  pub along_few : j < n → length image ≤ 65536 → j < 256
  along_few h short = omega (arith, a.all, few_segments m image a.stored.measured short)

  -- room for the next segment's pointers
  pub along_room : j < n → length words₀ ≡ segments_in m image * k → first + k ≤ length words
  along_room h hw = omega (arith, hw, a.same_words, ap (λ (x : ℕ). x * k) a.all, row_room j n k h)

  module _ (h : j < n) (hp : j < length placed₀) (hw : length words₀ ≡ segments_in m image * k) where
    pub along_step : (i : ℕ) (pool' ws' : List ℕ) (free' : List Bool) (w : List ℕ) → length pool' ≡ length pool → length ws' ≡ length ws → length free' ≡ length free → length w ≡ k
        → SegmentResult m s (place_segment with_blanks s seg) 0 i pool ws pool' ws' free' w
        → Along m image pool₀ ws₀ free₀ placed₀ words₀ n used pool' ws' free' (set placed j i) (take first words ++ (w ++ drop k (drop first words))) (j + 1)
    unfolding after_some
    along_step i pool' ws' free' w np nw nf lw d = go (place_segment with_blanks s seg) refl d
      where
        go : (o : Outcome Placed) → place_segment with_blanks s seg ≡ o → SegmentResult m s o 0 i pool ws pool' ws' free' w
            → Along m image pool₀ ws₀ free₀ placed₀ words₀ n used pool' ws' free' (set placed j i) (take first words ++ (w ++ drop k (drop first words))) (j + 1)
        go (refused x) e q = absurd (omega (arith, q.0, q.1))
        go (done p) e q =
            let f : SegmentDone m s p i pool' ws' free' w = q.1 in
            let b : storage_in m pool' ws' ≡ p.storage = storage_read m a.stored.measured pool' ws' p.storage f.encodes in
            let br : records_in k ws' ≡ p.storage.records = sym (records_of m pool' ws') ∙ ap (λ (x : Storage). x.records) b in
            let lo : first + k ≤ length words = along_room h hw in
            record {
              all = a.all;
              pointers = a.pointers ++ p.pointers;
              stored = stored_again m pool ws pool' ws' p.storage a.stored f.encodes (placed_exact s a.stored.exact seg p e) np nw;
              counts =
                  let y : 2147483648 + j + 1 ≡ 2147483648 + (j + 1) = omega arith in
                  rw br (subst (λ (x : ℕ). Countable x p.storage.records) y (placed_counts (2147483648 + j) s (omega arith) (rw (records_of m pool ws) a.counts) seg p e));
              cells = f.cells ∙ ap free_cells (sym b);
              rest = rw br (λ x l y. rest_after s seg (used + j) (rw (records_of m pool ws) a.rest) p e x (omega arith) y);
              written = rw (row_next j k) (words_more words w first k lo lw ∙ ap₂ (λ (x y : List ℕ). x ++ y) a.written f.pointers ∙ sym (map-append pointer_word a.pointers p.pointers));
              left = rw (b, row_next j (k * m.block_bytes)) (rw e at (step_left h));
              back = rw b (upto_more m placed j i (omega (arith, a.same_placed)) s p.storage f.undo ∙ a.back);
              same_pool = np ∙ a.same_pool;
              same_table = nw ∙ a.same_table;
              same_free = nf ∙ a.same_free;
              same_placed = length-set placed j i ∙ a.same_placed;
              same_words = words_same words w first k lo lw ∙ a.same_words;
            }

  -- refused: the buffers are as they were before this segment
  pub along_stop : j < n → (r i : ℕ) (pool' ws' : List ℕ) (free' : List Bool) (w : List ℕ) → SegmentResult m s (place_segment with_blanks s seg) r i pool ws pool' ws' free' w → 0 < r
      → (pool' ≡ pool) × (ws' ≡ ws) × (placed_in m image pool₀ ws₀ ≡ refused r)
  unfolding after_some
  along_stop h r i pool' ws' free' w d z = go (place_segment with_blanks s seg) refl d
    where
      go : (o : Outcome Placed) → place_segment with_blanks s seg ≡ o → SegmentResult m s o r i pool ws pool' ws' free' w → (pool' ≡ pool) × (ws' ≡ ws) × (placed_in m image pool₀ ws₀ ≡ refused r)
      go (refused x) e q =
          (q.2, q.3, sym (rw e at (step_left h)) ∙ all_refused_lem x (segments_from m.block_bytes k image (from + k * m.block_bytes) (n - (j + 1))) ∙ ap {B = Outcome Placed} (λ (y : ℕ). refused y) (sym q.0))
      go (done p) e q = absurd (omega (arith, z, q.0))

  -- and those before it are taken back
  pub along_undone : Stored m pool₀ ws₀ → (r : ℕ) (pool' ws' pool'' ws'' words' : List ℕ) (free' : List Bool) → pool' ≡ pool → ws' ≡ ws → placed_in m image pool₀ ws₀ ≡ refused r
      → Encodes m pool'' ws'' (undo_upto m placed j (storage_in m pool' ws')) → PlaceResult m image (placed_in m image pool₀ ws₀) r pool₀ ws₀ pool'' ws'' placed words' free'
  along_undone st r pool' ws' pool'' ws'' words' free' ep ew f t =
      let d : Encodes m pool'' ws'' (storage_in m pool₀ ws₀) = rw (ep, ew, a.back) at t in
      rw f (refl, d.cells.joins ∙ sym st.encodes.cells.joins, d.records.words ∙ sym st.encodes.records.words)

  pub along_end : j ≡ n → n ≤ 256 → length words₀ ≡ segments_in m image * k → PlaceResult m image (placed_in m image pool₀ ws₀) 0 pool₀ ws₀ pool ws placed words free
  unfolding segments_from place_all
  along_end e few hw =
      let z : n - j ≡ 0 = omega arith in
      let f : done (record { storage = s; pointers = a.pointers }) ≡ placed_in m image pool₀ ws₀ = rw z at a.left in
      rw (← f) (
        refl,
        record {
          encodes = a.stored.encodes;
          pointers = sym (take_all first words (omega (arith, a.same_words, ap (λ (x : ℕ). x * k) (e ∙ a.all)))) ∙ a.written;
          counts = rw (records_of m pool ws) (counts_wider _ _ a.counts 2147483904 (omega (arith, e, few)));
          cells = a.cells;
          back = ap (λ (x : ℕ). undo_upto m placed x s) (sym (e ∙ a.all)) ∙ a.back;
        },
      )
