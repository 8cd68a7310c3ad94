-- A record's tally, a row further, and the records of a sound store.
use mathlib.Core.Path.{◌≡◌, refl, sym, ap, ◌∙◌, subst}
use mathlib.Core.Bool.{cond, not}
use mathlib.Core.List.{List, [], ◌∷◌, map}
use Prim.Native.Nat.{ℕ, zero, suc, ◌+◌, ◌*◌, ◌-◌, ◌/◌, ◌≤◌, ◌<◌}
use native.Mathlib.Nat.{zero-add, add-zero, zero-mul, suc-mul, mul-le-mul, mul-le-mul_right}
use native.Mathlib.Omega.{arith}
use lib.ListN.{length, get_or, take, drop, length-append, length-map}
use lib.Count.{ones}
use lib.Seq.{drop_at, drop-drop, get_or-take, get_or-drop}
use Rattle.lists.specs.Lists.{every, count, total}
use Rattle.lists.specs.Each.{Each}
use Rattle.lists.specs.Masks.{mask_of}
use Rattle.lists.specs.Rows.{joined, rows}
use Rattle.lists.proofs.Counts.{count_most, sum_map}
use Rattle.lists.proofs.Masks.{ones_mask}
use Rattle.lists.proofs.Places.{rows_few}
use Rattle.lists.proofs.Slices.{drop_next, drop_end, tail_all}
use Rattle.model.specs.Measures.{Measures, record_words, records_at}
use Rattle.model.specs.State.{null_position, blank_position, held, removed, Segment}
use Rattle.model.specs.Records.{is_held, is_removed, is_free, cell_of, cells_of, named_cells, count_of, is_blank_position}
use Rattle.model.specs.Table.{record_to_words, segment_in, records_in, shape_of, state_in, storage_in, records_part}
use Rattle.model.specs.Calls.{TallyAnswer, tally_in, tally_of}
use Rattle.laws.proofs.Bounds.{counts_most}
use Rattle.laws.proofs.RoundTrip.{length_record, segment_back, records_part_lem}
use Rattle.laws.specs.Stores.{Sound}
use Rattle.laws.proofs.Stores.{header, found, fit, fits}
use Rattle.storage.specs.Stored.{EncodesRecords}
use Rattle.storage.proofs.Read.{records_length, records_count, count_at, row_at}
use Rattle.tally.specs.declared.Tallied.{Tallied}
use Rattle.tally.specs.Answers.{sum, in_use, TallyRow, TallyOfRecord, TallyRows, tally_of_records}

-- the first k records are counted
pub record Going (segs : List Segment) (k c r n : ℕ) : Type 0 where
  pub inside : k ≤ length segs
  pub cells : c + length (named_cells (drop k segs)) ≡ length (named_cells segs)
  pub records : r + count (λ seg. not (is_free seg)) (drop k segs) ≡ count (λ seg. not (is_free seg)) segs
  pub counts : n + total (total count_of) (drop k segs) ≡ total (total count_of) segs

-- ---- one record

pub in_use_held : (h r b : ℕ) → (h ≡ 0 → ⊥) → ◌≡◌ {A = ℕ} 1 (in_use h r b)
in_use_held zero r b n = absurd (n refl)
in_use_held (suc h) r b n = refl

pub in_use_removed : (h r b : ℕ) → (r ≡ 0 → ⊥) → ◌≡◌ {A = ℕ} 1 (in_use h r b)
in_use_removed zero zero b n = absurd (n refl)
in_use_removed zero (suc r) b n = refl
in_use_removed (suc h) r b n = refl

pub in_use_blank : (h r b : ℕ) → (b ≡ 0 → ⊥) → ◌≡◌ {A = ℕ} 1 (in_use h r b)
in_use_blank zero zero zero n = absurd (n refl)
in_use_blank zero zero (suc b) n = refl
in_use_blank zero (suc r) b n = refl
in_use_blank (suc h) r b n = refl

held_cells : (seg : Segment) → count is_held seg ≡ length (cells_of seg)
unfolding count cells_of
held_cells [] = refl
held_cells (null_position ∷ seg) = omega (arith, held_cells seg)
held_cells (blank_position ∷ seg) = omega (arith, held_cells seg)
held_cells (held c n ∷ seg) = omega (arith, held_cells seg)
held_cells (removed ∷ seg) = omega (arith, held_cells seg)

-- twice the masks, with a null position in front
double : (h r b : ℕ) → in_use (0 + 2 * h) (0 + 2 * r) (0 + 2 * b) ≡ in_use h r b
double zero zero zero = refl
double zero zero (suc b) = sym (in_use_blank 0 0 (0 + 2 * suc b) (λ z. omega arith))
double zero (suc r) b = sym (in_use_removed 0 (0 + 2 * suc r) (0 + 2 * b) (λ z. omega arith))
double (suc h) r b = sym (in_use_held (0 + 2 * suc h) (0 + 2 * r) (0 + 2 * b) (λ z. omega arith))

use_free : (seg : Segment) → in_use (mask_of is_held seg) (mask_of is_removed seg) (mask_of is_blank_position seg) ≡ cond (not (is_free seg)) 1 0
unfolding mask_of is_free every
use_free [] = refl
use_free (null_position ∷ seg) = double (mask_of is_held seg) (mask_of is_removed seg) (mask_of is_blank_position seg) ∙ use_free seg
use_free (blank_position ∷ seg) = sym (in_use_blank (0 + 2 * mask_of is_held seg) (0 + 2 * mask_of is_removed seg) (1 + 2 * mask_of is_blank_position seg) (λ z. omega arith))
use_free (held c n ∷ seg) = sym (in_use_held (1 + 2 * mask_of is_held seg) (0 + 2 * mask_of is_removed seg) (0 + 2 * mask_of is_blank_position seg) (λ z. omega arith))
use_free (removed ∷ seg) = sym (in_use_removed (0 + 2 * mask_of is_held seg) (1 + 2 * mask_of is_removed seg) (0 + 2 * mask_of is_blank_position seg) (λ z. omega arith))

module _ (n : ℕ) (row : List ℕ) (h : TallyRow n row) where
  abbrev seg : Segment
  seg = segment_in n row

  pub row_long : length row ≡ record_words n
  row_long = ap length h.words ∙ length_record n seg h.sized

  row_counts : drop (3 + n) row ≡ map count_of seg
  unfolding record_to_words
  row_counts = sym (drop-drop n 3 row) ∙ ap (λ (ws : List ℕ). drop n (drop 3 ws)) h.words ∙ drop_at (map cell_of seg) (map count_of seg) n (length-map seg cell_of ∙ h.sized)

  counts_part : take (length row - (3 + n)) (drop (3 + n) row) ≡ map count_of seg
  counts_part = tail_all row (3 + n) ∙ row_counts

  pub counts_sum : sum (take (length row - (3 + n)) (drop (3 + n) row)) ≡ total count_of seg
  counts_sum = ap sum counts_part ∙ sum_map count_of seg

  pub counts_few : sum (take (length row - (3 + n)) (drop (3 + n) row)) ≤ 1048576
  counts_few = omega (arith, counts_sum, h.few)

  pub row_counted : (r k : ℕ) → r ≡ in_use (get_or row 0 0) (get_or row 1 0) (get_or row 2 0) → k ≡ sum (take (length row - (3 + n)) (drop (3 + n) row))
      → TallyOfRecord seg (record { cells = ones (get_or row 0 0); records = r; counts = k })
  unfolding record_to_words
  row_counted r k e f = record {
    cells = ap (λ (ws : List ℕ). ones (get_or ws 0 0)) h.words ∙ ones_mask is_held seg ∙ held_cells seg;
    records = e ∙ ap (λ (ws : List ℕ). in_use (get_or ws 0 0) (get_or ws 1 0) (get_or ws 2 0)) h.words ∙ use_free seg;
    counts = f ∙ counts_sum;
  }

-- ---- all records

cells_most : (seg : Segment) → length (cells_of seg) ≤ length seg
cells_most seg = omega (arith, held_cells seg, count_most is_held seg)

named_most : (n : ℕ) (segs : List Segment) → Each (λ (s : Segment). length s ≡ n) segs → length (named_cells segs) ≤ length segs * n
unfolding named_cells joined
named_most n [] h = omega (arith, zero-mul n)
named_most n (x ∷ xs) h = omega (arith, length-append (cells_of x) (rows cells_of xs), named_most n xs h.1, cells_most x, h.0, suc-mul (length xs) n)

named_next : (x : Segment) (xs : List Segment) → length (named_cells (x ∷ xs)) ≡ length (cells_of x) + length (named_cells xs)
unfolding named_cells joined
named_next x xs = length-append (cells_of x) (rows cells_of xs)

total_one : (k : ℕ) (xs : List Segment) → k < length xs → total count_of (get_or xs k []) ≤ total (total count_of) xs
unfolding total
total_one k [] h = absurd (omega arith)
total_one zero (x ∷ xs) h = omega arith
total_one (suc k) (x ∷ xs) h = omega (arith, total_one k xs (omega (arith, h)))

-- rows of w words, as the code has their width
module _ (n w : ℕ) (ew : w ≡ record_words n) (most : n ≤ 16) (ws : List ℕ) (h : TallyRows n ws) where
  abbrev segs : List Segment
  segs = records_in n ws

  pub going_start : Going segs 0 0 0 0
  going_start = record { inside = omega arith; cells = zero-add _; records = zero-add _; counts = zero-add _ }

  count_is : length segs ≡ length ws / w
  count_is = rw ew (records_count n ws)

  few_records : length segs ≤ 4096
  few_records = omega (arith, records_count n ws, rows_few (length ws) (record_words n) (omega arith) 4096 h.short)

  module _ (k : ℕ) (l : k < length ws / w) where
    abbrev row : List ℕ
    row = take w (drop (k * w) ws)

    inside : k < length segs
    inside = omega (arith, l, count_is)

    row_is : row ≡ record_to_words (get_or segs k [])
    row_is = rw ew (row_at n ws segs h.encodes k inside)

    segment_is : segment_in n row ≡ get_or segs k []
    segment_is = ap (segment_in n) row_is ∙ segment_back n (get_or segs k []) (count_at n ws segs h.encodes k inside)

    pub row_at_k : TallyRow n row
    row_at_k = record {
      sized = ap length segment_is ∙ count_at n ws segs h.encodes k inside;
      words = row_is ∙ ap record_to_words (sym segment_is);
      few = omega (arith, ap (total count_of) segment_is, total_one k segs inside, h.few);
    }

    -- the row's first word is its mask of held positions
    mask_is : get_or ws (k * w) 0 ≡ mask_of is_held (get_or segs k [])
    unfolding record_to_words
    mask_is =
        sym (get_or-take w (drop (k * w) ws) 0 0 (omega (arith, ew)) ∙ get_or-drop (k * w) ws 0 0 ∙ ap (λ (j : ℕ). get_or ws j 0) (add-zero (k * w)))
        ∙ ap (λ (xs : List ℕ). get_or xs 0 0) row_is

    pub cells_next : (c : ℕ) → c + length (named_cells (drop k segs)) ≡ length (named_cells segs)
        → ((c + ones (get_or ws (k * w) 0)) + length (named_cells (drop (k + 1) segs)) ≡ length (named_cells segs)) × (c + ones (get_or ws (k * w) 0) ≤ 65536)
    cells_next c g =
        let d = ap (λ (xs : List Segment). length (named_cells xs)) (drop_next segs k [] inside) in
        let o : ones (get_or ws (k * w) 0) ≡ length (cells_of (get_or segs k [])) = ap ones mask_is ∙ ones_mask is_held (get_or segs k []) ∙ held_cells (get_or segs k []) in
        let e = named_next (get_or segs k []) (drop (k + 1) segs) in
        (omega (arith, g, d, o, e), omega (arith, g, d, o, e, named_most n segs h.encodes.sized, mul-le-mul few_records most))

    module _ (c r m : ℕ) (g : Going segs k c r m) (one : Tallied) (o : TallyOfRecord (segment_in n row) one) where
      next : drop k segs ≡ get_or segs k [] ∷ drop (k + 1) segs
      next = drop_next segs k [] inside

      pub going_next : Going segs (k + 1) (c + one.cells) (r + one.records) (m + one.counts)
      unfolding count total
      going_next = record {
        inside = omega (arith, inside);
        cells = omega (arith, g.cells, ap (λ (xs : List Segment). length (named_cells xs)) next, named_next (get_or segs k []) (drop (k + 1) segs), o.cells, ap (λ (s : Segment). length (cells_of s)) segment_is);
        records = omega (arith, g.records, ap (count (λ seg. not (is_free seg))) next, o.records, ap {B = ℕ} (λ (s : Segment). cond (not (is_free s)) 1 0) segment_is);
        counts = omega (arith, g.counts, ap (total (total count_of)) next, o.counts, ap (total count_of) segment_is);
      }

      pub going_small : (c + one.cells ≤ 65536) × (r + one.records ≤ 4096) × (m + one.counts ≤ 1048576)
      going_small = (
        omega (arith, going_next.cells, named_most n segs h.encodes.sized, mul-le-mul few_records most),
        omega (arith, going_next.records, count_most (λ (s : Segment). not (is_free s)) segs, few_records),
        omega (arith, going_next.counts, h.few),
      )

  pub going_end : (k c r m : ℕ) → length ws / w ≤ k → Going segs k c r m → record { refusal = 0; cells = c; records = r; counts = m } ≡ tally_of_records segs
  unfolding count total named_cells joined
  going_end k c r m l g =
      let d : drop k segs ≡ [] = drop_end segs k (omega (arith, l, count_is)) in
      let a : c ≡ length (named_cells segs) = omega (arith, g.cells, ap (λ (xs : List Segment). length (named_cells xs)) d) in
      let b : r ≡ count (λ seg. not (is_free seg)) segs = omega (arith, g.records, ap (count (λ seg. not (is_free seg))) d) in
      let e : m ≡ total (total count_of) segs = omega (arith, g.counts, ap (total (total count_of)) d) in
      λ i. record { refusal = 0; cells = a i; records = b i; counts = e i }

  pub cells_end : (k c : ℕ) → length ws / w ≤ k → c + length (named_cells (drop k segs)) ≡ length (named_cells segs) → (c ≡ length (named_cells segs)) × (c ≤ 65536)
  unfolding named_cells joined
  cells_end k c l g =
      let d : drop k segs ≡ [] = drop_end segs k (omega (arith, l, count_is)) in
      let a = ap (λ (xs : List Segment). length (named_cells xs)) d in
      (omega (arith, g, a), omega (arith, g, a, named_most n segs h.encodes.sized, mul-le-mul few_records most))

-- ---- a sound store

module _ {pool table : List ℕ} (h : Sound pool table) (at : ℕ) (e : at ≡ records_at (shape_of table).capacities) where
  abbrev positions : ℕ
  positions = (shape_of table).measures.segment_blocks

  lent_is : take (length table - at) (drop at table) ≡ drop (records_at (shape_of table).capacities) table
  lent_is = tail_all table at ∙ ap (λ (k : ℕ). drop k table) e

  records_are : records_in positions (take (length table - at) (drop at table)) ≡ (state_in (shape_of table) pool table).storage.records
  unfolding state_in storage_in
  records_are = ap (records_in positions) lent_is

  encodes : EncodesRecords positions (take (length table - at) (drop at table)) (state_in (shape_of table) pool table).storage.records
  unfolding shape_of
  encodes = record {
    sized = (fits h).records;
    words =
        lent_is
        ∙ subst (λ (ws : List ℕ). records_part (shape_of table).capacities ws ≡ rows record_to_words (state_in (shape_of table) pool table).storage.records) (found h).words
        (records_part_lem (shape_of table) (state_in (shape_of table) pool table) (fits h));
  }

  rows_of : TallyRows positions (take (length table - at) (drop at table))
  unfolding shape_of
  rows_of = record {
    encodes = subst (λ (xs : List Segment). EncodesRecords positions (take (length table - at) (drop at table)) xs) (sym records_are) encodes;
    short =
        let w : ℕ = record_words positions in
        let m : get_or table 3 0 * w ≤ 4096 * w = mul-le-mul_right w (header h).records in
        omega (arith, m, records_length positions _ _ encodes ∙ ap (λ (k : ℕ). k * w) (fits h).record_count);
    few = omega (arith, ap (total (total count_of)) records_are, counts_most (shape_of table) (fit h) (state_in (shape_of table) pool table) (found h).sound);
  }

  tally_is : tally_of_records (records_in positions (take (length table - at) (drop at table))) ≡ tally_of pool table
  unfolding tally_of tally_in
  tally_is = ap tally_of_records records_are ∙ sym (ap tally_in h.is)

  -- with the measures as the code read them
  module _ (m : Measures) (em : m ≡ (shape_of table).measures) where
    pub rows_read : (m.segment_blocks ≤ 16) × TallyRows m.segment_blocks (take (length table - at) (drop at table))
    rows_read = rw em ((header h).measured.most_blocks, rows_of)

    pub tally_read : tally_of_records (records_in m.segment_blocks (take (length table - at) (drop at table))) ≡ tally_of pool table
    tally_read = rw em tally_is

    pub cells_read : length (named_cells (records_in m.segment_blocks (take (length table - at) (drop at table)))) ≡ (tally_of pool table).cells
    cells_read = ap {B = ℕ} (λ (a : TallyAnswer). a.cells) tally_read
