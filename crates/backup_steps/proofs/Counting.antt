-- The positions that have a count, row by row: the cells that a sweep leaves.
use mathlib.Core.Path.{◌≡◌, refl, sym, ap, ◌∙◌}
use mathlib.Core.Bool.{Bool, true, false, cond, not}
use mathlib.Core.List.{List, [], ◌∷◌, map}
use Prim.Native.Nat.{ℕ, zero, suc, ◌+◌, ◌-◌, ◌*◌, ◌≤◌, ◌<◌}
use native.Mathlib.Nat.{suc-mul, mul-le-mul, zero-mul}
use native.Mathlib.Omega.{arith}
use lib.ListN.{length, get_or, take, drop, length-map, length-drop}
use lib.Seq.{drop_at, drop-drop, take_all}
use lib.Dec.{ltb}
use borrow.Author.Tests.{ne_eqb, le-ltb, ltb-false, not-true}
use lib.Dec.{eqb}
use mir.Val.{bool_byte}
use Rattle.lists.specs.Each.{Each}
use Rattle.lists.specs.Lists.{count, total}
use Rattle.lists.proofs.Counts.{count_most}
use Rattle.lists.proofs.Places.{rows_few}
use Rattle.lists.proofs.Slices.{drop_next, drop_end}
use Rattle.model.specs.Measures.{record_words}
use Rattle.model.specs.Records.{cell_of, count_of}
use Rattle.model.specs.State.{null_position, blank_position, held, removed, Segment}
use Rattle.model.specs.Sweep.{is_referenced}
use Rattle.model.specs.Table.{record_to_words, records_in}
use Rattle.storage.specs.Stored.{EncodesRecords}
use Rattle.storage.proofs.Along.{AtRow, at_row, at_sized}
use Rattle.storage.proofs.Read.{records_count}
use Rattle.backup_steps.specs.Limit.{is_count}

-- ---- one word

-- 1 for a count, 0 for none
count_one : (n : ℕ) → ◌≡◌ {A = ℕ} (bool_byte (not (eqb n 0))) (cond (is_count n) 1 0)
count_one zero = refl
count_one (suc n) = rw (ne_eqb (suc n) 0 (λ e. omega arith))

-- ---- one row

-- the words from the k-th on, as a loop over them reads one
pub part_count : (row : List ℕ) (k i one : ℕ) → one ≡ bool_byte (not (eqb (get_or (take (length row - k) (drop k row)) i 0) 0)) → one ≡ cond (is_count (get_or (drop k row) i 0)) 1 0
part_count row k i one e =
    e ∙ count_one (get_or (take (length row - k) (drop k row)) i 0)
    ∙ ap {B = ℕ} (λ (ws : List ℕ). cond (is_count (get_or ws i 0)) 1 0) (take_all (length row - k) (drop k row) (omega (arith, length-drop k row)))

-- the first i words are counted
abbrev pub Counting : List ℕ → ℕ → ℕ → ℕ → Type 0
Counting ws all i left = (i ≤ length ws) × (left + count is_count (drop i ws) ≡ all)

pub counting_next : (ws : List ℕ) (all i left one : ℕ) → i < length ws → Counting ws all i left → one ≡ cond (is_count (get_or ws i 0)) 1 0 → Counting ws all (i + 1) (left + one)
unfolding count
counting_next ws all i left one h g e = (omega (arith, h), omega (arith, g.1, ap (count is_count) (drop_next ws i 0 h), e))

pub counting_end : (ws : List ℕ) (all i left : ℕ) → length ws ≤ i → Counting ws all i left → left ≡ all
unfolding count
counting_end ws all i left h g = omega (arith, g.1, ap (count is_count) (drop_end ws i h))

-- of n positions
pub row_few : (n : ℕ) (row : List ℕ) → length row ≡ record_words n → count is_count (drop (3 + n) row) ≤ n
row_few n row e = omega (arith, e, count_most is_count (drop (3 + n) row), length-drop (3 + n) row)

counts_stay : (seg : Segment) → count is_count (map count_of seg) ≡ count is_referenced seg
unfolding count
counts_stay [] = refl
counts_stay (null_position ∷ seg) = omega (arith, counts_stay seg)
counts_stay (blank_position ∷ seg) = omega (arith, counts_stay seg)
counts_stay (held c zero ∷ seg) = omega (arith, counts_stay seg)
counts_stay (held c (suc n) ∷ seg) = omega (arith, counts_stay seg)
counts_stay (removed ∷ seg) = omega (arith, counts_stay seg)

row_referenced : (n : ℕ) (seg : Segment) → length seg ≡ n → count is_count (drop (3 + n) (record_to_words seg)) ≡ count is_referenced seg
unfolding record_to_words
row_referenced n seg e =
    ap (count is_count) (sym (drop-drop n 3 (record_to_words seg)) ∙ drop_at (map cell_of seg) (map count_of seg) n (length-map seg cell_of ∙ e)) ∙ counts_stay seg

-- ---- all rows

referenced_most : (n : ℕ) (segs : List Segment) → Each (λ (s : Segment). length s ≡ n) segs → total (count is_referenced) segs ≤ length segs * n
unfolding total
referenced_most n [] h = omega (arith, zero-mul n)
referenced_most n (x ∷ segs) h = omega (arith, referenced_most n segs h.1, count_most is_referenced x, h.0, suc-mul (length segs) n)

-- at most 65,536
all_few : (n : ℕ) (ws : List ℕ) → EncodesRecords n ws (records_in n ws) → n ≤ 16 → length ws ≤ 4096 * record_words n → total (count is_referenced) (records_in n ws) ≤ 65536
all_few n ws r few short =
    let rows : length (records_in n ws) ≤ 4096 = omega (arith, records_count n ws, rows_few (length ws) (record_words n) (omega arith) 4096 short) in
    omega (arith, referenced_most n (records_in n ws) r.sized, mul-le-mul rows few)

-- where 65,536 are not too many, none are
pub never_many : (n : ℕ) (ws : List ℕ) → EncodesRecords n ws (records_in n ws) → n ≤ 16 → length ws ≤ 4096 * record_words n → (others most : ℕ) (b : Bool) → b ≡ ltb most (others + 65536) → not b ≡ true
    → false ≡ ltb most (others + total (count is_referenced) (records_in n ws))
never_many n ws r few short others most b e z =
    sym (le-ltb most (others + total (count is_referenced) (records_in n ws)) (omega (arith, ltb-false most (others + 65536) (sym e ∙ not-true b z), all_few n ws r few short)))

-- the first k records are counted
abbrev pub Leaving : ℕ → List ℕ → ℕ → ℕ → Type 0
Leaving n ws k left = left + total (count is_referenced) (drop k (records_in n ws)) ≡ total (count is_referenced) (records_in n ws)

module _ {n : ℕ} {ws : List ℕ} {width rows at k : ℕ} (a : AtRow n ws width rows at k) (r : EncodesRecords n ws (records_in n ws)) (few : n ≤ 16) (short : length ws ≤ 4096 * record_words n) where
  pub leaving_next : k < rows → (left one : ℕ) → Leaving n ws k left → one ≡ count is_count (drop (3 + n) (take (at + width - at) (drop at ws)))
      → Leaving n ws (k + 1) (left + one) × (left + one ≤ 65536)
  unfolding total
  leaving_next h left one g e =
      let o : one ≡ count is_referenced (get_or (records_in n ws) k []) = e ∙ ap (λ (row : List ℕ). count is_count (drop (3 + n) row)) (at_row a h r) ∙ row_referenced n (get_or (records_in n ws) k []) (at_sized a h r) in
      let next : Leaving n ws (k + 1) (left + one) = omega (arith, g, o, ap (total (count is_referenced)) (drop_next (records_in n ws) k [] (omega (arith, h, a.all)))) in
      (next, omega (arith, next, all_few n ws r few short))

  pub leaving_end : rows ≤ k → (left : ℕ) → Leaving n ws k left → (left ≡ total (count is_referenced) (records_in n ws)) × (left ≤ 65536)
  unfolding total
  leaving_end h left g =
      let e : left ≡ total (count is_referenced) (records_in n ws) = omega (arith, g, ap (total (count is_referenced)) (drop_end (records_in n ws) k (omega (arith, h, a.all)))) in
      (e, omega (arith, e, all_few n ws r few short))
