-- Laws for undoing.
use Rattle.std.specs.List.{list_all}
use mathlib.Core.Path.{◌∙◌, ◌≡◌, ap, refl, subst, sym}
use mathlib.Core.Bool.{◌&&◌, Bool, cond, false, true}
use mathlib.Core.List.{List, [], ◌++◌, ◌∷◌, map}
use Prim.Native.Nat.{◌*◌, ◌+◌, ◌-◌, ◌<◌, ◌≤◌, pred, suc, zero, ℕ}
use native.Mathlib.Omega.{arith}
use lib.ListN.{get_or-eq_default, drop, get_or, length, length-map, length-replicate, replicate, set, take}
use lib.Seq.{drop-drop, map-set_same, set_out}
use lib.Dec.{eqb, leb, ltb}
use borrow.Author.Tests.{le-ltb, leb-false, leb-true, lt-ltb, ne_eqb}
use Rattle.lists.specs.Lists.{all_zero, every, uses}
use Rattle.lists.specs.Rows.{joined}
use Rattle.lists.proofs.Slices.{part_part}
use Rattle.lists.proofs.Tests.{by_test}
use Rattle.model.specs.Image.{zero_block}
use Rattle.model.specs.Measures.{Measures, record_words}
use Rattle.model.specs.Records.{cells_of, count_of, free_segment, named_cells}
use Rattle.model.specs.State.{Block, Position, Segment, Storage, held, null_position, blank_position, removed}
use Rattle.model.specs.Sweep.{clear_cells, free_record, one_less}
use Rattle.model.specs.Table.{cells_in, record_to_words, records_in, storage_in}
use Rattle.laws.proofs.RoundTrip.{free_row}
use Rattle.laws.proofs.Sweep.{free_exact}
use Rattle.laws.specs.Storage.{Exact}
use Rattle.storage.specs.Stored.{EncodesCells, EncodesRecords, Stored, Encodes}
use Rattle.storage.proofs.Inside.{cell_put, encodes_cells, stored_cells}
use Rattle.storage.proofs.Read.{count_at, part_length, part_put, records_of, row_part_lem, storage_read, stored_again, stored_records}
use Rattle.place_words.specs.Words.{cell_if}
use Rattle.storage.proofs.Row.{count_words}
use Rattle.place_undo.specs.Undo.{undo_in, undo_record, undo_upto}

-- ---- low words

pub low_words : (ws : List ℕ) → list_all (λ w. ltb w 2) ws ≡ every (λ w. ltb w 2) ws
unfolding every
low_words [] = refl
low_words (w ∷ ws) = go (ltb w 2) (low_words ws)
  where
    go : (t : Bool) {a b : Bool} → a ≡ b → (t && a) ≡ cond t b false
    go true e = e
    go false e = refl

low_counts : (ps : Segment) → every (λ w. ltb w 2) (map count_of ps) ≡ all_zero (map count_of (map one_less ps))
unfolding all_zero every
low_counts [] = refl
low_counts (p ∷ ps) = rw (low_counts ps) (ap (λ (t : Bool). cond t (all_zero (map count_of (map one_less ps))) false) (go p))
  where
    by : (n : ℕ) → ltb n 2 ≡ eqb (pred n) 0
    by zero = lt-ltb 0 2 (omega arith)
    by (suc zero) = lt-ltb 1 2 (omega arith)
    by (suc (suc n)) = le-ltb (suc (suc n)) 2 (omega arith) ∙ sym (ne_eqb (suc n) 0 (λ e. omega arith))

    go : (p : Position) → ltb (count_of p) 2 ≡ eqb (count_of (one_less p)) 0
    go null_position = by 0
    go blank_position = by 0
    go (held c n) = by n
    go removed = by 0

-- ---- cells

pub clear_append : (bytes : ℕ) (cells : List Block) (xs ys : List ℕ) → clear_cells bytes cells (xs ++ ys) ≡ clear_cells bytes (clear_cells bytes cells xs) ys
unfolding clear_cells
clear_append bytes cells [] ys = refl
clear_append bytes cells (x ∷ xs) ys = clear_append bytes (set cells x (zero_block bytes)) xs ys

pub clear_one : (bytes : ℕ) (pool : List ℕ) (bit c : ℕ) → 0 < bytes → bit ≡ 1 → c * bytes + bytes ≤ length pool
    → cells_in bytes (take (c * bytes) pool ++ (replicate bytes 0 ++ drop (c * bytes + bytes) pool)) ≡ clear_cells bytes (cells_in bytes pool) (cell_if bit c)
unfolding clear_cells zero_block
clear_one bytes pool bit c z b h =
    rw (b, ← drop-drop bytes (c * bytes) pool) (cell_put bytes pool c z h (replicate bytes 0) (length-replicate {A = ℕ} bytes 0))

pub less_cells : (ps : Segment) → cells_of (map one_less ps) ≡ cells_of ps
unfolding cells_of
less_cells [] = refl
less_cells (null_position ∷ ps) = less_cells ps
less_cells (blank_position ∷ ps) = less_cells ps
less_cells (held c n ∷ ps) = ap (λ (l : List ℕ). c ∷ l) (less_cells ps)
less_cells (removed ∷ ps) = less_cells ps

-- ---- a storage

-- past the last record there is nothing to undo
pub undo_past : (m : Measures) (s : Storage) (k : ℕ) → length s.records ≤ k → undo_record m s k ≡ s
unfolding undo_record undo_in free_record all_zero every cells_of clear_cells
undo_past m s k h = rw (get_or-eq_default s.records [] h, set_out s.records k (free_segment m.segment_blocks) h)

module _ (m : Measures) (s : Storage) (x : Exact s) (k : ℕ) where
  abbrev here : Segment
  here = get_or s.records k []

  lowered_exact : Exact (record { records = set s.records k (map one_less here); cells = s.cells })
  unfolding named_cells
  lowered_exact c = ap (λ (l : List (List ℕ)). uses c (joined l)) (map-set_same cells_of s.records k (map one_less here) [] (less_cells here)) ∙ x c

  freed_exact : k < length s.records → Exact (free_record m s k (map one_less here))
  unfolding free_record
  freed_exact h = rw (less_cells here) (free_exact m s x k h)

  -- what is left is named exactly
  pub undo_exact : Exact (undo_record m s k)
  unfolding undo_record undo_in
  undo_exact = go (leb (length s.records) k) refl
    where
      go : (t : Bool) → leb (length s.records) k ≡ t → Exact (undo_record m s k)
      go true e = subst (λ (a : Storage). Exact a) (sym (undo_past m s k (leb-true (length s.records) k e))) x
      go false e = by_test (λ (a : Storage). Exact a) (all_zero (map count_of (map one_less here))) (λ z. freed_exact (leb-false (length s.records) k e)) (λ z. lowered_exact)

-- ---- a record's words, which begin at `at`, and the pool's bytes

module _ (m : Measures) (pool ws : List ℕ) (st : Stored m pool ws) (k : ℕ) (h : k < length (records_in m.segment_blocks ws))
    (at width : ℕ) (ea : at ≡ k * record_words m.segment_blocks) (ew : width ≡ record_words m.segment_blocks) where
  abbrev n : ℕ
  n = m.segment_blocks

  abbrev s : Storage
  s = storage_in m pool ws

  abbrev rec : Segment
  rec = get_or (records_in n ws) k []

  r : EncodesRecords n ws (records_in n ws)
  r = stored_records m st

  rec_sized : length rec ≡ n
  rec_sized = count_at n ws (records_in n ws) r k h

  -- the row's last words are the counts
  counts_low : every (λ w. ltb w 2) (take (at + width - (at + (3 + n))) (drop (at + (3 + n)) ws)) ≡ all_zero (map count_of (map one_less rec))
  counts_low =
      let z : at + width - (at + (3 + n)) ≡ n = omega arith in
      let y : at + width - at ≡ width = omega arith in
      let counts : take n (drop (at + (3 + n)) ws) ≡ map count_of rec =
      sym (part_part ws at width (3 + n) n (omega arith)) ∙ ap (λ (l : List ℕ). take n (drop (3 + n) l)) (rw y at (row_part_lem n ws (records_in n ws) r k h at width ea ew)) ∙ count_words rec n rec_sized in
      rw (z, counts) (low_counts rec)

  pub undo_lowered : (row : List ℕ) → false ≡ every (λ w. ltb w 2) (take (at + width - (at + (3 + n))) (drop (at + (3 + n)) ws)) → row ≡ record_to_words (map one_less rec)
      → Encodes m pool (take at ws ++ (row ++ drop (at + width - at) (drop at ws))) (undo_record m s k)
  unfolding undo_record undo_in storage_in
  undo_lowered row z e =
      rw (sym counts_low ∙ sym z, e) (record { cells = st.encodes.cells; records = part_put n ws (records_in n ws) r k h at width ea ew (map one_less rec) (length-map rec one_less ∙ rec_sized) })

  pub undo_freed : (pool' row : List ℕ) → true ≡ every (λ w. ltb w 2) (take (at + width - (at + (3 + n))) (drop (at + (3 + n)) ws)) → length pool' ≡ length pool
      → cells_in m.block_bytes pool' ≡ clear_cells m.block_bytes (cells_in m.block_bytes pool) (cells_of rec) → row ≡ replicate (length (take (at + width - at) (drop at ws))) 0
      → Encodes m pool' (take at ws ++ (row ++ drop (at + width - at) (drop at ws))) (undo_record m s k)
  unfolding undo_record undo_in free_record storage_in
  undo_freed pool' row z l ep er =
      let c : EncodesCells m.block_bytes pool' (cells_in m.block_bytes pool') = encodes_cells m.block_bytes _ pool' (omega (arith, st.measured.some_bytes)) (l ∙ stored_cells st) in
      rw (sym counts_low ∙ sym z, er ∙ ap (λ (w : ℕ). replicate w 0) (part_length n ws (records_in n ws) r k h at width ea ew) ∙ sym (free_row n), less_cells rec, ← ep)
      (record { cells = c; records = part_put n ws (records_in n ws) r k h at width ea ew (free_segment n) (unfold free_segment in length-replicate n null_position) })

-- past the last record
pub undo_nothing : (m : Measures) (pool ws : List ℕ) → Stored m pool ws → (k : ℕ) → length (records_in m.segment_blocks ws) ≤ k → Encodes m pool ws (undo_record m (storage_in m pool ws) k)
undo_nothing m pool ws st k h = rw (undo_past m (storage_in m pool ws) k (rw (records_of m pool ws) h)) st.encodes

-- ---- all of them

upto_step : (m : Measures) (placed : List ℕ) (j : ℕ) (s : Storage) → 0 < j → undo_upto m placed j s ≡ undo_upto m placed (j - 1) (undo_record m s (get_or placed (j - 1) 0))
unfolding undo_upto
upto_step m placed zero s h = absurd (omega arith)
upto_step m placed (suc j) s h = let e : suc j - 1 ≡ j = omega arith in rw e

-- `j` are left
pub record Going (m : Measures) (placed : List ℕ) (all : Storage) (pool₀ ws₀ pool ws : List ℕ) (j : ℕ) : Type 0 where
  pub stored : Stored m pool ws
  pub left : undo_upto m placed j (storage_in m pool ws) ≡ all
  pub same_pool : length pool ≡ length pool₀
  pub same_table : length ws ≡ length ws₀

pub going_step : {m : Measures} {placed : List ℕ} {all : Storage} {pool₀ ws₀ pool ws : List ℕ} {j : ℕ} → Going m placed all pool₀ ws₀ pool ws j → 0 < j → (pool' ws' : List ℕ)
    → length pool' ≡ length pool → length ws' ≡ length ws → Encodes m pool' ws' (undo_record m (storage_in m pool ws) (get_or placed (j - 1) 0)) → Going m placed all pool₀ ws₀ pool' ws' (j - 1)
going_step {m} {placed} {all} {pool₀} {ws₀} {pool} {ws} {j} g h pool' ws' np nw d =
    let k : ℕ = get_or placed (j - 1) 0 in
    let t : Storage = undo_record m (storage_in m pool ws) k in
    record {
      stored = stored_again m pool ws pool' ws' t g.stored d (undo_exact m (storage_in m pool ws) g.stored.exact k) np nw;
      left = rw (storage_read m g.stored.measured pool' ws' t d) (sym (upto_step m placed j (storage_in m pool ws) h) ∙ g.left);
      same_pool = np ∙ g.same_pool;
      same_table = nw ∙ g.same_table;
    }

pub going_end : {m : Measures} {placed : List ℕ} {all : Storage} {pool₀ ws₀ pool ws : List ℕ} {j : ℕ} → Going m placed all pool₀ ws₀ pool ws j → j ≡ 0 → Encodes m pool ws all
unfolding undo_upto
going_end {m} {pool = pool} {ws = ws} g z = subst (λ (s : Storage). Encodes m pool ws s) (rw z at g.left) g.stored.encodes
