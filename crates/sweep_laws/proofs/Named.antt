-- The cells that the records name, marked.
use mathlib.Core.Path.{◌≡◌, refl, sym, ap, ◌∙◌}
use mathlib.Core.Bool.{Bool, true, false, cond, not}
use mathlib.Core.List.{List, [], ◌∷◌, map}
use Prim.Native.Nat.{ℕ, zero, suc, ◌+◌, ◌*◌, ◌/◌, ◌^◌, ◌≤◌, ◌<◌}
use native.Mathlib.Nat.{zero-mul, eq_of_mul-eq-mul_right, le_of_mul-le-mul_right, mul-div_cancel}
use native.Mathlib.Omega.{arith}
use lib.ListN.{length, get_or, set, take, drop, replicate, length-map, length-replicate, get_or-replicate, get_or-map}
use lib.Seq.{ext_get_or}
use Rattle.lists.specs.Lists.{is_in, all_zero, every}
use Rattle.lists.specs.Marks.{marked}
use Rattle.lists.specs.Masks.{mask_of}
use Rattle.lists.specs.Rows.{joined}
use Rattle.lists.proofs.Places.{row_below}
use Rattle.lists.proofs.Masks.{mask_lt}
use Rattle.lists.proofs.Marks.{marked_append, length_marked}
use Rattle.lists.proofs.Slices.{drop_next, drop_end}
use Rattle.lists.proofs.Apart.{marked_at}
use Rattle.model.specs.Measures.{Measures, record_words}
use Rattle.model.specs.Records.{is_held, cell_of, cells_of, named_cells}
use Rattle.model.specs.Runs.{free_cells}
use Rattle.model.specs.State.{Segment, Storage, Block}
use Rattle.model.specs.Sound.{is_filled}
use Rattle.model.specs.Table.{storage_in, records_in}
use Rattle.laws.specs.Storage.{Exact}
use Rattle.records.proofs.Records.{mask_small}
use Rattle.records.proofs.Unreferenced.{row_held, row_cells}
use Rattle.storage.specs.Stored.{Stored, EncodesRecords}
use Rattle.storage.proofs.Free.{cells_none}
use Rattle.storage.proofs.Read.{cells_length, records_count, count_at, row_at}
use Rattle.pool.specs.Pool.{mark_at, along}
use Rattle.sweep_laws.specs.Marked.{EncodesMarked, NamedIn, StoredMarked}
use Rattle.sweep_laws.specs.Ways.{segment_at}
use Rattle.sweep_laws.proofs.Frees.{in_filled, free_marks, cell_range}
use Rattle.sweep_laws.proofs.Removes.{cells_inside}
use Rattle.sweep_laws.proofs.Walks.{fold, along_picked, held_picked}

fold_mark : (cs : List ℕ) (at : ℕ) (os : List Bool) → fold mark_at at cs os ≡ marked cs os
unfolding fold marked
fold_mark [] at os = refl
fold_mark (c ∷ cs) at os = fold_mark cs (at + 1) (set os c true)

-- a record's held cells
along_mark : (seg : Segment) (os : List Bool) → along mark_at (mask_of is_held seg) 0 (map cell_of seg) os ≡ marked (cells_of seg) os
along_mark seg os = along_picked mark_at is_held seg 0 os ∙ rw (← held_picked seg) (fold_mark (cells_of seg) 0 os)

-- one record more
marked_next : (segs : List Segment) (k : ℕ) (os : List Bool) → k < length segs
    → marked (named_cells (drop (k + 1) segs)) (marked (cells_of (get_or segs k [])) os) ≡ marked (named_cells (drop k segs)) os
unfolding named_cells joined
marked_next segs k os h = rw (drop_next segs k [] h) (sym (marked_append (cells_of (get_or segs k [])) (joined (map cells_of (drop (k + 1) segs))) os))

-- the cells that are named are those that are filled
marked_all : (storage : Storage) → Exact storage → (n : ℕ) → n ≡ length storage.cells → marked (named_cells storage.records) (replicate n false) ≡ map is_filled storage.cells
marked_all storage x n e =
    ext_get_or false (marked named (replicate n false)) (map is_filled storage.cells)
    (length_marked named (replicate n false) ∙ length-replicate n false ∙ e ∙ sym (length-map storage.cells is_filled))
    (λ c h. at c (omega (arith, length_marked named (replicate n false), length-replicate n false)))
  where
    named : List ℕ
    named = named_cells storage.records

    none_filled : is_filled [] ≡ false
    none_filled = unfold all_zero every in refl

    pick : (i z : Bool) → i ≡ z → cond i true false ≡ z
    pick true z e = e
    pick false z e = e

    at : (c : ℕ) → c < n → get_or (marked named (replicate n false)) c false ≡ get_or (map is_filled storage.cells) c false
    at c h =
        marked_at named (replicate n false) c (omega (arith, length-replicate n false))
        ∙ ap (λ (b : Bool). cond (is_in c named) true b) (get_or-replicate n c false false h)
        ∙ pick (is_in c named) (is_filled (get_or storage.cells c [])) (in_filled c named (get_or storage.cells c []) (x c))
        ∙ sym (get_or-map is_filled storage.cells c [])
        ∙ ap (λ (b : Bool). get_or (map is_filled storage.cells) c b) none_filled

not_twice : (bs : List Bool) → map not (map not bs) ≡ bs
not_twice [] = refl
not_twice (true ∷ bs) = ap (λ (l : List Bool). true ∷ l) (not_twice bs)
not_twice (false ∷ bs) = ap (λ (l : List Bool). false ∷ l) (not_twice bs)

-- so are those that are not free
not_free : (storage : Storage) → Exact storage → map not (free_cells storage) ≡ map is_filled storage.cells
not_free storage x = ap (map not) (free_marks storage x) ∙ not_twice (map is_filled storage.cells)

-- ---- what the code needs and leaves

module _ (m : Measures) (pool words : List ℕ) (s : Stored m pool words) (n : ℕ) (e : n * m.block_bytes ≡ length pool) where
  abbrev sh : Storage
  sh = storage_in m pool words

  cells_n : n ≡ length sh.cells
  cells_n =
      let p : n * m.block_bytes ≡ length sh.cells * m.block_bytes = e ∙ cells_length m.block_bytes pool sh.cells s.encodes.cells in
      eq_of_mul-eq-mul_right m.block_bytes (omega (arith, s.measured.some_bytes)) n (length sh.cells) p

  some_n : 1 ≤ n
  some_n = row_below 0 n m.block_bytes (omega (arith, s.measured.some_bytes)) (omega (arith, zero-mul m.block_bytes, s.some))

  pub few_n : n ≤ 32768
  few_n = le_of_mul-le-mul_right {m = n} {n = 32768} {k = m.block_bytes} (omega (arith, s.few)) (omega (arith, s.measured.some_bytes))

  encodes_marked : EncodesMarked m pool words (map is_filled sh.cells) sh
  encodes_marked = record { encodes = s.encodes; marked = refl }

  pub named_in : NamedIn m.segment_blocks words n
  unfolding storage_in
  named_in = record {
    encodes = s.encodes.records;
    inside = λ k j h. cell_range n some_n (segment_at m.segment_blocks words k) (rw cells_n (cells_inside m pool words (map is_filled sh.cells) sh encodes_marked s.exact k h)) j;
    positions = s.measured.most_blocks;
    short = s.short;
  }

  kept_filled : (marks : List Bool) → marks ≡ map is_filled sh.cells → StoredMarked m pool words marks
  kept_filled marks q =
      let l : length marks ≡ n = ap length q ∙ length-map sh.cells is_filled ∙ sym cells_n in
      record {
        measured = s.measured;
        encodes_marked = record { encodes = s.encodes; marked = q };
        exact = s.exact;
        some = omega (arith, some_n);
        few = omega (arith, few_n);
        bytes = sym e ∙ ap (λ (i : ℕ). i * m.block_bytes) (sym l);
        short = s.short;
      }

  pub kept_of : (marks : List Bool) → marks ≡ marked (named_cells (records_in m.segment_blocks words)) (replicate n false) → StoredMarked m pool words marks
  unfolding storage_in
  kept_of marks em = kept_filled marks (em ∙ marked_all sh s.exact n cells_n)

-- ---- the loop that marks

pub record Marking (b : ℕ) (words : List ℕ) (os₀ : List Bool) (n : ℕ) (os : List Bool) (k : ℕ) : Type 0 where
  pub inside : k ≤ n
  pub all : n ≡ length words / record_words b
  pub long : length os ≡ length os₀
  pub rest : marked (named_cells (drop k (records_in b words))) os ≡ marked (named_cells (records_in b words)) os₀

-- what the code needs of record k: the mask of its held positions, and its cells
pub record NamedAt (n held : ℕ) (cs : List ℕ) : Type 0 where
  pub within : held < 2 ^ length cs
  pub small : held < 65536
  pub cells : (j : ℕ) → get_or cs j 0 < n

module _ (b : ℕ) (words : List ℕ) (k : ℕ) (h : k < length words / record_words b) where
  hk : k < length (records_in b words)
  hk = omega (arith, records_count b words)

  pub marking_next : (os₀ : List Bool) (n : ℕ) (os : List Bool) → Marking b words os₀ n os k
      → (os' : List Bool) → length os' ≡ length os → os' ≡ marked (cells_of (segment_at b words k)) os → Marking b words os₀ n os' (k + 1)
  marking_next os₀ n os m os' l q = record {
    inside = omega (arith, m.all);
    all = m.all;
    long = l ∙ m.long;
    rest = rw q (marked_next (records_in b words) k os hk) ∙ m.rest;
  }

  -- where its words are
  module _ (d : EncodesRecords b words (records_in b words)) where
    seg_length : length (segment_at b words k) ≡ b
    seg_length = count_at b words (records_in b words) d k hk

    held_word : get_or words (k * record_words b) 0 ≡ mask_of is_held (segment_at b words k)
    held_word = row_held words (k * record_words b) b (segment_at b words k) seg_length (row_at b words (records_in b words) d k hk)

    -- a record that holds no position names no cell
    pub unmarked : get_or words (k * record_words b) 0 ≡ 0 → (os : List Bool) → os ≡ marked (cells_of (segment_at b words k)) os
    unfolding marked
    unmarked z os = ap (λ (cs : List ℕ). marked cs os) (sym (cells_none (segment_at b words k) (sym held_word ∙ z)))

    module _ (few : b ≤ 16) (room : k * record_words b + record_words b ≤ length words) (j : ℕ) (ej : j ≡ b) where
      cell_words : take j (drop (k * record_words b + 3) words) ≡ map cell_of (segment_at b words k)
      cell_words = row_cells words (k * record_words b) b (segment_at b words k) seg_length (row_at b words (records_in b words) d k hk) few room j ej

      pub marked_along : (os os' : List Bool) → os' ≡ along mark_at (get_or words (k * record_words b) 0) 0 (take j (drop (k * record_words b + 3) words)) os
          → os' ≡ marked (cells_of (segment_at b words k)) os
      marked_along os os' eo = eo ∙ rw (held_word, cell_words) (along_mark (segment_at b words k) os)

      pub named_at : (n : ℕ) → NamedIn b words n → NamedAt n (get_or words (k * record_words b) 0) (take j (drop (k * record_words b + 3) words))
      named_at n i = record {
        within = rw (held_word, cell_words, length-map (segment_at b words k) cell_of) (mask_lt is_held (segment_at b words k));
        small = rw held_word (mask_small is_held (segment_at b words k) (omega (arith, seg_length)));
        cells = λ p. rw cell_words (i.inside k p hk);
      }

pub marking_all : (b : ℕ) (words : List ℕ) (os₀ : List Bool) (n : ℕ) (os : List Bool) (k : ℕ) → Marking b words os₀ n os k → n ≤ k → os ≡ marked (named_cells (records_in b words)) os₀
unfolding named_cells joined marked
marking_all b words os₀ n os k m h =
    let z : drop k (records_in b words) ≡ [] = drop_end (records_in b words) k (omega (arith, m.all, records_count b words)) in
    ap (λ (l : List Segment). marked (named_cells l) os) (sym z) ∙ m.rest

-- ---- a part of an array that is false all through

take_false : (n m : ℕ) → n ≤ m → take n (replicate m false) ≡ replicate n false
take_false zero m h = refl
take_false (suc n) zero h = absurd (omega arith)
take_false (suc n) (suc m) h = ap (λ (l : List Bool). false ∷ l) (take_false n m (omega arith))

pub length_false : (n m : ℕ) → n ≤ m → n ≡ length (take n (replicate m false))
length_false n m h = sym (ap length (take_false n m h) ∙ length-replicate n false)

pub false_part : (size n m p : ℕ) → n ≤ m → n * size ≡ p
    → (take n (replicate m false) ≡ replicate (length (take n (replicate m false))) false) × (length (take n (replicate m false)) * size ≡ p)
false_part size n m p h e =
    let l : length (take n (replicate m false)) ≡ n = sym (length_false n m h) in
    (take_false n m h ∙ ap (λ (i : ℕ). replicate i false) (sym l), ap (λ (i : ℕ). i * size) l ∙ e)

pub whole_cells : (m : Measures) (pool words : List ℕ) → Stored m pool words → length pool / m.block_bytes * m.block_bytes ≡ length pool
whole_cells m pool words s =
    let cells : List Block = (storage_in m pool words).cells in
    let e : length pool ≡ length cells * m.block_bytes = cells_length m.block_bytes pool cells s.encodes.cells in
    ap (λ (i : ℕ). i / m.block_bytes * m.block_bytes) e
    ∙ ap (λ (i : ℕ). i * m.block_bytes) (mul-div_cancel (length cells) (omega (arith, s.measured.some_bytes))) ∙ sym e

-- the free cells, flipped
pub kept_flipped : (m : Measures) (pool words : List ℕ) → Stored m pool words → (free marks : List Bool) → free ≡ free_cells (storage_in m pool words) → marks ≡ map not free → StoredMarked m pool words marks
kept_flipped m pool words s free marks ef em =
    kept_filled m pool words s _ (whole_cells m pool words s) marks (em ∙ ap (map not) ef ∙ not_free (storage_in m pool words) s.exact)
