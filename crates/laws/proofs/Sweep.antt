-- Removal keeps every count, every block with a count, and the cells exact.
use mathlib.Core.Path.{◌≡◌, refl, sym, ap, ◌∙◌, subst}
use mathlib.Core.Logic.{◌⊎◌, inl, inr}
use mathlib.Core.Bool.{Bool, true, false}
use mathlib.Core.List.{List, [], ◌∷◌, map}
use mathlib.Core.Option.{Option, none, some}
use Prim.Native.Nat.{ℕ, zero, suc, ◌+◌, ◌-◌, ◌*◌, ◌≤◌, ◌<◌, zero-le, suc-le-suc}
use native.Mathlib.Nat.{suc-add, add-suc, add-zero, not-suc-le-zero, suc-ne-zero, zero-lt-suc, le_refl}
use native.Mathlib.Omega.{arith}
use lib.ListN.{length, get_or, set, replicate, length-set, length-map, get_or-map}
use lib.Seq.{sets, get_or-set_same, get_or-set_other}
use lib.Dec.{eqb, ltb}
use borrow.Author.Tests.{eqb-true, eqb-false, ltb-true, ltb-false}
use Rattle.model.specs.Sound.{is_filled}
use Rattle.lists.specs.Lists.{keep, count, uses}
use Rattle.lists.specs.Rows.{joined}
use Rattle.model.specs.Measures.{Measures}
use Rattle.model.specs.State.{Block, Position, null_position, blank_position, held, removed, Segment, Storage}
use Rattle.model.specs.Records.{free_segment, cells_of, named_cells, is_held, cell_of, count_of, cell_at}
use Rattle.model.specs.Runs.{Run, find_run}
use Rattle.model.specs.Sweep.{clear_cells, is_unreferenced, struck, moved, free_record, strike_only, compact, remove_from, sweep_record, sweep_from, sweep}
use Rattle.laws.proofs.Uses.{named_set, clear_in, clear_out, referenced, unreferenced, uses_split, struck_cells, moved_cells, referenced_count}
use Rattle.laws.specs.Storage.{filled_bit, Exact}
use Rattle.laws.proofs.Runs.{RunOk, FoundOk, Free, find_ok}
use Rattle.lists.proofs.Sets.{map_at, within_run, sets_after, sets_before, sets_in}
use Rattle.lists.proofs.Tests.{by_test}
use Rattle.lists.proofs.Uses.{numbers, uses_append, uses_at, uses_here, uses_high, uses_low, uses_within}

-- the block that a position holds
abbrev pub block_in : Storage → ℕ → ℕ → Block
block_in storage k i = get_or storage.cells (cell_of (get_or (get_or storage.records k []) i null_position)) []

abbrev pub count_in : Storage → ℕ → ℕ → ℕ
count_in storage k i = count_of (get_or (get_or storage.records k []) i null_position)

pub record Keeps (a b : Storage) : Type 0 where
  pub counts : (k i : ℕ) → count_in b k i ≡ count_in a k i
  pub blocks : (k i : ℕ) → 0 < count_in a k i → block_in b k i ≡ block_in a k i
  pub exact : Exact b
  pub record_count : length b.records ≡ length a.records

-- ---- naming

pub bit_most : (b : Block) → filled_bit b ≤ 1
unfolding filled_bit
bit_most b = by_test (λ (n : ℕ). n ≤ 1) (is_filled b) (λ e. le_refl 1) (λ e. zero-le)

pub named_one : (c : ℕ) (segs : List Segment) (k : ℕ) → uses c (cells_of (get_or segs k [])) ≤ uses c (named_cells segs)
unfolding named_cells joined
named_one c [] k = unfold uses count cells_of in zero-le
named_one c (s ∷ segs) zero = omega (arith, uses_append c (cells_of s) (joined (map cells_of segs)))
named_one c (s ∷ segs) (suc k) = omega (arith, named_one c segs k, uses_append c (cells_of s) (joined (map cells_of segs)))

named_two : (c : ℕ) (segs : List Segment) (j k : ℕ) → (j ≡ k → ⊥)
    → uses c (cells_of (get_or segs j [])) + uses c (cells_of (get_or segs k [])) ≤ uses c (named_cells segs)
unfolding named_cells joined
named_two c [] j k h = unfold uses count cells_of in zero-le
named_two c (s ∷ segs) zero zero h = absurd (h refl)
named_two c (s ∷ segs) zero (suc k) h = omega (arith, named_one c segs k, uses_append c (cells_of s) (joined (map cells_of segs)))
named_two c (s ∷ segs) (suc j) zero h = omega (arith, named_one c segs j, uses_append c (cells_of s) (joined (map cells_of segs)))
named_two c (s ∷ segs) (suc j) (suc k) h =
    omega (arith, named_two c segs j k (λ e. h (ap suc e)), uses_append c (cells_of s) (joined (map cells_of segs)))

-- a position with a count names its cell, among those that stay
referenced_named : (seg : Segment) (i : ℕ) → 0 < count_of (get_or seg i null_position) → 0 < uses (cell_of (get_or seg i null_position)) (referenced seg)
unfolding referenced keep cells_of uses count
referenced_named [] i h = absurd (not-suc-le-zero h)
referenced_named (null_position ∷ seg) zero h = absurd (not-suc-le-zero h)
referenced_named (blank_position ∷ seg) zero h = absurd (not-suc-le-zero h)
referenced_named (null_position ∷ seg) (suc i) h = referenced_named seg i h
referenced_named (blank_position ∷ seg) (suc i) h = referenced_named seg i h
referenced_named (held b zero ∷ seg) zero h = absurd (not-suc-le-zero h)
referenced_named (held b zero ∷ seg) (suc i) h = referenced_named seg i h
referenced_named (held b (suc n) ∷ seg) zero h = omega (arith, uses_here b (referenced seg))
referenced_named (held b (suc n) ∷ seg) (suc i) h = omega (arith, referenced_named seg i h)
referenced_named (removed ∷ seg) zero h = absurd (not-suc-le-zero h)
referenced_named (removed ∷ seg) (suc i) h = referenced_named seg i h

-- ---- one record in place of another, and other cells

module _ (a : Storage) (x : Exact a) (k : ℕ) (hk : k < length a.records) (seg : Segment) (cells : List Block)
    (hc : (i : ℕ) → count_of (get_or seg i null_position) ≡ count_in a k i)
    (here : (i : ℕ) → 0 < count_in a k i → get_or cells (cell_of (get_or seg i null_position)) [] ≡ block_in a k i)
    (other : (c : ℕ) → uses c (cells_of (get_or a.records k [])) ≡ 0 → 0 < uses c (named_cells a.records) → get_or cells c [] ≡ get_or a.cells c [])
    (exact : (c : ℕ) → uses c (named_cells (set a.records k seg)) ≡ filled_bit (get_or cells c [])) where
  at_k : get_or (set a.records k seg) k [] ≡ seg
  at_k = get_or-set_same a.records k seg [] hk

  at_other : (j : ℕ) → (j ≡ k → ⊥) → get_or (set a.records k seg) j [] ≡ get_or a.records j []
  at_other j h = get_or-set_other a.records k j seg [] h

  b : Storage
  b = record { records = set a.records k seg; cells = cells }

  counts_kept : (j i : ℕ) → count_in b j i ≡ count_in a j i
  unfolding b
  counts_kept j i = go (eqb j k) refl
    where
      go : (t : Bool) → eqb j k ≡ t → count_in b j i ≡ count_in a j i
      go true e = rw (eqb-true j k e, at_k) (hc i)
      go false e = rw (at_other j (eqb-false j k e)) refl

  blocks_kept : (j i : ℕ) → 0 < count_in a j i → block_in b j i ≡ block_in a j i
  unfolding b
  blocks_kept j i p = go (eqb j k) refl
    where
      go : (t : Bool) → eqb j k ≡ t → block_in b j i ≡ block_in a j i
      go true e = rw (eqb-true j k e, at_k) (here i (rw (eqb-true j k e) at p))
      go false e =
          let c : ℕ = cell_of (get_or (get_or a.records j []) i null_position) in
          let u : 0 < uses c (referenced (get_or a.records j [])) = referenced_named (get_or a.records j []) i p in
          let q = eqb-false j k e in
          rw (at_other j q)
          (other c (omega (arith, u, uses_split c (get_or a.records j []), named_two c a.records j k q, x c, bit_most (get_or a.cells c [])))
          (omega (arith, u, uses_split c (get_or a.records j []), named_one c a.records j)))

  pub keeps_by : Keeps a (record { records = set a.records k seg; cells = cells })
  unfolding b
  keeps_by = record { counts = counts_kept; blocks = blocks_kept; exact = exact; record_count = length-set a.records k seg }

-- ---- the counts of a record's positions after removal

struck_count : (p : Position) → count_of (struck p) ≡ count_of p
struck_count null_position = refl
struck_count blank_position = refl
struck_count (held c zero) = refl
struck_count (held c (suc n)) = refl
struck_count removed = refl

struck_cell : (p : Position) → 0 < count_of p → cell_of (struck p) ≡ cell_of p
struck_cell null_position h = refl
struck_cell blank_position h = refl
struck_cell (held c zero) h = absurd (not-suc-le-zero h)
struck_cell (held c (suc n)) h = refl
struck_cell removed h = refl

moved_count : (seg : Segment) (at i : ℕ) → count_of (get_or (moved at seg) i null_position) ≡ count_of (get_or seg i null_position)
unfolding moved
moved_count [] at i = refl
moved_count (null_position ∷ seg) at zero = refl
moved_count (blank_position ∷ seg) at zero = refl
moved_count (null_position ∷ seg) at (suc i) = moved_count seg at i
moved_count (blank_position ∷ seg) at (suc i) = moved_count seg at i
moved_count (held b zero ∷ seg) at zero = refl
moved_count (held b zero ∷ seg) at (suc i) = moved_count seg at i
moved_count (held b (suc n) ∷ seg) at zero = refl
moved_count (held b (suc n) ∷ seg) at (suc i) = moved_count seg (suc at) i
moved_count (removed ∷ seg) at zero = refl
moved_count (removed ∷ seg) at (suc i) = moved_count seg at i

-- the cell of a position that stays is one of the new run, and holds what the old one did
moved_block : (f : ℕ → Block) (cells : List Block) (seg : Segment) (at : ℕ)
    → ((j : ℕ) → j < length (referenced seg) → get_or cells (at + j) [] ≡ f (get_or (referenced seg) j 0))
    → (i : ℕ) → 0 < count_of (get_or seg i null_position) → get_or cells (cell_of (get_or (moved at seg) i null_position)) [] ≡ f (cell_of (get_or seg i null_position))
unfolding moved referenced keep cells_of
moved_block f cells [] at g i h = absurd (not-suc-le-zero h)
moved_block f cells (null_position ∷ seg) at g zero h = absurd (not-suc-le-zero h)
moved_block f cells (blank_position ∷ seg) at g zero h = absurd (not-suc-le-zero h)
moved_block f cells (null_position ∷ seg) at g (suc i) h = moved_block f cells seg at g i h
moved_block f cells (blank_position ∷ seg) at g (suc i) h = moved_block f cells seg at g i h
moved_block f cells (held b zero ∷ seg) at g zero h = absurd (not-suc-le-zero h)
moved_block f cells (held b zero ∷ seg) at g (suc i) h = moved_block f cells seg at g i h
moved_block f cells (held b (suc n) ∷ seg) at g zero h = ap (λ (x : ℕ). get_or cells x []) (sym (add-zero at)) ∙ g 0 (zero-lt-suc (length (referenced seg)))
moved_block f cells (held b (suc n) ∷ seg) at g (suc i) h =
    moved_block f cells seg (suc at) (λ j l. ap (λ (x : ℕ). get_or cells x []) (suc-add at j ∙ sym (add-suc at j)) ∙ g (suc j) (suc-le-suc l)) i h
moved_block f cells (removed ∷ seg) at g zero h = absurd (not-suc-le-zero h)
moved_block f cells (removed ∷ seg) at g (suc i) h = moved_block f cells seg at g i h

-- where nothing stays, no position has a count
none_referenced : (seg : Segment) → length (referenced seg) ≡ 0 → (i : ℕ) → count_of (get_or seg i null_position) ≡ 0
unfolding referenced keep cells_of
none_referenced [] e i = refl
none_referenced (null_position ∷ seg) e zero = refl
none_referenced (blank_position ∷ seg) e zero = refl
none_referenced (null_position ∷ seg) e (suc i) = none_referenced seg e i
none_referenced (blank_position ∷ seg) e (suc i) = none_referenced seg e i
none_referenced (held b zero ∷ seg) e zero = refl
none_referenced (held b zero ∷ seg) e (suc i) = none_referenced seg e i
none_referenced (held b (suc n) ∷ seg) e i = absurd (suc-ne-zero (length (referenced seg)) e)
none_referenced (removed ∷ seg) e zero = refl
none_referenced (removed ∷ seg) e (suc i) = none_referenced seg e i

free_count : (n i : ℕ) → count_of (get_or (replicate n null_position) i null_position) ≡ 0
free_count zero i = refl
free_count (suc n) zero = refl
free_count (suc n) (suc i) = free_count n i

free_uses : (c n : ℕ) → uses c (cells_of (replicate n null_position)) ≡ 0
unfolding uses count cells_of
free_uses c zero = refl
free_uses c (suc n) = free_uses c n

-- ---- the ways of removal

module _ (m : Measures) (a : Storage) (x : Exact a) (k : ℕ) (hk : k < length a.records) where
  seg : Segment
  seg = get_or a.records k []

  strike_keeps : Keeps a (strike_only m a k seg)
  unfolding strike_only seg unreferenced
  strike_keeps =
      keeps_by a x k hk (map struck seg) (clear_cells m.block_bytes a.cells (cells_of (keep is_unreferenced seg)))
      (λ i. ap count_of (get_or-map struck seg i null_position) ∙ struck_count (get_or seg i null_position))
      (λ i p.
      let c : ℕ = cell_of (get_or seg i null_position) in
      ap (λ (q : Position). get_or (clear_cells m.block_bytes a.cells (unreferenced seg)) (cell_of q) []) (get_or-map struck seg i null_position)
      ∙ ap (λ (y : ℕ). get_or (clear_cells m.block_bytes a.cells (unreferenced seg)) y []) (struck_cell (get_or seg i null_position) p)
      ∙ clear_out m (unreferenced seg) a.cells c
      (omega (arith, referenced_named seg i p, uses_split c seg, named_one c a.records k, x c, bit_most (get_or a.cells c []))))
      (λ c u n. clear_out m (unreferenced seg) a.cells c (omega (arith, u, uses_split c seg)))
      exact
    where
      exact : (c : ℕ) → uses c (named_cells (set a.records k (map struck seg))) ≡ filled_bit (get_or (clear_cells m.block_bytes a.cells (unreferenced seg)) c [])
      exact c = go (ltb 0 (uses c (unreferenced seg))) refl
        where
          sum : uses c (named_cells (set a.records k (map struck seg))) + uses c (cells_of seg) ≡ uses c (named_cells a.records) + uses c (referenced seg)
          sum = named_set c a.records k (map struck seg) hk ∙ ap (λ (l : List ℕ). uses c (named_cells a.records) + uses c l) (struck_cells seg)

          go : (t : Bool) → ltb 0 (uses c (unreferenced seg)) ≡ t
              → uses c (named_cells (set a.records k (map struck seg))) ≡ filled_bit (get_or (clear_cells m.block_bytes a.cells (unreferenced seg)) c [])
          go true t =
              let g : 0 < uses c (unreferenced seg) = ltb-true 0 (uses c (unreferenced seg)) t in
              (let z : uses c (named_cells (set a.records k (map struck seg))) ≡ 0 =
              omega (arith, g, sum, uses_split c seg, named_one c a.records k, x c, bit_most (get_or a.cells c [])) in z)
              ∙ sym (clear_in m (unreferenced seg) a.cells c g)
          go false t =
              let g : uses c (unreferenced seg) ≡ 0 = omega (arith, ltb-false 0 (uses c (unreferenced seg)) t) in
              (let z : uses c (named_cells (set a.records k (map struck seg))) ≡ uses c (named_cells a.records) = omega (arith, g, sum, uses_split c seg) in z)
              ∙ x c ∙ ap filled_bit (sym (clear_out m (unreferenced seg) a.cells c g))

  -- a record that is freed names nothing, and its cells are cleared
  pub free_exact : Exact (free_record m a k (get_or a.records k []))
  unfolding free_record free_segment seg
  free_exact c = go (ltb 0 (uses c (cells_of seg))) refl
    where
      new : ℕ
      new = uses c (named_cells (set a.records k (replicate m.segment_blocks null_position)))

      sum : new + uses c (cells_of seg) ≡ uses c (named_cells a.records) + 0
      sum = named_set c a.records k (replicate m.segment_blocks null_position) hk ∙ ap (λ (n : ℕ). uses c (named_cells a.records) + n) (free_uses c m.segment_blocks)

      go : (t : Bool) → ltb 0 (uses c (cells_of seg)) ≡ t → new ≡ filled_bit (get_or (clear_cells m.block_bytes a.cells (cells_of seg)) c [])
      go true t =
          let g : 0 < uses c (cells_of seg) = ltb-true 0 (uses c (cells_of seg)) t in
          (let z : new ≡ 0 = omega (arith, g, sum, named_one c a.records k, x c, bit_most (get_or a.cells c [])) in z)
          ∙ sym (clear_in m (cells_of seg) a.cells c g)
      go false t =
          let g : uses c (cells_of seg) ≡ 0 = omega (arith, ltb-false 0 (uses c (cells_of seg)) t) in
          (let z : new ≡ uses c (named_cells a.records) = omega (arith, g, sum) in z) ∙ x c ∙ ap filled_bit (sym (clear_out m (cells_of seg) a.cells c g))

  free_keeps : length (referenced seg) ≡ 0 → Keeps a (free_record m a k seg)
  unfolding free_record free_segment seg
  free_keeps e =
      keeps_by a x k hk (replicate m.segment_blocks null_position) (clear_cells m.block_bytes a.cells (cells_of seg))
      (λ i. free_count m.segment_blocks i ∙ sym (none_referenced seg e i))
      (λ i p. absurd (not-suc-le-zero (subst (λ (n : ℕ). 0 < n) (none_referenced seg e i) p)))
      (λ c u n. clear_out m (cells_of seg) a.cells c u)
      free_exact

  module _ (run : Run) (ok : RunOk (Free a) (length (referenced seg)) run) where
    n : ℕ
    n = length (referenced seg)

    cells₁ : List Block
    cells₁ = sets a.cells run.start (map (cell_at a) (referenced seg))

    cells₂ : List Block
    cells₂ = clear_cells m.block_bytes cells₁ (cells_of seg)

    in_run : (j : ℕ) → j < n → Free a (run.start + j)
    unfolding n
    in_run j h = ok.free j (omega (arith, h, ok.enough))

    fits : (j : ℕ) → j < n → run.start + n ≤ length a.cells
    fits j h = omega (arith, h, (in_run (n - 1) (omega (arith, h))).inside)

    run_block : (j : ℕ) → j < n → get_or cells₁ (run.start + j) [] ≡ get_or a.cells (get_or (referenced seg) j 0) []
    unfolding cells₁ n cell_at
    run_block j h =
        let l : length (map (cell_at a) (referenced seg)) ≡ n = length-map (referenced seg) (cell_at a) in
        sets_in [] (map (cell_at a) (referenced seg)) a.cells run.start j (omega (arith, h, l)) (omega (arith, fits j h, l))
        ∙ map_at (cell_at a) (referenced seg) j 0 [] h

    run_clear : (j : ℕ) → j < n → get_or cells₂ (run.start + j) [] ≡ get_or cells₁ (run.start + j) []
    unfolding cells₂ seg
    run_clear j h =
        clear_out m (cells_of seg) cells₁ (run.start + j) (omega (arith, named_one (run.start + j) a.records k, (in_run j h).unnamed))

    off_run : (c : ℕ) → 0 < uses c (named_cells a.records) → (get_or cells₁ c [] ≡ get_or a.cells c []) × (uses c (numbers run.start n) ≡ 0)
    unfolding cells₁ n
    off_run c u = go (within_run c run.start n)
      where
        go : (c < run.start) ⊎ ((run.start + n ≤ c) ⊎ ((j : ℕ) × (c ≡ run.start + j) × (j < n)))
            → (get_or cells₁ c [] ≡ get_or a.cells c []) × (uses c (numbers run.start n) ≡ 0)
        go (inl b) = (sets_before [] (map (cell_at a) (referenced seg)) a.cells run.start c b, uses_low n run.start c b)
        go (inr (inl b)) = (
          sets_after [] (map (cell_at a) (referenced seg)) a.cells run.start c (omega (arith, b, length-map (referenced seg) (cell_at a))),
          uses_high n run.start c b,
        )
        go (inr (inr w)) =
            absurd (not-suc-le-zero (subst (λ (y : ℕ). 0 < y) (ap (λ (y : ℕ). uses y (named_cells a.records)) w.1 ∙ (in_run w.0 w.2).unnamed) u))

    new : ℕ → ℕ
    new c = uses c (named_cells (set a.records k (moved run.start seg)))

    sum : (c : ℕ) → new c + uses c (cells_of seg) ≡ uses c (named_cells a.records) + uses c (numbers run.start n)
    unfolding new n seg
    sum c = named_set c a.records k (moved run.start seg) hk ∙ ap (λ (l : List ℕ). uses c (named_cells a.records) + uses c l) (moved_cells seg run.start)

    exact_in : (c : ℕ) → 0 < uses c (cells_of seg) → new c ≡ filled_bit (get_or cells₂ c [])
    unfolding cells₂ seg
    exact_in c g =
        let u : 0 < uses c (named_cells a.records) = omega (arith, g, named_one c a.records k) in
        (let z : new c ≡ 0 = omega (arith, g, sum c, (off_run c u).1, named_one c a.records k, x c, bit_most (get_or a.cells c [])) in z)
        ∙ sym (clear_in m (cells_of seg) cells₁ c g)

    -- a copied block is not zero
    run_bit : (j : ℕ) → j < n → filled_bit (get_or a.cells (get_or (referenced seg) j 0) []) ≡ 1
    unfolding n seg
    run_bit j h =
        let c : ℕ = get_or (referenced seg) j 0 in
        let u : 0 < uses c (referenced seg) = uses_at c (referenced seg) j h refl in
        omega (arith, u, uses_split c seg, named_one c a.records k, x c, bit_most (get_or a.cells c []))

    exact_out : (c : ℕ) → uses c (cells_of seg) ≡ 0 → (c < run.start) ⊎ ((run.start + n ≤ c) ⊎ ((j : ℕ) × (c ≡ run.start + j) × (j < n)))
        → new c ≡ filled_bit (get_or cells₂ c [])
    unfolding cells₂ cells₁
    exact_out c g (inl b) =
        (let z : new c ≡ uses c (named_cells a.records) = omega (arith, g, sum c, uses_low n run.start c b) in z) ∙ x c
        ∙ ap filled_bit (sym (clear_out m (cells_of seg) cells₁ c g ∙ sets_before [] (map (cell_at a) (referenced seg)) a.cells run.start c b))
    exact_out c g (inr (inl b)) =
        (let z : new c ≡ uses c (named_cells a.records) = omega (arith, g, sum c, uses_high n run.start c b) in z) ∙ x c
        ∙ ap filled_bit (sym (clear_out m (cells_of seg) cells₁ c g
        ∙ sets_after [] (map (cell_at a) (referenced seg)) a.cells run.start c (unfold n in omega (arith, b, length-map (referenced seg) (cell_at a)))))
    exact_out c g (inr (inr w)) =
        let j : ℕ = w.0 in
        let at : ℕ = run.start + j in
        ap new w.1
        ∙ (let z : new at ≡ 1 = omega (arith, sum at, uses_within n run.start j w.2, (in_run j w.2).unnamed, named_one at a.records k, ap (λ (y : ℕ). uses y (cells_of seg)) (sym w.1), g) in z)
        ∙ sym (ap (λ (y : ℕ). filled_bit (get_or cells₂ y [])) w.1 ∙ ap filled_bit (run_clear j w.2 ∙ run_block j w.2) ∙ run_bit j w.2)

    exact : (c : ℕ) → new c ≡ filled_bit (get_or cells₂ c [])
    exact c = go (ltb 0 (uses c (cells_of seg))) refl
      where
        go : (t : Bool) → ltb 0 (uses c (cells_of seg)) ≡ t → new c ≡ filled_bit (get_or cells₂ c [])
        go true t = exact_in c (ltb-true 0 (uses c (cells_of seg)) t)
        go false t = exact_out c (omega (arith, ltb-false 0 (uses c (cells_of seg)) t)) (within_run c run.start n)

    compact_keeps : Keeps a (compact m a k seg (some run))
    unfolding compact seg referenced new cells₁ cells₂ n
    compact_keeps =
        keeps_by a x k hk (moved run.start seg) cells₂
        (λ i. moved_count seg run.start i)
        (λ i p. moved_block (λ c. get_or a.cells c []) cells₂ seg run.start (λ j l. run_clear j l ∙ run_block j l) i p)
        (λ c u nz. clear_out m (cells_of seg) cells₁ c u ∙ (off_run c nz).0)
        exact

  compact_any : (need : ℕ) → need ≡ length (referenced seg) → (o : Option Run) → FoundOk (Free a) need o → Keeps a (compact m a k seg o)
  compact_any need e none h = unfold compact in strike_keeps
  compact_any need e (some run) h = compact_keeps run (subst (λ (x : ℕ). RunOk (Free a) x run) e h)

  remove_keeps : Keeps a (remove_from m a k seg (count is_unreferenced seg) (count is_held seg))
  unfolding remove_from
  remove_keeps =
      let r = count is_unreferenced seg in let s = count is_held seg in
      by_test (Keeps a) (eqb r 0)
      (λ e. record { counts = λ j i. refl; blocks = λ j i p. refl; exact = x; record_count = refl })
      (λ e. by_test (Keeps a) (eqb r s)
      (λ q. free_keeps (omega (arith, referenced_count seg, eqb-true r s q)))
      (λ q. by_test (Keeps a) (ltb (100 * r) (m.rebuild_percent * s))
      (λ t. strike_keeps)
      (λ t. compact_any (s - r) (omega (arith, referenced_count seg)) (find_run a (s - r)) (find_ok a (s - r)))))

keeps_trans : (a b c : Storage) → Keeps a b → Keeps b c → Keeps a c
keeps_trans a b c f g = record {
  counts = λ k i. g.counts k i ∙ f.counts k i;
  blocks = λ k i p. g.blocks k i (subst (λ (n : ℕ). 0 < n) (sym (f.counts k i)) p) ∙ f.blocks k i p;
  exact = g.exact;
  record_count = g.record_count ∙ f.record_count;
}

pub record_keeps : (m : Measures) (a : Storage) → Exact a → (k : ℕ) → k < length a.records → Keeps a (sweep_record m a k)
unfolding sweep_record seg
record_keeps m a x k h = remove_keeps m a x k h

pub sweep_from_keeps : (m : Measures) (a : Storage) (k n : ℕ) → Exact a → k + n ≤ length a.records → Keeps a (sweep_from m a k n)
unfolding sweep_from
sweep_from_keeps m a k zero x h = record { counts = λ j i. refl; blocks = λ j i p. refl; exact = x; record_count = refl }
sweep_from_keeps m a k (suc n) x h =
    let f : Keeps a (sweep_record m a k) = record_keeps m a x k (omega (arith, h)) in
    keeps_trans a (sweep_record m a k) (sweep_from m (sweep_record m a k) (suc k) n) f
    (sweep_from_keeps m (sweep_record m a k) (suc k) n f.exact (omega (arith, h, f.record_count)))

-- Step 3 of a backup keeps every count, every block that has a count, and the cells exact.
pub sweep_keeps : (m : Measures) (a : Storage) → Exact a → Keeps a (sweep m a)
unfolding sweep
sweep_keeps m a x = sweep_from_keeps m a 0 (length a.records) x (omega arith)
