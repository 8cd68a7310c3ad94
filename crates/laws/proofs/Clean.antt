-- Removal keeps the lengths, leaves no position with count 0, and leaves every record free or in use.
use mathlib.Core.Path.{◌≡◌, refl, ap, ◌∙◌, subst}
use mathlib.Core.Bool.{Bool, true, false, false≢true}
use mathlib.Core.List.{List, [], ◌∷◌, map}
use mathlib.Core.Option.{Option, none, some}
use Prim.Native.Nat.{ℕ, zero, suc, ◌+◌, ◌-◌, ◌*◌, ◌≤◌, ◌<◌}
use native.Mathlib.Nat.{not-suc-le-zero, suc-ne-zero, zero-lt-suc}
use native.Mathlib.Omega.{arith}
use lib.ListN.{length, get_or, set, replicate, length-set, length-map, length-replicate, get_or-eq_default}
use lib.Seq.{sets, get_or-set_same, get_or-set_other, length-sets}
use lib.Dec.{eqb, ltb}
use borrow.Author.Tests.{eqb-true, eqb-false, lt-ltb, ltb-true, ltb-false}
use Rattle.lists.specs.Lists.{every, keep, count, uses}
use Rattle.lists.specs.Each.{Each}
use Rattle.model.specs.Measures.{Measures}
use Rattle.model.specs.State.{Block, null_position, blank_position, held, removed, Segment, Storage}
use Rattle.model.specs.Image.{zero_block, blank_block}
use Rattle.model.specs.Records.{free_segment, is_free, is_held, count_of, cells_of, named_cells, cell_at}
use Rattle.model.specs.Runs.{Run, find_run}
use Rattle.model.specs.Sweep.{clear_cells, is_unreferenced, is_referenced, struck, moved, free_record, strike_only, compact, remove_from, sweep_record, sweep_from, sweep}
use Rattle.model.specs.Sound.{is_free_or_holds}
use Rattle.laws.specs.Storage.{SegmentFits, StorageFits, filled_bit, Exact}
use Rattle.laws.proofs.Uses.{uses_split, nothing_bit, referenced, referenced_count}
use Rattle.laws.proofs.Sweep.{Keeps, named_one, record_keeps}
use Rattle.lists.proofs.Each.{each_at, each_set, each_sets}
use Rattle.lists.proofs.Tests.{by_test, or_left, or_true}
use Rattle.lists.proofs.Uses.{uses_here}

-- ---- lists

length_clear : (m : Measures) (cs : List ℕ) (cells : List Block) → length (clear_cells m.block_bytes cells cs) ≡ length cells
unfolding clear_cells
length_clear m [] cells = refl
length_clear m (c ∷ cs) cells = length_clear m cs (set cells c (zero_block m.block_bytes)) ∙ length-set cells c (zero_block m.block_bytes)

module _ (m : Measures) where
  abbrev pub HasBytes : Block → Type 0
  HasBytes b = length b ≡ m.block_bytes

  pub zero_whole : HasBytes (zero_block m.block_bytes)
  unfolding zero_block
  zero_whole = length-replicate m.block_bytes 0

  pub blank_whole : HasBytes (blank_block m.block_bytes)
  unfolding blank_block
  blank_whole = length-replicate m.block_bytes 255

  all_clear : (cs : List ℕ) (cells : List Block) → Each HasBytes cells → Each HasBytes (clear_cells m.block_bytes cells cs)
  unfolding clear_cells
  all_clear [] cells h = h
  all_clear (c ∷ cs) cells h = all_clear cs (set cells c (zero_block m.block_bytes)) (each_set HasBytes cells c (zero_block m.block_bytes) h zero_whole)

-- ---- a record after removal

pub used_by : (seg : Segment) → 0 < count is_held seg → is_free_or_holds seg ≡ true
unfolding is_free_or_holds
used_by seg h = rw (lt-ltb 0 (count is_held seg) h) (or_true (is_free seg))

struck_held : (seg : Segment) → (count is_held (map struck seg) ≡ length (referenced seg)) × (count is_unreferenced (map struck seg) ≡ 0)
unfolding count referenced keep cells_of
struck_held [] = (refl, refl)
struck_held (null_position ∷ seg) = let h = struck_held seg in (omega (arith, h.0), omega (arith, h.1))
struck_held (blank_position ∷ seg) = let h = struck_held seg in (omega (arith, h.0), omega (arith, h.1))
struck_held (held b zero ∷ seg) = let h = struck_held seg in (omega (arith, h.0), omega (arith, h.1))
struck_held (held b (suc n) ∷ seg) = let h = struck_held seg in (omega (arith, h.0), omega (arith, h.1))
struck_held (removed ∷ seg) = let h = struck_held seg in (omega (arith, h.0), omega (arith, h.1))

moved_held : (seg : Segment) (at : ℕ) → (count is_held (moved at seg) ≡ length (referenced seg)) × (count is_unreferenced (moved at seg) ≡ 0) × (length (moved at seg) ≡ length seg)
unfolding count referenced keep cells_of moved
moved_held [] at = (refl, refl, refl)
moved_held (null_position ∷ seg) at = let h = moved_held seg at in (omega (arith, h.0), omega (arith, h.1), ap suc h.2)
moved_held (blank_position ∷ seg) at = let h = moved_held seg at in (omega (arith, h.0), omega (arith, h.1), ap suc h.2)
moved_held (held b zero ∷ seg) at = let h = moved_held seg at in (omega (arith, h.0), omega (arith, h.1), ap suc h.2)
moved_held (held b (suc n) ∷ seg) at = let h = moved_held seg (suc at) in (omega (arith, h.0), omega (arith, h.1), ap suc h.2)
moved_held (removed ∷ seg) at = let h = moved_held seg at in (omega (arith, h.0), omega (arith, h.1), ap suc h.2)

free_held : (n : ℕ) → (is_free (replicate n null_position) ≡ true) × (count is_unreferenced (replicate n null_position) ≡ 0)
unfolding is_free every count
free_held zero = (refl, refl)
free_held (suc n) = let h = free_held n in (h.0, omega (arith, h.1))

-- ---- the storage after a removal

-- the storage b comes from a by a change of record k, which then has no position with count 0
pub record Swept (m : Measures) (a b : Storage) (k : ℕ) : Type 0 where
  pub fits : StorageFits m b
  pub clean : count is_unreferenced (get_or b.records k []) ≡ 0
  pub others : (j : ℕ) → (j ≡ k → ⊥) → get_or b.records j [] ≡ get_or a.records j []
  pub record_count : length b.records ≡ length a.records
  pub cell_count : length b.cells ≡ length a.cells

module _ (m : Measures) (a : Storage) (f : StorageFits m a) (k : ℕ) (hk : k < length a.records) where
  seg : Segment
  seg = get_or a.records k []

  seg_fits : SegmentFits m seg
  unfolding seg
  seg_fits = each_at (SegmentFits m) [] a.records f.records k hk

  swept_by : (s : Segment) (cells : List Block) → SegmentFits m s → count is_unreferenced s ≡ 0 → Each (HasBytes m) cells → length cells ≡ length a.cells
      → Swept m a (record { records = set a.records k s; cells = cells }) k
  swept_by s cells p q r l = record {
    fits = record { records = each_set (SegmentFits m) a.records k s f.records p; cells = r };
    clean = ap (count is_unreferenced) (get_or-set_same a.records k s [] hk) ∙ q;
    others = λ j e. get_or-set_other a.records k j s [] e;
    record_count = length-set a.records k s;
    cell_count = l;
  }

  strike_swept : 0 < length (referenced seg) → Swept m a (strike_only m a k seg) k
  unfolding strike_only
  strike_swept h =
      swept_by (map struck seg) (clear_cells m.block_bytes a.cells (cells_of (keep is_unreferenced seg)))
      (record { size = length-map seg struck ∙ seg_fits.size; used = used_by (map struck seg) (omega (arith, h, (struck_held seg).0)) })
      (struck_held seg).1 (all_clear m _ a.cells f.cells) (length_clear m _ a.cells)

  free_swept : Swept m a (free_record m a k seg) k
  unfolding free_record free_segment
  free_swept =
      swept_by (replicate m.segment_blocks null_position) (clear_cells m.block_bytes a.cells (cells_of seg))
      (record { size = length-replicate m.segment_blocks null_position; used = unfold is_free_or_holds in or_left _ _ (free_held m.segment_blocks).0 })
      (free_held m.segment_blocks).1 (all_clear m (cells_of seg) a.cells f.cells) (length_clear m (cells_of seg) a.cells)

  module _ (x : Exact a) where
    -- a named cell is in the pool
    inside : (c : ℕ) → 0 < uses c (named_cells a.records) → c < length a.cells
    inside c h = go (ltb c (length a.cells)) refl
      where
        go : (t : Bool) → ltb c (length a.cells) ≡ t → c < length a.cells
        go true e = ltb-true c (length a.cells) e
        go false e =
            absurd (not-suc-le-zero (subst (λ (n : ℕ). 0 < n)
            (x c ∙ ap filled_bit (get_or-eq_default a.cells [] (ltb-false c (length a.cells) e)) ∙ nothing_bit) h))

    copied : (cs : List ℕ) → ((c : ℕ) → 0 < uses c cs → 0 < uses c (cells_of seg)) → Each (HasBytes m) (map (cell_at a) cs)
    unfolding cell_at seg uses count
    copied [] h = tt
    copied (c ∷ cs) h = (
      each_at (HasBytes m) [] a.cells f.cells c (inside c (omega (arith, h c (omega (arith, uses_here c cs)), named_one c a.records k))),
      copied cs (λ b u. h b (omega (arith, u))),
    )

    compact_swept : 0 < length (referenced seg) → (o : Option Run) → Swept m a (compact m a k seg o) k
    unfolding compact
    compact_swept h none = strike_swept h
    compact_swept h (some run) =
        let bs : List Block = map (cell_at a) (cells_of (keep is_referenced seg)) in
        let w : Each (HasBytes m) bs = copied (cells_of (keep is_referenced seg)) (λ c u. unfold referenced in omega (arith, u, uses_split c seg)) in
        swept_by (moved run.start seg) (clear_cells m.block_bytes (sets a.cells run.start bs) (cells_of seg))
        (record { size = (moved_held seg run.start).2 ∙ seg_fits.size; used = used_by (moved run.start seg) (omega (arith, h, (moved_held seg run.start).0)) })
        (moved_held seg run.start).1
        (all_clear m (cells_of seg) (sets a.cells run.start bs) (each_sets (HasBytes m) bs a.cells run.start f.cells w))
        (length_clear m (cells_of seg) (sets a.cells run.start bs) ∙ length-sets a.cells run.start bs)

    pub record_swept : Swept m a (sweep_record m a k) k
    unfolding sweep_record remove_from seg
    record_swept =
        let r = count is_unreferenced seg in let s = count is_held seg in
        by_test (λ (b : Storage). Swept m a b k) (eqb r 0)
        (λ e. record { fits = f; clean = eqb-true r 0 e; others = λ j h. refl; record_count = refl; cell_count = refl })
        (λ e. by_test (λ (b : Storage). Swept m a b k) (eqb r s)
        (λ q. free_swept)
        (λ q.
        let h : 0 < length (referenced seg) = omega (arith, referenced_count seg, eqb-false r s q) in
        by_test (λ (b : Storage). Swept m a b k) (ltb (100 * r) (m.rebuild_percent * s)) (λ t. strike_swept h) (λ t. compact_swept h (find_run a (s - r)))))

-- ---- all records

pub record Cleared (m : Measures) (a b : Storage) (k n : ℕ) : Type 0 where
  pub fits : StorageFits m b
  pub clean : (j : ℕ) → k ≤ j → j < k + n → count is_unreferenced (get_or b.records j []) ≡ 0
  pub before : (j : ℕ) → j < k → get_or b.records j [] ≡ get_or a.records j []
  pub record_count : length b.records ≡ length a.records
  pub cell_count : length b.cells ≡ length a.cells

sweep_from_clears : (m : Measures) (a : Storage) (k n : ℕ) → StorageFits m a → Exact a → k + n ≤ length a.records → Cleared m a (sweep_from m a k n) k n
unfolding sweep_from
sweep_from_clears m a k zero f x h = record {
  fits = f;
  clean = λ j p q. absurd (not-suc-le-zero (let z : 1 ≤ 0 = omega (arith, p, q) in z));
  before = λ j p. refl;
  record_count = refl;
  cell_count = refl;
}
sweep_from_clears m a k (suc n) f x h =
    let b : Storage = sweep_record m a k in
    let s : Swept m a b k = record_swept m a f k (omega (arith, h)) x in
    let kp : Keeps a b = record_keeps m a x k (omega (arith, h)) in
    let r : Cleared m b (sweep_from m b (suc k) n) (suc k) n = sweep_from_clears m b (suc k) n s.fits kp.exact (omega (arith, h, s.record_count)) in
    record {
      fits = r.fits;
      clean = λ j p q. go m a b k n j s r p q (eqb j k) refl;
      before = λ j p. r.before j (omega (arith, p)) ∙ s.others j (λ e. omega (arith, p, e));
      record_count = r.record_count ∙ s.record_count;
      cell_count = r.cell_count ∙ s.cell_count;
    }
  where
    go : (m : Measures) (a b : Storage) (k n j : ℕ) → Swept m a b k → Cleared m b (sweep_from m b (suc k) n) (suc k) n → k ≤ j → j < k + suc n
        → (t : Bool) → eqb j k ≡ t → count is_unreferenced (get_or (sweep_from m b (suc k) n).records j []) ≡ 0
    go m a b k n j s r p q true e =
        let z : j ≡ k = eqb-true j k e in
        ap (count is_unreferenced) (r.before j (omega (arith, z)) ∙ ap (λ (i : ℕ). get_or b.records i []) z) ∙ s.clean
    go m a b k n j s r p q false e = r.clean j (omega (arith, p, eqb-false j k e)) (omega (arith, q))

pub sweep_clears : (m : Measures) (a : Storage) → StorageFits m a → Exact a → Cleared m a (sweep m a) 0 (length a.records)
unfolding sweep
sweep_clears m a f x = sweep_from_clears m a 0 (length a.records) f x (omega arith)

-- with no position that goes, what is held has a count
pub clean_held : (seg : Segment) → count is_unreferenced seg ≡ 0 → (i : ℕ) → is_held (get_or seg i null_position) ≡ true → 0 < count_of (get_or seg i null_position)
unfolding count
clean_held [] e i h = absurd (false≢true h)
clean_held (null_position ∷ seg) e zero h = absurd (false≢true h)
clean_held (blank_position ∷ seg) e zero h = absurd (false≢true h)
clean_held (null_position ∷ seg) e (suc i) h = clean_held seg (omega (arith, e)) i h
clean_held (blank_position ∷ seg) e (suc i) h = clean_held seg (omega (arith, e)) i h
clean_held (held b zero ∷ seg) e zero h = absurd (suc-ne-zero (count is_unreferenced seg) (omega (arith, e)))
clean_held (held b zero ∷ seg) e (suc i) h = clean_held seg (omega (arith, e)) i h
clean_held (held b (suc n) ∷ seg) e zero h = zero-lt-suc n
clean_held (held b (suc n) ∷ seg) e (suc i) h = clean_held seg (omega (arith, e)) i h
clean_held (removed ∷ seg) e zero h = absurd (false≢true h)
clean_held (removed ∷ seg) e (suc i) h = clean_held seg (omega (arith, e)) i h
