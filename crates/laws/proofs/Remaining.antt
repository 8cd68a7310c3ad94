-- The cells that a sweep leaves, counted before it; and counts that were lowered, raised again.
use mathlib.Core.Path.{◌≡◌, refl, sym, ap, ◌∙◌}
use mathlib.Core.Bool.{Bool, true, false, cond}
use mathlib.Core.List.{List, [], ◌∷◌, map}
use mathlib.Core.Option.{Option, none, some}
use Prim.Native.Nat.{ℕ, zero, suc, ◌+◌, ◌-◌, ◌*◌, ◌≤◌, ◌<◌, zero-le}
use native.Mathlib.Nat.{zero-add, not-suc-le-zero, le_of_suc-le-suc}
use native.Mathlib.Omega.{arith}
use lib.ListN.{length, get_or, set, length-set, length-append, replicate}
use lib.Seq.{set-get_or, get_or-set_other, ext_get_or}
use lib.Dec.{eqb, ltb}
use borrow.Author.Tests.{eqb-true, eqb-false}
use Rattle.lists.specs.Lists.{keep, count, total, is_some}
use Rattle.lists.specs.Rows.{joined, rows}
use Rattle.lists.proofs.Counted.{length_counted}
use Rattle.lists.proofs.Sets.{upd_same}
use Rattle.lists.proofs.Tests.{by_test}
use Rattle.lists.proofs.Uses.{numbers}
use Rattle.model.specs.Measures.{Measures, Shape}
use Rattle.model.specs.State.{Block, Pointer, null_pointer, blank_pointer, direct, indirect, Position, null_position, blank_position, held, removed, Segment, Storage, State}
use Rattle.model.specs.Image.{Era}
use Rattle.model.specs.Records.{free_segment, is_held, count_of, cells_of, named_cells}
use Rattle.model.specs.Place.{one_more}
use Rattle.model.specs.Runs.{Run, find_run}
use Rattle.model.specs.Sweep.{one_less, change_at, change_all, is_unreferenced, is_referenced, struck, moved, free_record, strike_only, compact, remove_from, sweep_record, sweep_from, sweep, release, claim}
use Rattle.model.specs.Turn.{target, turning}
use Rattle.model.specs.Sound.{is_sound, leads_to}
use Rattle.model.specs.Calls.{till_of, newest_pointers}
use Rattle.laws.specs.Storage.{Suffices}
use Rattle.laws.proofs.Uses.{referenced, struck_cells, moved_cells, referenced_count}
use Rattle.laws.proofs.Counts.{at, Recount, change_at_lem, change_all_length, change_held, falls, grows, lower_count, raise_count}
use Rattle.laws.proofs.Place.{PlacedOk, counted_held}
use Rattle.laws.proofs.Serves.{till_among, sound_valid}
use Rattle.laws.proofs.Newest.{newest_among}

-- ---- one record: as many cells as positions that stay

referenced_length : (seg : Segment) → length (referenced seg) ≡ count is_referenced seg
unfolding referenced cells_of keep count
referenced_length [] = refl
referenced_length (null_position ∷ seg) = omega (arith, referenced_length seg)
referenced_length (blank_position ∷ seg) = omega (arith, referenced_length seg)
referenced_length (held b zero ∷ seg) = omega (arith, referenced_length seg)
referenced_length (held b (suc n) ∷ seg) = omega (arith, referenced_length seg)
referenced_length (removed ∷ seg) = omega (arith, referenced_length seg)

cells_held : (seg : Segment) → length (cells_of seg) ≡ count is_held seg
unfolding cells_of count
cells_held [] = refl
cells_held (null_position ∷ seg) = omega (arith, cells_held seg)
cells_held (blank_position ∷ seg) = omega (arith, cells_held seg)
cells_held (held b n ∷ seg) = omega (arith, cells_held seg)
cells_held (removed ∷ seg) = omega (arith, cells_held seg)

free_cells_lem : (n : ℕ) → length (cells_of (replicate n null_position)) ≡ 0
unfolding cells_of
free_cells_lem zero = refl
free_cells_lem (suc n) = free_cells_lem n

-- record `k` is another, which names as many cells as positions of it stayed
record Leaves (a b : Storage) (k : ℕ) : Type 0 where
  segment : Segment
  records : b.records ≡ set a.records k segment
  cells : length (cells_of segment) ≡ count is_referenced (get_or a.records k [])

module _ (m : Measures) (a : Storage) (k : ℕ) where
  seg : Segment
  seg = get_or a.records k []

  strike_leaves : Leaves a (strike_only m a k seg) k
  unfolding strike_only seg
  strike_leaves = record { segment = map struck seg; records = refl; cells = ap length (struck_cells seg) ∙ referenced_length seg }

  compact_leaves : (o : Option Run) → Leaves a (compact m a k seg o) k
  unfolding compact numbers seg
  compact_leaves none = strike_leaves
  compact_leaves (some run) = record {
    segment = moved run.start seg;
    records = refl;
    cells = ap length (moved_cells seg run.start) ∙ length_counted (λ c. c) run.start (length (referenced seg)) ∙ referenced_length seg;
  }

  free_leaves : count is_unreferenced seg ≡ count is_held seg → Leaves a (free_record m a k seg) k
  unfolding free_record free_segment seg
  free_leaves q = record {
    segment = replicate m.segment_blocks null_position;
    records = refl;
    cells = omega (arith, q, free_cells_lem m.segment_blocks, referenced_count seg, referenced_length seg);
  }

  record_leaves : Leaves a (sweep_record m a k) k
  unfolding sweep_record remove_from seg
  record_leaves =
      let r = count is_unreferenced seg in let s = count is_held seg in
      by_test (λ (b : Storage). Leaves a b k) (eqb r 0)
      (λ e. record {
        segment = seg;
        records = sym (set-get_or a.records k []);
        cells = omega (arith, eqb-true r 0 e, cells_held seg, referenced_count seg, referenced_length seg);
      })
      (λ e. by_test (λ (b : Storage). Leaves a b k) (eqb r s)
      (λ q. free_leaves (eqb-true r s q))
      (λ q. by_test (λ (b : Storage). Leaves a b k) (ltb (100 * r) (m.rebuild_percent * s)) (λ t. strike_leaves) (λ t. compact_leaves (find_run a (s - r)))))

-- ---- all records

-- the cells that the first `k` records name, and the positions of the others that stay
left_after : ℕ → List Segment → ℕ
left_after zero segs = total (count is_referenced) segs
left_after (suc k) [] = 0
left_after (suc k) (s ∷ segs) = length (cells_of s) + left_after k segs

left_next : (k : ℕ) (segs : List Segment) (s : Segment) → k < length segs → length (cells_of s) ≡ count is_referenced (get_or segs k [])
    → left_after (suc k) (set segs k s) ≡ left_after k segs
unfolding left_after total
left_next k [] s h e = absurd (not-suc-le-zero h)
left_next zero (x ∷ segs) s h e = omega (arith, e)
left_next (suc k) (x ∷ segs) s h e = ap (λ (n : ℕ). length (cells_of x) + n) (left_next k segs s (le_of_suc-le-suc h) e)

left_end : (segs : List Segment) → left_after (length segs) segs ≡ length (named_cells segs)
unfolding left_after total named_cells joined
left_end [] = refl
left_end (x ∷ segs) = omega (arith, left_end segs, length-append (cells_of x) (rows cells_of segs))

leaves_length : (a b : Storage) (k : ℕ) → Leaves a b k → length b.records ≡ length a.records
leaves_length a b k l = ap length l.records ∙ length-set a.records k l.segment

left_from : (m : Measures) (a : Storage) (k n : ℕ) → k + n ≡ length a.records → length (named_cells (sweep_from m a k n).records) ≡ left_after k a.records
unfolding sweep_from
left_from m a k zero h = sym (left_end a.records) ∙ ap (λ (j : ℕ). left_after j a.records) (let e : length a.records ≡ k = omega (arith, h) in e)
left_from m a k (suc n) h =
    let l : Leaves a (sweep_record m a k) k = record_leaves m a k in
    left_from m (sweep_record m a k) (suc k) n (omega (arith, h, leaves_length a (sweep_record m a k) k l))
    ∙ ap (left_after (suc k)) l.records ∙ left_next k a.records l.segment (omega (arith, h)) l.cells

-- a sweep leaves as many cells as there are positions with a count
pub sweep_left : (m : Measures) (a : Storage) → length (named_cells (sweep m a).records) ≡ total (count is_referenced) a.records
unfolding sweep left_after
sweep_left m a = left_from m a 0 (length a.records) (zero-add (length a.records))

-- ---- claimed after a release

-- a position with another count
recounted : Position → ℕ → Position
recounted null_position n = null_position
recounted blank_position n = blank_position
recounted (held c k) n = held c n
recounted removed n = removed

recount_itself : (p : Position) → recounted p (count_of p) ≡ p
unfolding recounted
recount_itself null_position = refl
recount_itself blank_position = refl
recount_itself (held c n) = refl
recount_itself removed = refl

less_recounted : (n : ℕ) (p : Position) → recounted (one_less p) n ≡ recounted p n
unfolding recounted
less_recounted n null_position = refl
less_recounted n blank_position = refl
less_recounted n (held c k) = refl
less_recounted n removed = refl

more_recounted : (n : ℕ) (p : Position) → recounted (one_more p) n ≡ recounted p n
unfolding recounted
more_recounted n null_position = refl
more_recounted n blank_position = refl
more_recounted n (held c k) = refl
more_recounted n removed = refl

-- of the same kind, in the same cell and with the same count
same_position : (p q : Position) → recounted p (count_of p) ≡ recounted q (count_of p) → count_of p ≡ count_of q → p ≡ q
same_position p q e c = sym (recount_itself p) ∙ e ∙ ap (recounted q) c ∙ recount_itself q

module _ (f : Position → Position) (c : Recount f) where
  change_recounted : ((n : ℕ) (p : Position) → recounted (f p) n ≡ recounted p n) → (ps : List Pointer) (segs : List Segment) (k i n : ℕ)
      → recounted (at (change_all f segs ps) k i) n ≡ recounted (at segs k i) n
  unfolding change_all
  change_recounted h [] segs k i n = refl
  change_recounted h (p ∷ ps) segs k i n =
      change_recounted h ps (change_at f segs p) k i n ∙ ap (λ (q : Position). recounted q n) (change_at_lem f c segs p k i)
      ∙ by_test (λ (q : Position). recounted q n ≡ recounted (at segs k i) n) (leads_to k i p) (λ e. h n (at segs k i)) (λ e. refl)

  -- each record keeps its length
  wide_at : (segs : List Segment) (p : Pointer) (k : ℕ) → length (get_or (change_at f segs p) k []) ≡ length (get_or segs k [])
  unfolding change_at
  wide_at segs null_pointer k = refl
  wide_at segs blank_pointer k = refl
  wide_at segs (indirect n) k = refl
  wide_at segs (direct j i) k = go (eqb k j) refl
    where
      go : (t : Bool) → eqb k j ≡ t → length (get_or (set segs j (set (get_or segs j []) i (f (get_or (get_or segs j []) i null_position)))) k []) ≡ length (get_or segs k [])
      go true e =
          let q = eqb-true k j e in
          rw q (ap length (upd_same (λ (s : Segment). set s i (f (get_or s i null_position))) [] segs j refl) ∙ length-set (get_or segs j []) i (f (get_or (get_or segs j []) i null_position)))
      go false e = ap length (get_or-set_other segs j k _ [] (eqb-false k j e))

  wide_all : (ps : List Pointer) (segs : List Segment) (k : ℕ) → length (get_or (change_all f segs ps) k []) ≡ length (get_or segs k [])
  unfolding change_all
  wide_all [] segs k = refl
  wide_all (p ∷ ps) segs k = wide_all ps (change_at f segs p) k ∙ wide_at segs p k

module _ (segs : List Segment) (ps : List Pointer) (h : Suffices segs ps) where
  lowered : List Segment
  lowered = change_all one_less segs ps

  back : List Segment
  back = change_all one_more lowered ps

  -- those that are let go are still held
  pub still_held : (k i : ℕ) → 0 < count (leads_to k i) ps → is_held (at (change_all one_less segs ps) k i) ≡ true
  still_held k i l = change_held one_less falls ps segs k i ∙ counted_held (at segs k i) (omega (arith, l, h k i))

  back_count : (k i : ℕ) → count_of (at back k i) ≡ count_of (at segs k i)
  unfolding back lowered
  back_count k i = omega (arith, raise_count ps lowered k i (still_held k i), lower_count ps segs k i, h k i)

  back_at : (k i : ℕ) → at back k i ≡ at segs k i
  unfolding back lowered
  back_at k i =
      same_position (at back k i) (at segs k i)
      (change_recounted one_more grows more_recounted ps lowered k i (count_of (at back k i)) ∙ change_recounted one_less falls less_recounted ps segs k i (count_of (at back k i)))
      (back_count k i)

  back_wide : (k : ℕ) → length (get_or back k []) ≡ length (get_or segs k [])
  unfolding back lowered
  back_wide k = wide_all one_more grows ps lowered k ∙ wide_all one_less falls ps segs k

  pub raised_back : change_all one_more (change_all one_less segs ps) ps ≡ segs
  unfolding back lowered
  raised_back =
      ext_get_or [] back segs (change_all_length one_more grows ps lowered ∙ change_all_length one_less falls ps segs)
      (λ k l. ext_get_or null_position (get_or back k []) (get_or segs k []) (back_wide k) (λ i q. back_at k i))

  -- and no count is larger
  pub lowered_most : (k i : ℕ) → count_of (at (change_all one_less segs ps) k i) ≤ count_of (at segs k i)
  lowered_most k i = omega (arith, lower_count ps segs k i)

-- a claim takes a release back
pub claimed_back : (a : Storage) (ps : List Pointer) → Suffices a.records ps → claim (release a ps) ps ≡ a
unfolding claim release
claimed_back a ps h = ap (λ (segs : List Segment). record { records = segs; cells = a.cells }) (raised_back a.records ps h)

-- ---- the counts of a sound store suffice

keep_among : (f g : Pointer → Bool) (xs : List Pointer) → count f (keep g xs) ≤ count f xs
unfolding keep count
keep_among f g [] = zero-le
keep_among f g (x ∷ xs) =
    by_test (λ (l : List Pointer). count f l ≤ cond (f x) 1 0 + count f xs) (g x) (λ e. omega (arith, keep_among f g xs)) (λ e. omega (arith, keep_among f g xs))

-- for some of the pointers as for all
pub turning_suffices : (era : Era) (storage : Storage) (bs : List Block) (segs : List Segment) (ps : List Pointer) → Suffices segs ps → Suffices segs (turning era storage bs ps)
unfolding turning
turning_suffices era storage bs segs ps h k i = omega (arith, keep_among (leads_to k i) (λ p. is_some (target era storage bs p)) ps, h k i)

-- after a placing as before it
pub placed_suffices : (era : Era) (m : Measures) (a b : Storage) (bs : List Block) (new ps : List Pointer) → PlacedOk era m a b bs new → Suffices a.records ps → Suffices b.records ps
placed_suffices era m a b bs new ps ok h k i = omega (arith, h k i, ok.counts k i)

-- for a till's newest version
pub newest_suffices : (s : Shape) (st : State) → is_sound s st ≡ true → (t : ℕ) → Suffices st.storage.records (newest_pointers (till_of st t).versions)
unfolding till_of
newest_suffices s st h t k i = omega (arith, newest_among k i (till_of st t).versions, till_among k i st.tills t, (sound_valid s st h).counts k i)
