-- Counts are the numbers of direct pointers; a release lowers them by just those released, a claim raises them by just those claimed.
use mathlib.Core.Path.{◌≡◌, refl, sym, ap, ap₂, ◌∙◌}
use mathlib.Core.Bool.{Bool, true, false, cond, ◌||◌, false≢true}
use mathlib.Core.List.{List, [], ◌∷◌}
use Prim.Native.Nat.{ℕ, zero, suc, ◌+◌, ◌-◌, ◌≤◌, ◌<◌, pred, zero-le}
use native.Mathlib.Nat.{zero-add, add-zero, suc-add, add-suc}
use native.Mathlib.Omega.{arith}
use lib.ListN.{length, get_or, set, length-set}
use lib.Seq.{map-set_same, get_or-set_other}
use lib.Dec.{eqb, ltb}
use borrow.Author.Tests.{eqb-true, eqb-false, eq-eqb, lt-ltb, ltb-true, ltb-false}
use Rattle.lists.specs.Lists.{every, all_of, count}
use Rattle.lists.specs.Rows.{joined}
use Rattle.lists.specs.Each.{Each}
use Rattle.lists.proofs.Each.{each_upd}
use Rattle.lists.proofs.Sets.{upd_same}
use Rattle.lists.proofs.Tests.{all_true, clause}
use Rattle.model.specs.Measures.{Measures}
use Rattle.model.specs.State.{Pointer, null_pointer, blank_pointer, direct, indirect, Position, null_position, blank_position, held, removed, Segment, Storage}
use Rattle.model.specs.Records.{is_held, is_free, is_null_position, count_of, cell_of, cells_of, named_cells}
use Rattle.model.specs.Place.{one_more}
use Rattle.model.specs.Sweep.{one_less, change_at, change_all}
use Rattle.model.specs.Sound.{leads_to, is_counted, are_counted, all_counted, is_free_or_holds}
use Rattle.laws.proofs.Sweep.{count_in}
use Rattle.laws.specs.Storage.{SegmentFits}

abbrev pub at : List Segment → ℕ → ℕ → Position
at segs k i = get_or (get_or segs k []) i null_position

-- the counts are those of the pointers in the list
abbrev pub Counted : Storage → List Pointer → Type 0
Counted storage ps = (k i : ℕ) → count_in storage k i ≡ count (leads_to k i) ps

-- ---- from the test and back

positions_counted : (ps : List Pointer) (k i : ℕ) (seg : Segment) → are_counted ps k i seg ≡ true → (j : ℕ)
    → is_held (get_or seg j null_position) ≡ true → count_of (get_or seg j null_position) ≡ count (leads_to k (i + j)) ps
unfolding are_counted
positions_counted ps k i [] h j e = absurd (false≢true e)
positions_counted ps k i (null_position ∷ seg) h zero e = absurd (false≢true e)
positions_counted ps k i (blank_position ∷ seg) h zero e = absurd (false≢true e)
positions_counted ps k i (held c n ∷ seg) h zero e =
    eqb-true n (count (leads_to k i) ps) (clause _ 1 (clause _ 0 h)) ∙ ap (λ (x : ℕ). count (leads_to k x) ps) (sym (add-zero i))
positions_counted ps k i (removed ∷ seg) h zero e = absurd (false≢true e)
positions_counted ps k i (p ∷ seg) h (suc j) e =
    positions_counted ps k (suc i) seg (clause _ 1 h) j e ∙ ap (λ (x : ℕ). count (leads_to k x) ps) (suc-add i j ∙ sym (add-suc i j))

records_counted : (ps : List Pointer) (k : ℕ) (segs : List Segment) → all_counted ps k segs ≡ true → (j i : ℕ)
    → is_held (at segs j i) ≡ true → count_of (at segs j i) ≡ count (leads_to (k + j) i) ps
unfolding all_counted
records_counted ps k [] h j i e = absurd (false≢true e)
records_counted ps k (seg ∷ segs) h zero i e =
    positions_counted ps k 0 seg (clause _ 0 h) i e ∙ ap₂ (λ (x y : ℕ). count (leads_to x y) ps) (sym (add-zero k)) (zero-add i)
records_counted ps k (seg ∷ segs) h (suc j) i e =
    records_counted ps (suc k) segs (clause _ 1 h) j i e ∙ ap (λ (x : ℕ). count (leads_to x i) ps) (suc-add k j ∙ sym (add-suc k j))

-- every direct pointer leads to a held position
abbrev pub Led : Storage → List Pointer → Type 0
Led storage ps = (k i : ℕ) → 0 < count (leads_to k i) ps → is_held (at storage.records k i) ≡ true

unheld : (p : Position) → is_held p ≡ false → count_of p ≡ 0
unheld null_position e = refl
unheld blank_position e = refl
unheld (held c n) e = absurd (false≢true (sym e))
unheld removed e = refl

pub sound_counted : (storage : Storage) (ps : List Pointer) → all_counted ps 0 storage.records ≡ true → Led storage ps → Counted storage ps
sound_counted storage ps h l k i = go (is_held (at storage.records k i)) refl
  where
    go : (t : Bool) → is_held (at storage.records k i) ≡ t → count_in storage k i ≡ count (leads_to k i) ps
    go true e = records_counted ps 0 storage.records h k i e ∙ ap (λ (x : ℕ). count (leads_to x i) ps) (zero-add k)
    go false e = unheld (at storage.records k i) e ∙ none (ltb 0 (count (leads_to k i) ps)) refl
      where
        none : (t : Bool) → ltb 0 (count (leads_to k i) ps) ≡ t → 0 ≡ count (leads_to k i) ps
        none true q = absurd (false≢true (sym e ∙ l k i (ltb-true 0 (count (leads_to k i) ps) q)))
        none false q = omega (arith, ltb-false 0 (count (leads_to k i) ps) q)

counted_positions : (ps : List Pointer) (k i : ℕ) (seg : Segment)
    → ((j : ℕ) → is_held (get_or seg j null_position) ≡ true → (0 < count_of (get_or seg j null_position)) × (count_of (get_or seg j null_position) ≡ count (leads_to k (i + j)) ps))
    → are_counted ps k i seg ≡ true
unfolding are_counted
counted_positions ps k i [] h = refl
counted_positions ps k i (p ∷ seg) h =
    all_true _ (
      one p (h 0),
      (counted_positions ps k (suc i) seg (λ j e. ((h (suc j) e).0, (h (suc j) e).1 ∙ ap (λ (x : ℕ). count (leads_to k x) ps) (add-suc i j ∙ sym (suc-add i j)))), tt),
    )
  where
    one : (p : Position) → (is_held p ≡ true → (0 < count_of p) × (count_of p ≡ count (leads_to k (i + 0)) ps)) → is_counted ps k i p ≡ true
    one null_position g = refl
    one blank_position g = refl
    one (held c n) g =
        all_true _ (lt-ltb 0 n (g refl).0, (eq-eqb n (count (leads_to k i) ps) ((g refl).1 ∙ ap (λ (x : ℕ). count (leads_to k x) ps) (add-zero i)), tt))
    one removed g = refl

counted_records : (ps : List Pointer) (k : ℕ) (segs : List Segment)
    → ((j i : ℕ) → is_held (at segs j i) ≡ true → (0 < count_of (at segs j i)) × (count_of (at segs j i) ≡ count (leads_to (k + j) i) ps)) → all_counted ps k segs ≡ true
unfolding all_counted
counted_records ps k [] h = refl
counted_records ps k (seg ∷ segs) h =
    all_true _ (
      counted_positions ps k 0 seg (λ i e. ((h 0 i e).0, (h 0 i e).1 ∙ ap₂ (λ (x y : ℕ). count (leads_to x y) ps) (add-zero k) (sym (zero-add i)))),
      (counted_records ps (suc k) segs (λ j i e. ((h (suc j) i e).0, (h (suc j) i e).1 ∙ ap (λ (x : ℕ). count (leads_to x i) ps) (add-suc k j ∙ sym (suc-add k j)))), tt),
    )

pub counted_sound : (storage : Storage) (ps : List Pointer) → Counted storage ps
    → ((k i : ℕ) → is_held (at storage.records k i) ≡ true → 0 < count_in storage k i) → all_counted ps 0 storage.records ≡ true
counted_sound storage ps c g =
    counted_records ps 0 storage.records (λ k i e. (g k i e, c k i ∙ ap (λ (x : ℕ). count (leads_to x i) ps) (sym (zero-add k))))

-- ---- counts that change

-- a change of a position's count leaves all else
pub record Recount (f : Position → Position) : Type 0 where
  pub none : f null_position ≡ null_position
  pub is_held : (p : Position) → is_held (f p) ≡ is_held p
  pub is_null : (p : Position) → is_null_position (f p) ≡ is_null_position p
  pub cell : (p : Position) → cell_of (f p) ≡ cell_of p
  pub cells : (p : Position) (seg : Segment) → cells_of (f p ∷ seg) ≡ cells_of (p ∷ seg)

module _ (f : Position → Position) (c : Recount f) where
  change_in : ℕ → Segment → Segment
  change_in i seg = set seg i (f (get_or seg i null_position))

  pub change_at_lem : (segs : List Segment) (p : Pointer) (k i : ℕ) → at (change_at f segs p) k i ≡ cond (leads_to k i p) (f (at segs k i)) (at segs k i)
  unfolding change_at all_of
  change_at_lem segs null_pointer k i = refl
  change_at_lem segs blank_pointer k i = refl
  change_at_lem segs (indirect n) k i = refl
  change_at_lem segs (direct k' i') k i = go (eqb k k') refl (eqb i i') refl
    where
      new : List Segment
      new = set segs k' (set (get_or segs k' []) i' (f (get_or (get_or segs k' []) i' null_position)))

      here : get_or new k' [] ≡ set (get_or segs k' []) i' (f (get_or (get_or segs k' []) i' null_position))
      here = unfold change_in in upd_same (change_in i') [] segs k' refl

      go : (t : Bool) → eqb k k' ≡ t → (q : Bool) → eqb i i' ≡ q
          → at new k i ≡ cond (cond (eqb k k') (cond (eqb i i') true false) false) (f (at segs k i)) (at segs k i)
      go true e true q =
          rw (e, q) (rw (eqb-true k k' e, eqb-true i i' q) (ap (λ (s : Segment). get_or s i' null_position) here ∙ upd_same f null_position (get_or segs k' []) i' c.none))
      go true e false q =
          rw (e, q) (rw (eqb-true k k' e) (ap (λ (s : Segment). get_or s i null_position) here ∙ get_or-set_other (get_or segs k' []) i' i _ null_position (eqb-false i i' q)))
      go false e r q = rw e (ap (λ (s : Segment). get_or s i null_position) (get_or-set_other segs k' k _ [] (eqb-false k k' e)))

  -- what f keeps of a position is kept
  change_keeps : {A : Type 0} (g : Position → A) → ((p : Position) → g (f p) ≡ g p) → (ps : List Pointer) (segs : List Segment) (k i : ℕ)
      → g (at (change_all f segs ps) k i) ≡ g (at segs k i)
  unfolding change_all
  change_keeps g h [] segs k i = refl
  change_keeps g h (p ∷ ps) segs k i = change_keeps g h ps (change_at f segs p) k i ∙ ap g (change_at_lem segs p k i) ∙ one (leads_to k i p)
    where
      one : (t : Bool) → g (cond t (f (at segs k i)) (at segs k i)) ≡ g (at segs k i)
      one true = h (at segs k i)
      one false = refl

  pub change_cell : (ps : List Pointer) (segs : List Segment) (k i : ℕ) → cell_of (at (change_all f segs ps) k i) ≡ cell_of (at segs k i)
  change_cell = change_keeps cell_of c.cell

  pub change_held : (ps : List Pointer) (segs : List Segment) (k i : ℕ) → is_held (at (change_all f segs ps) k i) ≡ is_held (at segs k i)
  change_held = change_keeps is_held c.is_held

  -- what a record names, and whether it is in use, stays
  same_cells : (seg : Segment) (i : ℕ) → cells_of (set seg i (f (get_or seg i null_position))) ≡ cells_of seg
  unfolding cells_of
  same_cells [] i = refl
  same_cells (p ∷ seg) zero = c.cells p seg
  same_cells (null_position ∷ seg) (suc i) = same_cells seg i
  same_cells (blank_position ∷ seg) (suc i) = same_cells seg i
  same_cells (held b n ∷ seg) (suc i) = ap {B = List ℕ} (λ r. b ∷ r) (same_cells seg i)
  same_cells (removed ∷ seg) (suc i) = same_cells seg i

  same_used : (seg : Segment) (i : ℕ) → (is_free (set seg i (f (get_or seg i null_position))) ≡ is_free seg) × (count is_held (set seg i (f (get_or seg i null_position))) ≡ count is_held seg)
  unfolding is_free every count
  same_used [] i = (refl, refl)
  same_used (p ∷ seg) zero = (ap (λ (b : Bool). cond b (every is_null_position seg) false) (c.is_null p), ap (λ (b : Bool). cond b 1 0 + count is_held seg) (c.is_held p))
  same_used (p ∷ seg) (suc i) =
      let h = same_used seg i in
      (ap (λ (b : Bool). cond (is_null_position p) b false) h.0, ap (λ (n : ℕ). cond (is_held p) 1 0 + n) h.1)

  change_named : (segs : List Segment) (p : Pointer) → named_cells (change_at f segs p) ≡ named_cells segs
  unfolding change_at named_cells
  change_named segs null_pointer = refl
  change_named segs blank_pointer = refl
  change_named segs (direct k i) = ap joined (map-set_same cells_of segs k _ [] (same_cells (get_or segs k []) i))
  change_named segs (indirect n) = refl

  pub change_all_named : (ps : List Pointer) (segs : List Segment) → named_cells (change_all f segs ps) ≡ named_cells segs
  unfolding change_all
  change_all_named [] segs = refl
  change_all_named (p ∷ ps) segs = change_all_named ps (change_at f segs p) ∙ change_named segs p

  same_fits : (m : Measures) (i : ℕ) (seg : Segment) → SegmentFits m seg → SegmentFits m (change_in i seg)
  unfolding change_in is_free_or_holds
  same_fits m i seg g = record {
    size = length-set seg i (f (get_or seg i null_position)) ∙ g.size;
    used = ap₂ (λ (a : Bool) (n : ℕ). a || ltb 0 n) (same_used seg i).0 (same_used seg i).1 ∙ g.used;
  }

  change_fits : (m : Measures) (p : Pointer) (segs : List Segment) → Each (SegmentFits m) segs → Each (SegmentFits m) (change_at f segs p)
  unfolding change_at
  change_fits m null_pointer segs h = h
  change_fits m blank_pointer segs h = h
  change_fits m (direct k i) segs h = unfold change_in in each_upd (SegmentFits m) (change_in i) [] (same_fits m i) segs k h
  change_fits m (indirect n) segs h = h

  pub change_all_fits : (m : Measures) (ps : List Pointer) (segs : List Segment) → Each (SegmentFits m) segs → Each (SegmentFits m) (change_all f segs ps)
  unfolding change_all
  change_all_fits m [] segs h = h
  change_all_fits m (p ∷ ps) segs h = change_all_fits m ps (change_at f segs p) (change_fits m p segs h)

  change_length : (segs : List Segment) (p : Pointer) → length (change_at f segs p) ≡ length segs
  unfolding change_at
  change_length segs null_pointer = refl
  change_length segs blank_pointer = refl
  change_length segs (direct k i) = length-set segs k _
  change_length segs (indirect n) = refl

  pub change_all_length : (ps : List Pointer) (segs : List Segment) → length (change_all f segs ps) ≡ length segs
  unfolding change_all
  change_all_length [] segs = refl
  change_all_length (p ∷ ps) segs = change_all_length ps (change_at f segs p) ∙ change_length segs p

-- ---- counts that fall

pub less_cell : (p : Position) → cell_of (one_less p) ≡ cell_of p
less_cell null_position = refl
less_cell blank_position = refl
less_cell (held c n) = refl
less_cell removed = refl

pub falls : Recount one_less
unfolding cells_of
falls = record { none = refl; is_held = held_one; is_null = null_one; cell = less_cell; cells = cells_one }
  where
    held_one : (p : Position) → is_held (one_less p) ≡ is_held p
    held_one null_position = refl
    held_one blank_position = refl
    held_one (held c n) = refl
    held_one removed = refl

    null_one : (p : Position) → is_null_position (one_less p) ≡ is_null_position p
    null_one null_position = refl
    null_one blank_position = refl
    null_one (held c n) = refl
    null_one removed = refl

    cells_one : (p : Position) (seg : Segment) → cells_of (one_less p ∷ seg) ≡ cells_of (p ∷ seg)
    cells_one null_position seg = unfold cells_of in refl
    cells_one blank_position seg = unfold cells_of in refl
    cells_one (held c n) seg = unfold cells_of in refl
    cells_one removed seg = unfold cells_of in refl

less_count : (p : Position) → count_of (one_less p) ≡ count_of p - 1
less_count null_position = refl
less_count blank_position = refl
less_count (held c n) = let e : pred n ≡ n - 1 = omega arith in e
less_count removed = refl

pub lower_count : (ps : List Pointer) (segs : List Segment) (k i : ℕ) → count_of (at (change_all one_less segs ps) k i) ≡ count_of (at segs k i) - count (leads_to k i) ps
unfolding change_all count
lower_count [] segs k i = omega arith
lower_count (p ∷ ps) segs k i =
    lower_count ps (change_at one_less segs p) k i
    ∙ ap (λ (n : ℕ). n - count (leads_to k i) ps) (ap count_of (change_at_lem one_less falls segs p k i) ∙ one (leads_to k i p))
    ∙ (let e : count_of (at segs k i) - cond (leads_to k i p) 1 0 - count (leads_to k i) ps ≡ count_of (at segs k i) - (cond (leads_to k i p) 1 0 + count (leads_to k i) ps) = omega arith in e)
  where
    one : (t : Bool) → count_of (cond t (one_less (at segs k i)) (at segs k i)) ≡ count_of (at segs k i) - cond t 1 0
    one true = less_count (at segs k i)
    one false = omega arith

-- ---- counts that rise

pub grows : Recount one_more
unfolding cells_of
grows = record { none = refl; is_held = held_one; is_null = null_one; cell = cell_one; cells = cells_one }
  where
    held_one : (p : Position) → is_held (one_more p) ≡ is_held p
    held_one null_position = refl
    held_one blank_position = refl
    held_one (held c n) = refl
    held_one removed = refl

    null_one : (p : Position) → is_null_position (one_more p) ≡ is_null_position p
    null_one null_position = refl
    null_one blank_position = refl
    null_one (held c n) = refl
    null_one removed = refl

    cell_one : (p : Position) → cell_of (one_more p) ≡ cell_of p
    cell_one null_position = refl
    cell_one blank_position = refl
    cell_one (held c n) = refl
    cell_one removed = refl

    cells_one : (p : Position) (seg : Segment) → cells_of (one_more p ∷ seg) ≡ cells_of (p ∷ seg)
    cells_one null_position seg = unfold cells_of in refl
    cells_one blank_position seg = unfold cells_of in refl
    cells_one (held c n) seg = unfold cells_of in refl
    cells_one removed seg = unfold cells_of in refl

more_count : (p : Position) → is_held p ≡ true → count_of (one_more p) ≡ count_of p + 1
more_count null_position h = absurd (false≢true h)
more_count blank_position h = absurd (false≢true h)
more_count (held c n) h = omega arith
more_count removed h = absurd (false≢true h)

-- of positions that are held
pub raise_count : (ps : List Pointer) (segs : List Segment) (k i : ℕ) → (0 < count (leads_to k i) ps → is_held (at segs k i) ≡ true)
    → count_of (at (change_all one_more segs ps) k i) ≡ count_of (at segs k i) + count (leads_to k i) ps
unfolding change_all count
raise_count [] segs k i h = omega arith
raise_count (p ∷ ps) segs k i h = go (leads_to k i p) refl (raise_count ps (change_at one_more segs p) k i)
  where
    next : at (change_at one_more segs p) k i ≡ cond (leads_to k i p) (one_more (at segs k i)) (at segs k i)
    next = change_at_lem one_more grows segs p k i

    go : (t : Bool) → leads_to k i p ≡ t
        → ((0 < count (leads_to k i) ps → is_held (at (change_at one_more segs p) k i) ≡ true)
        → count_of (at (change_all one_more (change_at one_more segs p) ps) k i) ≡ count_of (at (change_at one_more segs p) k i) + count (leads_to k i) ps)
        → count_of (at (change_all one_more (change_at one_more segs p) ps) k i) ≡ count_of (at segs k i) + (cond (leads_to k i p) 1 0 + count (leads_to k i) ps)
    go true e r =
        let here : is_held (at segs k i) ≡ true = h (omega (arith, ap {B = ℕ} (λ (t : Bool). cond t 1 0) e)) in
        let q : at (change_at one_more segs p) k i ≡ one_more (at segs k i) = next ∙ ap (λ (t : Bool). cond t (one_more (at segs k i)) (at segs k i)) e in
        omega (
          arith,
          r (λ l. ap is_held q ∙ grows.is_held (at segs k i) ∙ here),
          ap count_of q,
          more_count (at segs k i) here,
          ap {B = ℕ} (λ (t : Bool). cond t 1 0) e,
        )
    go false e r =
        let q : at (change_at one_more segs p) k i ≡ at segs k i = next ∙ ap (λ (t : Bool). cond t (one_more (at segs k i)) (at segs k i)) e in
        omega (
          arith,
          r (λ l. ap is_held q ∙ h (omega (arith, l))),
          ap count_of q,
          ap {B = ℕ} (λ (t : Bool). cond t 1 0) e,
        )

-- at most by as many as there are
pub raise_most : (ps : List Pointer) (segs : List Segment) (k i : ℕ) → count_of (at (change_all one_more segs ps) k i) ≤ count_of (at segs k i) + length ps
unfolding change_all
raise_most [] segs k i = omega arith
raise_most (p ∷ ps) segs k i =
    omega (arith, raise_most ps (change_at one_more segs p) k i, ap count_of (change_at_lem one_more grows segs p k i), one (leads_to k i p))
  where
    more : (p : Position) → count_of (one_more p) ≤ count_of p + 1
    more null_position = zero-le
    more blank_position = zero-le
    more (held c n) = omega arith
    more removed = zero-le

    one : (t : Bool) → count_of (cond t (one_more (at segs k i)) (at segs k i)) ≤ count_of (at segs k i) + 1
    one true = more (at segs k i)
    one false = omega arith

-- ---- a pointer among others

pub leads_itself : (k i : ℕ) → leads_to k i (direct k i) ≡ true
leads_itself k i = all_true _ (eq-eqb k k refl, (eq-eqb i i refl, tt))

pub pointer_counted : (k i : ℕ) (ps : List Pointer) (n : ℕ) → leads_to k i (get_or ps n null_pointer) ≡ true → 0 < count (leads_to k i) ps
unfolding count
pointer_counted k i [] n h = absurd (false≢true h)
pointer_counted k i (p ∷ ps) zero h = rw h (omega arith)
pointer_counted k i (p ∷ ps) (suc n) h = omega (arith, pointer_counted k i ps n h)

-- ---- a held position is counted at least once

positions_positive : (ps : List Pointer) (k i : ℕ) (seg : Segment) → are_counted ps k i seg ≡ true → (j : ℕ)
    → is_held (get_or seg j null_position) ≡ true → 0 < count_of (get_or seg j null_position)
unfolding are_counted
positions_positive ps k i [] h j e = absurd (false≢true e)
positions_positive ps k i (null_position ∷ seg) h zero e = absurd (false≢true e)
positions_positive ps k i (blank_position ∷ seg) h zero e = absurd (false≢true e)
positions_positive ps k i (held c n ∷ seg) h zero e = ltb-true 0 n (clause _ 0 (clause _ 0 h))
positions_positive ps k i (removed ∷ seg) h zero e = absurd (false≢true e)
positions_positive ps k i (p ∷ seg) h (suc j) e = positions_positive ps k (suc i) seg (clause _ 1 h) j e

pub held_positive : (ps : List Pointer) (k : ℕ) (segs : List Segment) → all_counted ps k segs ≡ true → (j i : ℕ) → is_held (at segs j i) ≡ true → 0 < count_of (at segs j i)
unfolding all_counted
held_positive ps k [] h j i e = absurd (false≢true e)
held_positive ps k (seg ∷ segs) h zero i e = positions_positive ps k 0 seg (clause _ 0 h) i e
held_positive ps k (seg ∷ segs) h (suc j) i e = held_positive ps (suc k) segs (clause _ 1 h) j i e
