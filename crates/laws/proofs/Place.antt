-- A segment that shares a record or fills a free one: the storage keeps what it has, the new pointers are counted, and they lead to the segment's
-- blocks.
use mathlib.Core.Path.{◌≡◌, refl, sym, ap, ap₂, ◌∙◌, subst}
use mathlib.Core.Logic.{◌⊎◌, inl, inr}
use mathlib.Core.Bool.{Bool, true, false, cond, not, ◌||◌, false≢true}
use mathlib.Core.List.{List, [], ◌∷◌, map}
use Prim.Native.Nat.{ℕ, zero, suc, ◌+◌, ◌-◌, ◌≤◌, ◌<◌, suc-le-suc}
use native.Mathlib.Nat.{zero-add, add-zero, suc-add, add-suc, not-suc-le-zero, le_of_suc-le-suc, zero-lt-suc}
use native.Mathlib.Omega.{arith}
use lib.ListN.{length, get_or, set, length-set, length-map, get_or-map}
use lib.Seq.{sets, get_or-set_same, get_or-set_other, length-sets, map-set_same}
use lib.Dec.{eqb, ltb}
use borrow.Author.Tests.{eqb-true, eqb-false, eq-eqb, ne_eqb}
use Rattle.lists.specs.Lists.{same_numbers, counted, every, all_of, keep, count, all_zero, uses}
use Rattle.lists.specs.Rows.{joined}
use Rattle.lists.specs.Each.{Each}
use Rattle.model.specs.Measures.{Measures}
use Rattle.model.specs.State.{Block, Pointer, null_pointer, direct, Position, null_position, blank_position, held, removed, Segment, Storage}
use Rattle.model.specs.Image.{Era, with_blanks, is_blank, is_bare}
use Rattle.model.specs.Records.{is_free, is_held, count_of, cell_of, cells_of, named_cells, cell_at, position_at, holds, equals}
use Rattle.model.specs.Runs.{Run}
use Rattle.model.specs.Place.{bare_pointer, bare_position, pointers_to, one_more, new_positions, stored_blocks, share, write}
use Rattle.model.specs.Trace.{block_at}
use Rattle.model.specs.Sound.{is_free_or_holds, is_null, leads_to}
use Rattle.laws.proofs.Uses.{named_set}
use Rattle.laws.specs.Storage.{filled_bit, Exact, SegmentFits, StorageFits}
use Rattle.laws.proofs.Runs.{RunOk, Free}
use Rattle.laws.proofs.Sweep.{count_in, block_in, named_one}
use Rattle.laws.proofs.Clean.{HasBytes, used_by}
use Rattle.laws.proofs.Counts.{at}
use Rattle.laws.proofs.Bare.{null_bare, blank_bare, full_stored, stored_full, bare_eq, is_indirect, is_bare_pointer, bare_leads, bare_plain, bare_bare, bare_null, by_bare_position}
use Rattle.lists.proofs.Each.{each_at, each_set, each_sets}
use Rattle.lists.proofs.Same.{same_eq}
use Rattle.lists.proofs.Sets.{within_run, sets_after, sets_before, sets_in}
use Rattle.lists.proofs.Tests.{by_test, cond_true}
use Rattle.lists.proofs.Uses.{numbers, uses_here, uses_high, uses_low, uses_within}

-- ---- counting

abbrev pub tick : Bool → ℕ
tick t = cond t 1 0

abbrev pub untick : Bool → ℕ
untick t = cond t 0 1

-- ---- the pointers of a segment

pointers_low : (era : Era) (k k' i : ℕ) (seg : List Block) (i₀ : ℕ) → i < i₀ → count (leads_to k i) (pointers_to era k' i₀ seg) ≡ 0
unfolding pointers_to count all_of
pointers_low era k k' i [] i₀ h = refl
pointers_low era k k' i (b ∷ seg) i₀ h = omega (arith, head (is_bare era b), pointers_low era k k' i seg (suc i₀) (omega (arith, h)))
  where
    head : (z : Bool) → tick (leads_to k i (cond z (bare_pointer b) (direct k' i₀))) ≡ 0
    head true = ap tick (bare_leads b k i)
    head false = rw (ne_eqb i i₀ (λ e. omega (arith, h, e))) (by_test (λ (n : Bool). tick n ≡ 0) (eqb k k') (λ e. refl) (λ e. refl))

pointers_other : (era : Era) (k k' i : ℕ) → (k ≡ k' → ⊥) → (seg : List Block) (i₀ : ℕ) → count (leads_to k i) (pointers_to era k' i₀ seg) ≡ 0
unfolding pointers_to count all_of
pointers_other era k k' i h [] i₀ = refl
pointers_other era k k' i h (b ∷ seg) i₀ = omega (arith, head (is_bare era b), pointers_other era k k' i h seg (suc i₀))
  where
    head : (z : Bool) → tick (leads_to k i (cond z (bare_pointer b) (direct k' i₀))) ≡ 0
    head true = ap tick (bare_leads b k i)
    head false = rw (ne_eqb k k' h) refl

-- one where block i is neither null nor blank
pub pointers_at_lem : (era : Era) (k : ℕ) (seg : List Block) (i₀ i : ℕ) → count (leads_to k (i₀ + i)) (pointers_to era k i₀ seg) ≡ untick (is_bare era (get_or seg i []))
unfolding pointers_to count all_of
pointers_at_lem era k [] i₀ i = unfold is_bare all_zero every in refl
pointers_at_lem era k (b ∷ seg) i₀ zero =
    ap₂ (λ (x y : ℕ). x + y) (head (is_bare era b)) (pointers_low era k k (i₀ + 0) seg (suc i₀) (omega arith)) ∙ add-zero (untick (is_bare era b))
  where
    head : (z : Bool) → tick (leads_to k (i₀ + 0) (cond z (bare_pointer b) (direct k i₀))) ≡ untick z
    head true = ap tick (bare_leads b k (i₀ + 0))
    head false = rw (eq-eqb k k refl, eq-eqb (i₀ + 0) i₀ (add-zero i₀)) refl
pointers_at_lem era k (b ∷ seg) i₀ (suc i) =
    ap₂ (λ (x y : ℕ). x + y) (head (is_bare era b))
    (ap (λ (n : ℕ). count (leads_to k n) (pointers_to era k (suc i₀) seg)) (add-suc i₀ i ∙ sym (suc-add i₀ i)) ∙ pointers_at_lem era k seg (suc i₀) i)
    ∙ zero-add (untick (is_bare era (get_or seg i [])))
  where
    head : (z : Bool) → tick (leads_to k (i₀ + suc i) (cond z (bare_pointer b) (direct k i₀))) ≡ 0
    head true = ap tick (bare_leads b k (i₀ + suc i))
    head false = rw (eq-eqb k k refl, ne_eqb (i₀ + suc i) i₀ (λ e. omega (arith, e))) refl

pub pointer_is : (era : Era) (k : ℕ) (seg : List Block) (i₀ j : ℕ) → j < length seg
    → get_or (pointers_to era k i₀ seg) j null_pointer ≡ cond (is_bare era (get_or seg j [])) (bare_pointer (get_or seg j [])) (direct k (i₀ + j))
unfolding pointers_to
pointer_is era k [] i₀ j h = absurd (not-suc-le-zero h)
pointer_is era k (b ∷ seg) i₀ zero h = ap (λ (n : ℕ). cond (is_bare era b) (bare_pointer b) (direct k n)) (sym (add-zero i₀))
pointer_is era k (b ∷ seg) i₀ (suc j) h =
    pointer_is era k seg (suc i₀) j (le_of_suc-le-suc h)
    ∙ ap (λ (n : ℕ). cond (is_bare era (get_or seg j [])) (bare_pointer (get_or seg j [])) (direct k n)) (suc-add i₀ j ∙ sym (add-suc i₀ j))

pub pointers_length : (era : Era) (k : ℕ) (seg : List Block) (i₀ : ℕ) → length (pointers_to era k i₀ seg) ≡ length seg
unfolding pointers_to
pointers_length era k [] i₀ = refl
pointers_length era k (b ∷ seg) i₀ = ap suc (pointers_length era k seg (suc i₀))

pointers_plain : (era : Era) (k : ℕ) (seg : List Block) (i₀ j : ℕ) → is_indirect (get_or (pointers_to era k i₀ seg) j null_pointer) ≡ false
unfolding pointers_to
pointers_plain era k [] i₀ j = refl
pointers_plain era k (x ∷ seg) i₀ zero = by_test (λ (p : Pointer). is_indirect p ≡ false) (is_bare era x) (λ e. bare_plain x) (λ e. refl)
pointers_plain era k (x ∷ seg) i₀ (suc j) = pointers_plain era k seg (suc i₀) j

-- ---- what placing a segment does

pub record PlacedOk (era : Era) (m : Measures) (a b : Storage) (seg : List Block) (new : List Pointer) : Type 0 where
  pub fits : StorageFits m b
  pub exact : Exact b
  pub counts : (k i : ℕ) → count_in b k i ≡ count_in a k i + count (leads_to k i) new
  pub blocks : (k i : ℕ) → 0 < count_in a k i → block_in b k i ≡ block_in a k i
  pub traced : (j : ℕ) → j < length seg → block_at m.block_bytes b (get_or new j null_pointer) ≡ get_or seg j []
  pub nulls : (j : ℕ) → j < length seg → is_null (get_or new j null_pointer) ≡ all_zero (get_or seg j [])
  pub bares : (j : ℕ) → j < length seg → is_bare_pointer (get_or new j null_pointer) ≡ is_bare era (get_or seg j [])
  pub plain : (j : ℕ) → is_indirect (get_or new j null_pointer) ≡ false
  pub size : length new ≡ length seg
  pub record_count : length b.records ≡ length a.records
  pub cell_count : length b.cells ≡ length a.cells

null_pointer_lem : (era : Era) (k i : ℕ) (b : Block) → is_null (cond (is_bare era b) (bare_pointer b) (direct k i)) ≡ all_zero b
null_pointer_lem era k i b = go (is_bare era b) refl
  where
    go : (z : Bool) → is_bare era b ≡ z → is_null (cond z (bare_pointer b) (direct k i)) ≡ all_zero b
    go true e = bare_null b
    go false e = sym (stored_full era b e)

bare_pointer_lem : (k i : ℕ) (b : Block) (z : Bool) → is_bare_pointer (cond z (bare_pointer b) (direct k i)) ≡ z
bare_pointer_lem k i b true = bare_bare b
bare_pointer_lem k i b false = refl

-- A new record at k: its counts are the old ones and one for each block that is neither null nor blank, and it holds the blocks.
module _ (era : Era) (m : Measures) (a : Storage) (seg : List Block) (w : Each (HasBytes m) seg) (k : ℕ) (hk : k < length a.records) (s : Segment) (cells : List Block)
    (fits : StorageFits m (record { records = set a.records k s; cells = cells }))
    (exact : Exact (record { records = set a.records k s; cells = cells }))
    (cell_count : length cells ≡ length a.cells)
    (counts : (i : ℕ) → count_of (get_or s i null_position) ≡ count_in a k i + untick (is_bare era (get_or seg i [])))
    (here : (i : ℕ) → 0 < count_in a k i → get_or cells (cell_of (get_or s i null_position)) [] ≡ block_in a k i)
    (other : (j i : ℕ) → (j ≡ k → ⊥) → 0 < count_in a j i → get_or cells (cell_of (at a.records j i)) [] ≡ block_in a j i)
    (holds : (i : ℕ) → i < length seg → is_bare era (get_or seg i []) ≡ false → get_or cells (cell_of (get_or s i null_position)) [] ≡ get_or seg i []) where
  b : Storage
  b = record { records = set a.records k s; cells = cells }

  at_k : get_or (set a.records k s) k [] ≡ s
  at_k = get_or-set_same a.records k s [] hk

  at_other : (j : ℕ) → (j ≡ k → ⊥) → get_or (set a.records k s) j [] ≡ get_or a.records j []
  at_other j h = get_or-set_other a.records k j s [] h

  b_counts : (j i : ℕ) → count_in b j i ≡ count_in a j i + count (leads_to j i) (pointers_to era k 0 seg)
  unfolding b
  b_counts j i = go (eqb j k) refl
    where
      go : (t : Bool) → eqb j k ≡ t → count_in b j i ≡ count_in a j i + count (leads_to j i) (pointers_to era k 0 seg)
      go true e =
          rw (eqb-true j k e, at_k)
          (counts i ∙ ap (λ (n : ℕ). count_in a k i + n) (sym (pointers_at_lem era k seg 0 i) ∙ ap (λ (n : ℕ). count (leads_to k n) (pointers_to era k 0 seg)) (zero-add i)))
      go false e =
          let q = eqb-false j k e in
          rw (at_other j q) (sym (ap (λ (n : ℕ). count_in a j i + n) (pointers_other era j k i q seg 0) ∙ add-zero (count_in a j i)))

  b_blocks : (j i : ℕ) → 0 < count_in a j i → block_in b j i ≡ block_in a j i
  unfolding b
  b_blocks j i p = go (eqb j k) refl
    where
      go : (t : Bool) → eqb j k ≡ t → block_in b j i ≡ block_in a j i
      go true e = rw (eqb-true j k e, at_k) (here i (rw (eqb-true j k e) at p))
      go false e = rw (at_other j (eqb-false j k e)) (other j i (eqb-false j k e) p)

  b_traced : (j : ℕ) → j < length seg → block_at m.block_bytes b (get_or (pointers_to era k 0 seg) j null_pointer) ≡ get_or seg j []
  unfolding b block_at cell_at position_at
  b_traced j h =
      ap (block_at m.block_bytes b) (pointer_is era k seg 0 j h)
      ∙ go (is_bare era (get_or seg j [])) refl
    where
      go : (z : Bool) → is_bare era (get_or seg j []) ≡ z → block_at m.block_bytes b (cond z (bare_pointer (get_or seg j [])) (direct k (0 + j))) ≡ get_or seg j []
      go true e = bare_eq era m b (get_or seg j []) e (each_at (HasBytes m) [] seg w j h)
      go false e = rw (zero-add j, at_k) (holds j h e)

  pub placed_by : PlacedOk era m a (record { records = set a.records k s; cells = cells }) seg (pointers_to era k 0 seg)
  unfolding b
  placed_by = record {
    fits = fits;
    exact = exact;
    counts = b_counts;
    blocks = b_blocks;
    traced = b_traced;
    nulls = λ j h. ap is_null (pointer_is era k seg 0 j h) ∙ null_pointer_lem era k (0 + j) (get_or seg j []);
    bares = λ j h. ap is_bare_pointer (pointer_is era k seg 0 j h) ∙ bare_pointer_lem k (0 + j) (get_or seg j []) (is_bare era (get_or seg j []));
    plain = pointers_plain era k seg 0;
    size = pointers_length era k seg 0;
    record_count = length-set a.records k s;
    cell_count = cell_count;
  }

-- ---- a record that is equal serves

pub equal_all : (era : Era) (a : Storage) (seg : List Block) (ps : Segment) → equals era a seg ps ≡ true → (i : ℕ) → holds era a (get_or ps i null_position) (get_or seg i []) ≡ true
unfolding equals
equal_all era a [] [] h i = unfold all_zero every in refl
equal_all era a [] (p ∷ ps) h i = absurd (false≢true h)
equal_all era a (b ∷ seg) [] h i = absurd (false≢true h)
equal_all era a (b ∷ seg) (p ∷ ps) h zero = (cond_true (holds era a p b) (equals era a seg ps) h).0
equal_all era a (b ∷ seg) (p ∷ ps) h (suc i) = equal_all era a seg ps (cond_true (holds era a p b) (equals era a seg ps) h).1 i

-- a held position holds no blank block
held_holds : (era : Era) (a : Storage) (c n : ℕ) (b : Block) → holds era a (held c n) b ≡ true → (is_blank era b ≡ false) × (get_or a.cells c [] ≡ b)
unfolding cell_at
held_holds era a c n b = go (is_blank era b)
  where
    go : (t : Bool) → cond t false (same_numbers (get_or a.cells c []) b) ≡ true → (t ≡ false) × (get_or a.cells c [] ≡ b)
    go true h = absurd (false≢true h)
    go false h = (refl, same_eq (get_or a.cells c []) b h)

-- a record with an occupied cell of 255s equals no segment
pub blank_unmatched : (a : Storage) (seg : List Block) (ps : Segment) (i : ℕ) → is_held (get_or ps i null_position) ≡ true
    → is_blank with_blanks (cell_at a (cell_of (get_or ps i null_position))) ≡ true → equals with_blanks a seg ps ≡ false
blank_unmatched a seg ps i h f = go (equals with_blanks a seg ps) refl
  where
    one : (p : Position) → is_held p ≡ true → is_blank with_blanks (cell_at a (cell_of p)) ≡ true → holds with_blanks a p (get_or seg i []) ≡ true → ⊥
    one null_position h f q = false≢true h
    one blank_position h f q = false≢true h
    one (held c n) h f q =
        let (other, same) = held_holds with_blanks a c n (get_or seg i []) q in
        false≢true (sym other ∙ ap (is_blank with_blanks) (sym same) ∙ (unfold cell_at in f))
    one removed h f q = false≢true h

    go : (t : Bool) → equals with_blanks a seg ps ≡ t → t ≡ false
    go true e = absurd (one (get_or ps i null_position) h f (equal_all with_blanks a seg ps e i))
    go false e = refl

pub held_named : (seg : Segment) (i : ℕ) → is_held (get_or seg i null_position) ≡ true → 0 < uses (cell_of (get_or seg i null_position)) (cells_of seg)
unfolding cells_of uses count
held_named [] i h = absurd (false≢true h)
held_named (null_position ∷ seg) zero h = absurd (false≢true h)
held_named (blank_position ∷ seg) zero h = absurd (false≢true h)
held_named (null_position ∷ seg) (suc i) h = held_named seg i h
held_named (blank_position ∷ seg) (suc i) h = held_named seg i h
held_named (held c n ∷ seg) zero h = omega (arith, uses_here c (cells_of seg))
held_named (held c n ∷ seg) (suc i) h = omega (arith, held_named seg i h)
held_named (removed ∷ seg) zero h = absurd (false≢true h)
held_named (removed ∷ seg) (suc i) h = held_named seg i h

pub bit_one : (b : Block) → 0 < filled_bit b → all_zero b ≡ false
unfolding filled_bit
bit_one b h = go (all_zero b) refl
  where
    go : (z : Bool) → all_zero b ≡ z → all_zero b ≡ false
    go true e = absurd (not-suc-le-zero (subst (λ (t : Bool). 0 < tick (not t)) e h))
    go false e = e

pub counted_held : (p : Position) → 0 < count_of p → is_held p ≡ true
counted_held null_position h = absurd (not-suc-le-zero h)
counted_held blank_position h = absurd (not-suc-le-zero h)
counted_held (held c n) h = refl
counted_held removed h = absurd (not-suc-le-zero h)

more_cells : (seg : Segment) → cells_of (map one_more seg) ≡ cells_of seg
unfolding cells_of
more_cells [] = refl
more_cells (null_position ∷ seg) = more_cells seg
more_cells (blank_position ∷ seg) = more_cells seg
more_cells (held c n ∷ seg) = ap {B = List ℕ} (λ r. c ∷ r) (more_cells seg)
more_cells (removed ∷ seg) = more_cells seg

more_used : (seg : Segment) → (is_free (map one_more seg) ≡ is_free seg) × (count is_held (map one_more seg) ≡ count is_held seg)
unfolding is_free every count
more_used [] = (refl, refl)
more_used (null_position ∷ seg) = ((more_used seg).0, ap (λ (n : ℕ). 0 + n) (more_used seg).1)
more_used (blank_position ∷ seg) = (refl, ap (λ (n : ℕ). 0 + n) (more_used seg).1)
more_used (held c n ∷ seg) = (refl, ap (λ (n : ℕ). 1 + n) (more_used seg).1)
more_used (removed ∷ seg) = (refl, ap (λ (n : ℕ). 0 + n) (more_used seg).1)

more_cell : (p : Position) → cell_of (one_more p) ≡ cell_of p
more_cell null_position = refl
more_cell blank_position = refl
more_cell (held c n) = refl
more_cell removed = refl

-- a record that serves again names what it named
pub share_exact : (era : Era) (a : Storage) → Exact a → (seg : List Block) (k : ℕ) → Exact (share era a seg k).storage
unfolding share named_cells
share_exact era a x seg k c =
    ap (λ (l : List (List ℕ)). uses c (joined l)) (map-set_same cells_of a.records k (map one_more (get_or a.records k [])) [] (more_cells (get_or a.records k []))) ∙ x c

module _ (era : Era) (m : Measures) (a : Storage) (f : StorageFits m a) (x : Exact a) (seg : List Block) (w : Each (HasBytes m) seg) (k : ℕ) (hk : k < length a.records)
    (q : equals era a seg (get_or a.records k []) ≡ true) where
  rec : Segment
  rec = get_or a.records k []

  -- a held position's cell is not zero
  cell_full : (i : ℕ) → is_held (get_or rec i null_position) ≡ true → all_zero (get_or a.cells (cell_of (get_or rec i null_position)) []) ≡ false
  unfolding rec
  cell_full i h =
      let c : ℕ = cell_of (get_or rec i null_position) in
      bit_one (get_or a.cells c []) (omega (arith, x c, held_named rec i h, named_one c a.records k))

  share_counts : (i : ℕ) → count_of (get_or (map one_more rec) i null_position) ≡ count_of (get_or rec i null_position) + untick (is_bare era (get_or seg i []))
  unfolding rec cell_at
  share_counts i =
      ap count_of (get_or-map one_more rec i null_position) ∙ go (get_or rec i null_position) (equal_all era a seg rec q i) (cell_full i)
    where
      go : (p : Position) → holds era a p (get_or seg i []) ≡ true → (is_held p ≡ true → all_zero (get_or a.cells (cell_of p) []) ≡ false)
          → count_of (one_more p) ≡ count_of p + untick (is_bare era (get_or seg i []))
      go null_position h g = rw (null_bare era (get_or seg i []) h) refl
      go blank_position h g = rw (blank_bare era (get_or seg i []) h) refl
      go (held c n) h g =
          let (q, z) = held_holds era a c n (get_or seg i []) h in
          let e : all_zero (get_or seg i []) ≡ false = ap all_zero (sym z) ∙ g refl in
          rw (full_stored era (get_or seg i []) e q) (let z : suc n ≡ n + 1 = omega arith in z)
      go removed h g = absurd (false≢true h)

  share_holds : (i : ℕ) → is_bare era (get_or seg i []) ≡ false → get_or a.cells (cell_of (get_or (map one_more rec) i null_position)) [] ≡ get_or seg i []
  unfolding rec cell_at
  share_holds i e =
      ap (λ (p : Position). get_or a.cells (cell_of p) []) (get_or-map one_more rec i null_position) ∙ go (get_or rec i null_position) (equal_all era a seg rec q i)
    where
      go : (p : Position) → holds era a p (get_or seg i []) ≡ true → get_or a.cells (cell_of (one_more p)) [] ≡ get_or seg i []
      go null_position h = absurd (false≢true (sym e ∙ null_bare era (get_or seg i []) h))
      go blank_position h = absurd (false≢true (sym e ∙ blank_bare era (get_or seg i []) h))
      go (held c n) h = (held_holds era a c n (get_or seg i []) h).1
      go removed h = absurd (false≢true h)

  share_fits : SegmentFits m (map one_more rec)
  unfolding rec is_free_or_holds
  share_fits =
      let g : SegmentFits m rec = each_at (SegmentFits m) [] a.records f.records k hk in
      record {
        size = length-map rec one_more ∙ g.size;
        used = ap₂ (λ (t : Bool) (n : ℕ). t || ltb 0 n) (more_used rec).0 (more_used rec).1 ∙ g.used;
      }

  pub share_ok : PlacedOk era m a (share era a seg k).storage seg (share era a seg k).pointers
  unfolding share rec
  share_ok =
      placed_by era m a seg w k hk (map one_more rec) a.cells
      (record { records = each_set (SegmentFits m) a.records k (map one_more rec) f.records share_fits; cells = f.cells })
      (unfold share in share_exact era a x seg k) refl share_counts
      (λ i p. ap (λ (r : Position). get_or a.cells (cell_of r) []) (get_or-map one_more rec i null_position)
      ∙ ap (λ (n : ℕ). get_or a.cells n []) (more_cell (get_or rec i null_position)))
      (λ j i h p. refl)
      (λ i h e. share_holds i e)

-- ---- a free record is filled

free_none : (seg : Segment) → is_free seg ≡ true → (i : ℕ) → count_of (get_or seg i null_position) ≡ 0
unfolding is_free every
free_none [] h i = refl
free_none (null_position ∷ seg) h zero = refl
free_none (null_position ∷ seg) h (suc i) = free_none seg h i
free_none (blank_position ∷ seg) h i = absurd (false≢true h)
free_none (held c n ∷ seg) h i = absurd (false≢true h)
free_none (removed ∷ seg) h i = absurd (false≢true h)

free_cells_lem : (c : ℕ) (seg : Segment) → is_free seg ≡ true → uses c (cells_of seg) ≡ 0
unfolding is_free every cells_of uses count
free_cells_lem c [] h = refl
free_cells_lem c (null_position ∷ seg) h = free_cells_lem c seg h
free_cells_lem c (blank_position ∷ seg) h = absurd (false≢true h)
free_cells_lem c (held b n ∷ seg) h = absurd (false≢true h)
free_cells_lem c (removed ∷ seg) h = absurd (false≢true h)

new_counts : (era : Era) (seg : List Block) (c i : ℕ) → count_of (get_or (new_positions era c seg) i null_position) ≡ untick (is_bare era (get_or seg i []))
unfolding new_positions
new_counts era [] c i = unfold is_bare all_zero every in refl
new_counts era (b ∷ seg) c zero = go (is_bare era b)
  where
    go : (z : Bool) → count_of (cond z (bare_position b) (held c 1)) ≡ untick z
    go true = by_bare_position b (λ (p : Position). count_of p ≡ 0) refl refl
    go false = refl
new_counts era (b ∷ seg) c (suc i) = new_counts era seg (cond (is_bare era b) c (suc c)) i

new_cells : (era : Era) (seg : List Block) (c : ℕ) → cells_of (new_positions era c seg) ≡ numbers c (length (stored_blocks era seg))
unfolding new_positions cells_of numbers stored_blocks keep
new_cells era [] c = unfold counted in refl
new_cells era (b ∷ seg) c = go (is_bare era b) (λ d. new_cells era seg d)
  where
    go : (z : Bool) → ((d : ℕ) → cells_of (new_positions era d seg) ≡ numbers d (length (stored_blocks era seg)))
        → cells_of (cond z (bare_position b) (held c 1) ∷ new_positions era (cond z c (suc c)) seg) ≡ numbers c (length (cond (not z) (b ∷ stored_blocks era seg) (stored_blocks era seg)))
    go true r = by_bare_position b (λ (p : Position). cells_of (p ∷ new_positions era c seg) ≡ numbers c (length (stored_blocks era seg))) (r c) (r c)
    go false r = unfold counted in ap {B = List ℕ} (λ l. c ∷ l) (r (suc c))

new_length : (era : Era) (seg : List Block) (c : ℕ) → length (new_positions era c seg) ≡ length seg
unfolding new_positions
new_length era [] c = refl
new_length era (b ∷ seg) c = ap suc (new_length era seg (cond (is_bare era b) c (suc c)))

new_held : (era : Era) (seg : List Block) (c : ℕ) → count is_held (new_positions era c seg) ≡ length (stored_blocks era seg)
unfolding new_positions count stored_blocks keep
new_held era [] c = refl
new_held era (b ∷ seg) c = go (is_bare era b) (new_held era seg (cond (is_bare era b) c (suc c)))
  where
    go : (z : Bool) {n : ℕ} → n ≡ length (stored_blocks era seg) → cond (is_held (cond z (bare_position b) (held c 1))) 1 0 + n ≡ length (cond (not z) (b ∷ stored_blocks era seg) (stored_blocks era seg))
    go true {n} e = by_bare_position b (λ (p : Position). cond (is_held p) 1 0 + n ≡ length (stored_blocks era seg)) (omega (arith, e)) (omega (arith, e))
    go false {n} e = omega (arith, e)

new_blocks : (era : Era) (cells : List Block) (seg : List Block) (c : ℕ)
    → ((j : ℕ) → j < length (stored_blocks era seg) → get_or cells (c + j) [] ≡ get_or (stored_blocks era seg) j [])
    → (i : ℕ) → i < length seg → is_bare era (get_or seg i []) ≡ false → get_or cells (cell_of (get_or (new_positions era c seg) i null_position)) [] ≡ get_or seg i []
unfolding new_positions stored_blocks keep
new_blocks era cells [] c g i h e = absurd (not-suc-le-zero h)
new_blocks era cells (b ∷ seg) c g i h e = go (is_bare era b) refl g i h e (λ d r j l n. new_blocks era cells seg d r j l n)
  where
    go : (z : Bool) → is_bare era b ≡ z
        → ((j : ℕ) → j < length (cond (not z) (b ∷ stored_blocks era seg) (stored_blocks era seg)) → get_or cells (c + j) [] ≡ get_or (cond (not z) (b ∷ stored_blocks era seg) (stored_blocks era seg)) j [])
        → (i : ℕ) → i < suc (length seg) → is_bare era (get_or (b ∷ seg) i []) ≡ false
        → ((d : ℕ) → ((j : ℕ) → j < length (stored_blocks era seg) → get_or cells (d + j) [] ≡ get_or (stored_blocks era seg) j []) → (j : ℕ) → j < length seg → is_bare era (get_or seg j []) ≡ false
        → get_or cells (cell_of (get_or (new_positions era d seg) j null_position)) [] ≡ get_or seg j [])
        → get_or cells (cell_of (get_or (cond z (bare_position b) (held c 1) ∷ new_positions era (cond z c (suc c)) seg) i null_position)) [] ≡ get_or (b ∷ seg) i []
    go true z g zero h e r = absurd (false≢true (sym e ∙ z))
    go true z g (suc i) h e r = r c g i (le_of_suc-le-suc h) e
    go false z g zero h e r = ap (λ (n : ℕ). get_or cells n []) (sym (add-zero c)) ∙ g 0 (zero-lt-suc (length (stored_blocks era seg)))
    go false z g (suc i) h e r =
        r (suc c) (λ j l. ap (λ (n : ℕ). get_or cells n []) (suc-add c j ∙ sym (add-suc c j)) ∙ g (suc j) (suc-le-suc l)) i (le_of_suc-le-suc h) e

stored_bit_lem : (era : Era) (seg : List Block) (j : ℕ) → j < length (stored_blocks era seg) → filled_bit (get_or (stored_blocks era seg) j []) ≡ 1
unfolding stored_blocks keep filled_bit
stored_bit_lem era [] j h = absurd (not-suc-le-zero h)
stored_bit_lem era (b ∷ seg) j h = go (is_bare era b) refl j h (λ i l. stored_bit_lem era seg i l)
  where
    go : (z : Bool) → is_bare era b ≡ z → (j : ℕ) → j < length (cond (not z) (b ∷ stored_blocks era seg) (stored_blocks era seg))
        → ((i : ℕ) → i < length (stored_blocks era seg) → filled_bit (get_or (stored_blocks era seg) i []) ≡ 1) → filled_bit (get_or (cond (not z) (b ∷ stored_blocks era seg) (stored_blocks era seg)) j []) ≡ 1
    go true e j h r = r j h
    go false e zero h r = ap {B = ℕ} (λ (t : Bool). cond (not t) 1 0) (stored_full era b e)
    go false e (suc j) h r = r j (le_of_suc-le-suc h)

stored_whole : (era : Era) (m : Measures) (seg : List Block) → Each (HasBytes m) seg → Each (HasBytes m) (stored_blocks era seg)
unfolding stored_blocks keep
stored_whole era m [] h = tt
stored_whole era m (b ∷ seg) h =
    by_test (Each (HasBytes m)) (not (is_bare era b)) (λ e. (h.0, stored_whole era m seg h.1)) (λ e. stored_whole era m seg h.1)

stored_some : (era : Era) (seg : List Block) → every (is_bare era) seg ≡ false → 0 < length (stored_blocks era seg)
unfolding stored_blocks keep every
stored_some era [] h = absurd (false≢true (sym h))
stored_some era (b ∷ seg) h = go (is_bare era b) h (λ e. stored_some era seg e)
  where
    go : (z : Bool) → cond z (every (is_bare era) seg) false ≡ false → (every (is_bare era) seg ≡ false → 0 < length (stored_blocks era seg))
        → 0 < length (cond (not z) (b ∷ stored_blocks era seg) (stored_blocks era seg))
    go true e r = r e
    go false e r = zero-lt-suc (length (stored_blocks era seg))

-- a free record that is filled names its run's cells
module _ (era : Era) (a : Storage) (x : Exact a) (seg : List Block) (k : ℕ) (hk : k < length a.records) (fr : is_free (get_or a.records k []) ≡ true)
    (run : Run) (ok : RunOk (Free a) (length (stored_blocks era seg)) run) where
  n₁ : ℕ
  n₁ = length (stored_blocks era seg)

  cells' : List Block
  cells' = sets a.cells run.start (stored_blocks era seg)

  run_free : (j : ℕ) → j < n₁ → Free a (run.start + j)
  unfolding n₁
  run_free j h = ok.free j (omega (arith, h, ok.enough))

  run_fits : (j : ℕ) → j < n₁ → run.start + n₁ ≤ length a.cells
  run_fits j h = omega (arith, h, (run_free (n₁ - 1) (omega (arith, h))).inside)

  run_cells : (j : ℕ) → j < n₁ → get_or cells' (run.start + j) [] ≡ get_or (stored_blocks era seg) j []
  unfolding cells' n₁
  run_cells j h = sets_in [] (stored_blocks era seg) a.cells run.start j h (run_fits j h)

  off : (c : ℕ) → 0 < uses c (named_cells a.records) → get_or cells' c [] ≡ get_or a.cells c []
  unfolding cells' n₁
  off c u = go (within_run c run.start n₁)
    where
      go : (c < run.start) ⊎ ((run.start + n₁ ≤ c) ⊎ ((j : ℕ) × (c ≡ run.start + j) × (j < n₁))) → get_or cells' c [] ≡ get_or a.cells c []
      go (inl b) = sets_before [] (stored_blocks era seg) a.cells run.start c b
      go (inr (inl b)) = sets_after [] (stored_blocks era seg) a.cells run.start c b
      go (inr (inr t)) =
          absurd (not-suc-le-zero (subst (λ (y : ℕ). 0 < y) (ap (λ (y : ℕ). uses y (named_cells a.records)) t.1 ∙ (run_free t.0 t.2).unnamed) u))

  pub write_exact : Exact (write era a seg k run).storage
  unfolding write cells' n₁
  write_exact c = go (within_run c run.start n₁)
    where
      new : ℕ
      new = uses c (named_cells (set a.records k (new_positions era run.start seg)))

      sum : new + uses c (cells_of (get_or a.records k [])) ≡ uses c (named_cells a.records) + uses c (numbers run.start n₁)
      sum = named_set c a.records k (new_positions era run.start seg) hk ∙ ap (λ (l : List ℕ). uses c (named_cells a.records) + uses c l) (new_cells era seg run.start)

      none : uses c (cells_of (get_or a.records k [])) ≡ 0
      none = free_cells_lem c (get_or a.records k []) fr

      go : (c < run.start) ⊎ ((run.start + n₁ ≤ c) ⊎ ((j : ℕ) × (c ≡ run.start + j) × (j < n₁))) → new ≡ filled_bit (get_or cells' c [])
      go (inl b) =
          (let z : new ≡ uses c (named_cells a.records) = omega (arith, sum, none, uses_low n₁ run.start c b) in z) ∙ x c
          ∙ ap filled_bit (sym (sets_before [] (stored_blocks era seg) a.cells run.start c b))
      go (inr (inl b)) =
          (let z : new ≡ uses c (named_cells a.records) = omega (arith, sum, none, uses_high n₁ run.start c b) in z) ∙ x c
          ∙ ap filled_bit (sym (sets_after [] (stored_blocks era seg) a.cells run.start c b))
      go (inr (inr t)) =
          (let z : new ≡ 1 =
          omega (
            arith,
            sum,
            none,
            ap (λ (y : ℕ). uses y (numbers run.start n₁)) t.1,
            uses_within n₁ run.start t.0 t.2,
            ap (λ (y : ℕ). uses y (named_cells a.records)) t.1,
            (run_free t.0 t.2).unnamed,
          ) in z)
          ∙ sym (ap (λ (y : ℕ). filled_bit (get_or cells' y [])) t.1 ∙ ap filled_bit (run_cells t.0 t.2) ∙ stored_bit_lem era seg t.0 t.2)

module _ (era : Era) (m : Measures) (a : Storage) (f : StorageFits m a) (x : Exact a) (seg : List Block) (w : Each (HasBytes m) seg) (sz : length seg ≡ m.segment_blocks)
    (k : ℕ) (hk : k < length a.records) (fr : is_free (get_or a.records k []) ≡ true) (ne : every (is_bare era) seg ≡ false)
    (run : Run) (ok : RunOk (Free a) (length (stored_blocks era seg)) run) where
  pub fill_ok : PlacedOk era m a (write era a seg k run).storage seg (write era a seg k run).pointers
  unfolding write cells' n₁
  fill_ok =
      placed_by era m a seg w k hk (new_positions era run.start seg) (sets a.cells run.start (stored_blocks era seg))
      (record {
        records =
            each_set (SegmentFits m) a.records k (new_positions era run.start seg) f.records
            (record {
              size = new_length era seg run.start ∙ sz;
              used = used_by (new_positions era run.start seg) (omega (arith, new_held era seg run.start, stored_some era seg ne));
            });
        cells = each_sets (HasBytes m) (stored_blocks era seg) a.cells run.start f.cells (stored_whole era m seg w);
      })
      (unfold write in write_exact era a x seg k hk fr run ok) (length-sets a.cells run.start (stored_blocks era seg))
      (λ i. new_counts era seg run.start i ∙ sym (ap (λ (n : ℕ). n + untick (is_bare era (get_or seg i []))) (free_none (get_or a.records k []) fr i) ∙ zero-add (untick (is_bare era (get_or seg i [])))))
      (λ i p. absurd (not-suc-le-zero (subst (λ (n : ℕ). 0 < n) (free_none (get_or a.records k []) fr i) p)))
      (λ j i h p.
      off era a x seg k hk fr run ok (cell_of (at a.records j i))
      (omega (arith, held_named (get_or a.records j []) i (counted_held (at a.records j i) p), named_one (cell_of (at a.records j i)) a.records j)))
      (λ i h e. new_blocks era (sets a.cells run.start (stored_blocks era seg)) seg run.start (run_cells era a x seg k hk fr run ok) i h e)
