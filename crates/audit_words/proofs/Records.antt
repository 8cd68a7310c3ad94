-- A record's words are in order if and only if they are those of the record that they are read as, and it is in use.
use mathlib.Core.Path.{◌≡◌, refl, sym, ap, ap₂, ◌∙◌}
use mathlib.Core.Bool.{Bool, true, false, cond, ◌||◌}
use mathlib.Core.List.{List, [], ◌∷◌, ◌++◌, map}
use Prim.Native.Nat.{ℕ, zero, suc, ◌+◌, ◌/◌, ◌%◌, ◌^◌, ◌<◌}
use native.Mathlib.Nat.{suc_inj, pow-suc}
use native.Mathlib.Omega.{arith}
use borrow.Author.Tests.{eqb-true, eqb-false, lt-ltb, le-ltb}
use lib.Dec.{eqb, ltb}
use lib.ListN.{length, get_or, take, drop, length-drop, length-map, get_or-append, get_or-map, take-append-drop}
use lib.Seq.{get_or-append-add, take_all, drop-drop, get_or-take, get_or-drop}
use Rattle.lists.specs.Lists.{every, count}
use Rattle.lists.specs.Masks.{mask_of}
use Rattle.lists.proofs.Masks.{bit_zero, half_bit, mask_bit, mask_lt}
use Rattle.lists.proofs.Tests.{or_true, or_left}
use Rattle.lists.proofs.Checkers.{clash}
use Rattle.lists.proofs.Slices.{drop_next}
use Rattle.model.specs.Measures.{record_words}
use Rattle.model.specs.State.{Position, null_position, blank_position, held, removed, Segment}
use Rattle.model.specs.Records.{is_held, is_removed, is_blank_position, is_free, cell_of, count_of}
use Rattle.model.specs.Table.{position_of, positions_in, segment_in, record_to_words}
use Rattle.model.specs.Sound.{is_free_or_holds}
use Rattle.audit_words.specs.Words.{bit_of, PositionForm, RecordForm}
use Rattle.audit_words.proofs.Positions.{cells_long, counts_long, segment_long}

-- ---- positions read from masks, cells and counts: these again

-- position i of masks, cells and counts
record Form (h r b c n i : ℕ) : Type 0 where
  kept : bit_of h i ≡ 1 → bit_of r i ≡ 0
  stored : bit_of h i ≡ 1 → bit_of b i ≡ 0
  gone : bit_of r i ≡ 1 → bit_of b i ≡ 0
  cell : bit_of h i ≡ 0 → c ≡ 0
  count : bit_of h i ≡ 0 → n ≡ 0

record FormRead (h r b : ℕ) (cs ns : List ℕ) : Type 0 where
  helds : mask_of is_held (positions_in h r b cs ns) ≡ h
  removeds : mask_of is_removed (positions_in h r b cs ns) ≡ r
  blanks : mask_of is_blank_position (positions_in h r b cs ns) ≡ b
  cells : map cell_of (positions_in h r b cs ns) ≡ cs
  counts : map count_of (positions_in h r b cs ns) ≡ ns

module _ (c n : ℕ) where
  held_bit : (h r b : ℕ) → h < 2 → cond (is_held (position_of h r b c n)) 1 0 ≡ h
  unfolding position_of
  held_bit zero zero zero l = refl
  held_bit zero zero (suc b) l = refl
  held_bit zero (suc r) b l = refl
  held_bit (suc h) r b l = omega arith

  removed_bit : (h r b : ℕ) → h < 2 → r < 2 → (h ≡ 1 → r ≡ 0) → cond (is_removed (position_of h r b c n)) 1 0 ≡ r
  unfolding position_of
  removed_bit zero zero zero l g o = refl
  removed_bit zero zero (suc b) l g o = refl
  removed_bit zero (suc r) b l g o = omega arith
  removed_bit (suc h) r b l g o = sym (o (omega arith))

  blank_bit_lem : (h r b : ℕ) → h < 2 → r < 2 → b < 2 → (h ≡ 1 → b ≡ 0) → (r ≡ 1 → b ≡ 0) → cond (is_blank_position (position_of h r b c n)) 1 0 ≡ b
  unfolding position_of
  blank_bit_lem zero zero zero l g k o p = refl
  blank_bit_lem zero zero (suc b) l g k o p = omega arith
  blank_bit_lem zero (suc r) b l g k o p = sym (p (omega arith))
  blank_bit_lem (suc h) r b l g k o p = sym (o (omega arith))

  cell_of_lem : (h r b : ℕ) → (h ≡ 0 → c ≡ 0) → cell_of (position_of h r b c n) ≡ c
  unfolding position_of
  cell_of_lem zero zero zero z = sym (z refl)
  cell_of_lem zero zero (suc b) z = sym (z refl)
  cell_of_lem zero (suc r) b z = sym (z refl)
  cell_of_lem (suc h) r b z = refl

  count_of_lem : (h r b : ℕ) → (h ≡ 0 → n ≡ 0) → count_of (position_of h r b c n) ≡ n
  unfolding position_of
  count_of_lem zero zero zero z = sym (z refl)
  count_of_lem zero zero (suc b) z = sym (z refl)
  count_of_lem zero (suc r) b z = sym (z refl)
  count_of_lem (suc h) r b z = refl

keeps : (h r b : ℕ) (cs ns : List ℕ) → length cs ≡ length ns → h < 2 ^ length cs → r < 2 ^ length cs → b < 2 ^ length cs
    → ((i : ℕ) → i < length cs → Form h r b (get_or cs i 0) (get_or ns i 0) i) → FormRead h r b cs ns
unfolding positions_in mask_of
keeps h r b [] [] e hh hr hb f = record { helds = omega arith; removeds = omega arith; blanks = omega arith; cells = refl; counts = refl }
keeps h r b [] (n ∷ ns) e hh hr hb f = absurd (omega arith)
keeps h r b (c ∷ cs) [] e hh hr hb f = absurd (omega arith)
keeps h r b (c ∷ cs) (n ∷ ns) e hh hr hb f =
    let k = keeps (h / 2) (r / 2) (b / 2) cs ns (suc_inj e) (half h hh) (half r hr) (half b hb) (λ i l. down i (f (suc i) (omega arith))) in
    let g = f 0 (omega arith) in
    let x : cond (is_held (position_of (h % 2) (r % 2) (b % 2) c n)) 1 0 ≡ h % 2 = held_bit c n (h % 2) (r % 2) (b % 2) (omega arith) in
    let y : cond (is_removed (position_of (h % 2) (r % 2) (b % 2) c n)) 1 0 ≡ r % 2 =
    removed_bit c n (h % 2) (r % 2) (b % 2) (omega arith) (omega arith) (λ o. sym (bit_zero r) ∙ g.kept (bit_zero h ∙ o)) in
    let z : cond (is_blank_position (position_of (h % 2) (r % 2) (b % 2) c n)) 1 0 ≡ b % 2 =
    blank_bit_lem c n (h % 2) (r % 2) (b % 2) (omega arith) (omega arith) (omega arith) (λ o. sym (bit_zero b) ∙ g.stored (bit_zero h ∙ o))
    (λ o. sym (bit_zero b) ∙ g.gone (bit_zero r ∙ o)) in
    record {
      helds = omega (arith, x, k.helds);
      removeds = omega (arith, y, k.removeds);
      blanks = omega (arith, z, k.blanks);
      cells = ap₂ ◌∷◌ (cell_of_lem c n (h % 2) (r % 2) (b % 2) (λ z. g.cell (bit_zero h ∙ z))) k.cells;
      counts = ap₂ ◌∷◌ (count_of_lem c n (h % 2) (r % 2) (b % 2) (λ z. g.count (bit_zero h ∙ z))) k.counts;
    }
  where
    half : (m : ℕ) → m < 2 ^ suc (length cs) → m / 2 < 2 ^ length cs
    half m l = omega (arith, pow-suc 2 (length cs))

    down : (i : ℕ) → Form h r b (get_or cs i 0) (get_or ns i 0) (suc i) → Form (h / 2) (r / 2) (b / 2) (get_or cs i 0) (get_or ns i 0) i
    down i f = record {
      kept = λ o. half_bit r i ∙ f.kept (sym (half_bit h i) ∙ o);
      stored = λ o. half_bit b i ∙ f.stored (sym (half_bit h i) ∙ o);
      gone = λ o. half_bit b i ∙ f.gone (sym (half_bit r i) ∙ o);
      cell = λ z. f.cell (sym (half_bit h i) ∙ z);
      count = λ z. f.count (sym (half_bit h i) ∙ z);
    }

-- ---- in use

count_zero : (seg : Segment) → mask_of is_held seg ≡ 0 → count is_held seg ≡ 0
unfolding mask_of count
count_zero [] h = refl
count_zero (p ∷ seg) h = omega (arith, h, count_zero seg (omega (arith, h)))

mask_zero : (seg : Segment) → count is_held seg ≡ 0 → mask_of is_held seg ≡ 0
unfolding mask_of count
mask_zero [] h = refl
mask_zero (p ∷ seg) h = omega (arith, h, mask_zero seg (omega (arith, h)))

-- none is removed and none blank
abbrev Plain : Segment → Type 0
Plain seg = (mask_of is_removed seg ≡ 0) × (mask_of is_blank_position seg ≡ 0)

free_mask : (seg : Segment) → is_free seg ≡ true → Plain seg
unfolding mask_of is_free every
free_mask [] h = (refl, refl)
free_mask (null_position ∷ seg) h = let r = free_mask seg h in (omega (arith, r.0), omega (arith, r.1))
free_mask (blank_position ∷ seg) h = absurd (clash refl h)
free_mask (held c n ∷ seg) h = absurd (clash refl h)
free_mask (removed ∷ seg) h = absurd (clash refl h)

mask_free : (seg : Segment) → mask_of is_held seg ≡ 0 → Plain seg → is_free seg ≡ true
unfolding mask_of is_free every
mask_free [] h g = refl
mask_free (null_position ∷ seg) h g = mask_free seg (omega arith) (omega (arith, g.0), omega (arith, g.1))
mask_free (blank_position ∷ seg) h g = absurd (omega (arith, g.1))
mask_free (held c n ∷ seg) h g = absurd (omega arith)
mask_free (removed ∷ seg) h g = absurd (omega (arith, g.0))

or_first : (a b : Bool) → (a || b) ≡ true → b ≡ false → a ≡ true
or_first true b e f = refl
or_first false b e f = absurd (clash f e)

pub used_of : (seg : Segment) → (mask_of is_held seg ≡ 0 → Plain seg) → is_free_or_holds seg ≡ true
unfolding is_free_or_holds
used_of seg u = go (eqb (mask_of is_held seg) 0) refl
  where
    positive : (n : ℕ) → (n ≡ 0 → ⊥) → 0 < n
    positive n h = omega arith

    go : (t : Bool) → eqb (mask_of is_held seg) 0 ≡ t → (is_free seg || ltb 0 (count is_held seg)) ≡ true
    go true e = let z = eqb-true (mask_of is_held seg) 0 e in or_left (is_free seg) _ (mask_free seg z (u z))
    go false e = rw (lt-ltb 0 (count is_held seg) (positive (count is_held seg) (λ z. eqb-false (mask_of is_held seg) 0 e (mask_zero seg z)))) (or_true (is_free seg))

pub used_at : (seg : Segment) → is_free_or_holds seg ≡ true → mask_of is_held seg ≡ 0 → Plain seg
unfolding is_free_or_holds
used_at seg h z =
    free_mask seg (or_first (is_free seg) (ltb 0 (count is_held seg)) h (le-ltb 0 (count is_held seg) (let e = count_zero seg z in omega arith)))

-- ---- a record's words

pub record IsRecordRow (n : ℕ) (row : List ℕ) : Type 0 where
  pub words : record_to_words (segment_in n row) ≡ row
  pub used : is_free_or_holds (segment_in n row) ≡ true

module _ (n : ℕ) (row : List ℕ) (l : length row ≡ record_words n) where
  kept : RecordForm n row → FormRead (get_or row 0 0) (get_or row 1 0) (get_or row 2 0) (take n (drop 3 row)) (take n (drop (3 + n) row))
  kept f =
      let e : length (take n (drop 3 row)) ≡ n = cells_long n row l in
      keeps _ _ _ _ _ (e ∙ sym (counts_long n row l)) (rw e f.helds) (rw e f.removeds) (rw e f.blanks) (λ i h. at i (rw e at h))
    where
      at : (i : ℕ) → i < n → Form (get_or row 0 0) (get_or row 1 0) (get_or row 2 0) (get_or (take n (drop 3 row)) i 0) (get_or (take n (drop (3 + n) row)) i 0) i
      at i h =
          let p = f.positions i h in
          record { kept = p.kept; stored = p.stored; gone = p.gone; cell = λ z. get_d_cut 3 i h ∙ p.cell z; count = λ z. get_d_cut (3 + n) i h ∙ p.count z }
        where
          get_d_cut : (a i : ℕ) → i < n → get_or (take n (drop a row)) i 0 ≡ get_or row (a + i) 0
          get_d_cut a i h = get_or-take n (drop a row) i 0 h ∙ get_or-drop a row i 0

  -- the words, one by one
  apart : row ≡ get_or row 0 0 ∷ get_or row 1 0 ∷ get_or row 2 0 ∷ (take n (drop 3 row) ++ take n (drop (3 + n) row))
  apart =
      drop_next row 0 0 (omega (arith, l)) ∙ ap (λ (r : List ℕ). get_or row 0 0 ∷ r) (drop_next row 1 0 (omega (arith, l))
      ∙ ap (λ (r : List ℕ). get_or row 1 0 ∷ r) (drop_next row 2 0 (omega (arith, l))
      ∙ ap (λ (r : List ℕ). get_or row 2 0 ∷ r)
      (sym (take-append-drop n (drop 3 row))
      ∙ ap (λ (r : List ℕ). take n (drop 3 row) ++ r) (drop-drop n 3 row ∙ sym (take_all n (drop (3 + n) row) (omega (arith, length-drop (3 + n) row)))))))

  pub record_canonical : RecordForm n row → IsRecordRow n row
  unfolding record_to_words segment_in
  record_canonical f =
      let k = kept f in
      record {
        words = rw (k.helds, k.removeds, k.blanks, k.cells, k.counts) (sym apart);
        used = used_of _ (λ z. let u = f.used (sym k.helds ∙ z) in (k.removeds ∙ u.0, k.blanks ∙ u.1));
      }

  module _ (s : IsRecordRow n row) where
    abbrev seg : Segment
    seg = segment_in n row

    long : length seg ≡ n
    long = segment_long n row l

    word : (j : ℕ) → get_or (record_to_words seg) j 0 ≡ get_or row j 0
    word j = ap (λ (x : List ℕ). get_or x j 0) s.words

    helds : mask_of is_held seg ≡ get_or row 0 0
    unfolding record_to_words
    helds = word 0

    removeds : mask_of is_removed seg ≡ get_or row 1 0
    unfolding record_to_words
    removeds = word 1

    blanks : mask_of is_blank_position seg ≡ get_or row 2 0
    unfolding record_to_words
    blanks = word 2

    cell : (i : ℕ) → i < n → get_or row (3 + i) 0 ≡ cell_of (get_or seg i null_position)
    unfolding record_to_words
    cell i h =
        sym (word (3 + i))
        ∙ ap (λ (j : ℕ). get_or (record_to_words seg) j 0) (let e : 3 + i ≡ suc (suc (suc i)) = omega arith in e)
        ∙ get_or-append (map cell_of seg) (map count_of seg) 0 i (omega (arith, length-map seg cell_of, long))
        ∙ get_or-map cell_of seg i null_position

    counts : (i : ℕ) → i < n → get_or row (3 + n + i) 0 ≡ count_of (get_or seg i null_position)
    unfolding record_to_words
    counts i h =
        sym (word (3 + n + i))
        ∙ ap (λ (j : ℕ). get_or (record_to_words seg) j 0) (let e : 3 + n + i ≡ suc (suc (suc (length (map cell_of seg) + i))) = omega (arith, length-map seg cell_of, long) in e)
        ∙ get_or-append-add (map cell_of seg) (map count_of seg) i 0
        ∙ get_or-map count_of seg i null_position

    position : (i : ℕ) → i < n → PositionForm n row i
    position i h =
        let hb : bit_of (get_or row 0 0) i ≡ cond (is_held (get_or seg i null_position)) 1 0 = rw (← helds) (mask_bit is_held seg i null_position (rw long h)) in
        let rb : bit_of (get_or row 1 0) i ≡ cond (is_removed (get_or seg i null_position)) 1 0 = rw (← removeds) (mask_bit is_removed seg i null_position (rw long h)) in
        let bb : bit_of (get_or row 2 0) i ≡ cond (is_blank_position (get_or seg i null_position)) 1 0 = rw (← blanks) (mask_bit is_blank_position seg i null_position (rw long h)) in
        record {
          kept = λ o. rb ∙ held_kept (get_or seg i null_position) (sym hb ∙ o);
          stored = λ o. bb ∙ held_stored (get_or seg i null_position) (sym hb ∙ o);
          gone = λ o. bb ∙ removed_gone (get_or seg i null_position) (sym rb ∙ o);
          cell = λ z. cell i h ∙ no_cell (get_or seg i null_position) (sym hb ∙ z);
          count = λ z. counts i h ∙ no_count (get_or seg i null_position) (sym hb ∙ z);
        }
      where
        held_kept : (p : Position) → ◌≡◌ {A = ℕ} (cond (is_held p) 1 0) 1 → ◌≡◌ {A = ℕ} (cond (is_removed p) 1 0) 0
        held_kept null_position e = refl
        held_kept blank_position e = refl
        held_kept (held c n) e = refl
        held_kept removed e = absurd (omega arith)

        held_stored : (p : Position) → ◌≡◌ {A = ℕ} (cond (is_held p) 1 0) 1 → ◌≡◌ {A = ℕ} (cond (is_blank_position p) 1 0) 0
        held_stored null_position e = refl
        held_stored blank_position e = absurd (omega arith)
        held_stored (held c n) e = refl
        held_stored removed e = refl

        removed_gone : (p : Position) → ◌≡◌ {A = ℕ} (cond (is_removed p) 1 0) 1 → ◌≡◌ {A = ℕ} (cond (is_blank_position p) 1 0) 0
        removed_gone null_position e = refl
        removed_gone blank_position e = absurd (omega arith)
        removed_gone (held c n) e = refl
        removed_gone removed e = refl

        no_cell : (p : Position) → ◌≡◌ {A = ℕ} (cond (is_held p) 1 0) 0 → cell_of p ≡ 0
        no_cell null_position e = refl
        no_cell blank_position e = refl
        no_cell (held c n) e = absurd (omega arith)
        no_cell removed e = refl

        no_count : (p : Position) → ◌≡◌ {A = ℕ} (cond (is_held p) 1 0) 0 → count_of p ≡ 0
        no_count null_position e = refl
        no_count blank_position e = refl
        no_count (held c n) e = absurd (omega arith)
        no_count removed e = refl

    canonical_form : RecordForm n row
    canonical_form = record {
      helds = rw helds at (rw long at (mask_lt is_held seg));
      removeds = rw removeds at (rw long at (mask_lt is_removed seg));
      blanks = rw blanks at (rw long at (mask_lt is_blank_position seg));
      positions = position;
      used = λ z. let u = used_at seg s.used (helds ∙ z) in (sym removeds ∙ u.0, sym blanks ∙ u.1);
    }

  pub canonical_record : IsRecordRow n row → RecordForm n row
  canonical_record s = canonical_form s
