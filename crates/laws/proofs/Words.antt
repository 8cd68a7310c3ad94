-- Every word of a sound state's table is below 2^32 if its days are, so that a table of 32-bit words can hold it.
use mathlib.Core.Path.{◌≡◌, refl, sym, subst}
use mathlib.Core.Bool.{Bool, true, false, false≢true}
use mathlib.Core.List.{List, [], ◌∷◌, map}
use Prim.Native.Nat.{ℕ, ◌+◌, ◌*◌, ◌^◌, ◌≤◌, ◌<◌, zero-le}
use native.Mathlib.Nat.{pow-le-pow_right}
use native.Mathlib.Omega.{arith}
use lib.ListN.{length, get_or, length-map}
use lib.Dec.{lit<}
use borrow.Author.Tests.{leb-true}
use Rattle.lists.specs.Lists.{every, rises}
use Rattle.lists.specs.Rows.{joined, rows}
use Rattle.lists.specs.Each.{Each}
use Rattle.lists.proofs.Each.{each_at, each_both, each_joined, each_map, each_map_at, each_of, each_weaken, each_append}
use Rattle.lists.proofs.Tests.{clause, by_test, every_head, every_tail}
use Rattle.lists.proofs.Rises.{rises_first, rises_length}
use Rattle.lists.proofs.Uses.{uses_in}
use Rattle.lists.proofs.Rows.{each_fill}
use Rattle.lists.proofs.Masks.{mask_lt}
use Rattle.model.specs.Measures.{Measures, Shape, is_base, slot_words, in_range, is_within}
use Rattle.model.specs.State.{Pointer, null_pointer, blank_pointer, direct, indirect, Position, null_position, blank_position, held, removed, Segment, Version, Till, staff, State}
use Rattle.model.specs.Records.{is_held, is_removed, is_blank_position, cell_of, count_of, named_cells}
use Rattle.model.specs.Table.{pointer_word, record_to_words, version_to_words, till_to_words, measure_word, header_to_words, state_to_words}
use Rattle.model.specs.Sound.{is_sound, is_till, is_numbered, are_traceable, has_length}
use Rattle.laws.proofs.Sweep.{named_one}
use Rattle.laws.proofs.Counts.{at}
use Rattle.laws.proofs.Place.{held_named}
use Rattle.laws.proofs.Named.{named_inside}
use Rattle.laws.proofs.Bounds.{count_bound}
use Rattle.laws.specs.Ranges.{Measured, Ranges}
use Rattle.laws.proofs.Ranges.{ranges}
use Rattle.laws.proofs.Rights.{rights_lt}
use Rattle.laws.proofs.Fits.{Fit, PointerFits, VersionFits, TillFits, StateFits, state_fits}

abbrev pub Word : ℕ → Type 0
Word n = n < 4294967296

-- ---- versions

pointer_word_lem : (p : Pointer) → PointerFits p → Word (pointer_word p)
unfolding pointer_word
pointer_word_lem null_pointer h = lit< tt
pointer_word_lem blank_pointer h = lit< tt
pointer_word_lem (direct k i) h = omega (arith, h.1)
pointer_word_lem (indirect n) h = omega (arith, h)

numbers_most : (low last : ℕ) (vs : List Version) → rises low last (map (λ (v : Version). v.number) vs) ≡ true → last ≤ 65535 → Each (λ (v : Version). v.number ≤ 65535) vs
numbers_most low last [] h l = tt
numbers_most low last (v ∷ vs) h l =
    let r = rises_first low last v.number (map (λ (v : Version). v.number) vs) h in (omega (arith, r.most, l), numbers_most v.number last vs r.rest l)

measure_word_lem : (m : Measures) (n : ℕ) → Word n → Word (measure_word m n)
unfolding measure_word
measure_word_lem m n h = by_test Word (is_base m) (λ e. lit< tt) (λ e. h)

lengths_most : (s : Shape) (st : State) (vs : List Version) → are_traceable s.measures.block_bytes s.capacities.blocks st.storage vs ≡ true
    → Each (λ (v : Version). v.length ≤ s.measures.block_bytes * s.capacities.blocks) vs
unfolding are_traceable has_length is_within
lengths_most s st [] h = tt
lengths_most s st (v ∷ vs) h = (leb-true _ _ (clause _ 1 (clause _ 0 (clause _ 0 h))), lengths_most s st vs (clause _ 3 h))

module _ (s : Shape) (fit : Fit s) (st : State) (h : is_sound s st ≡ true) (small : Word (s.measures.block_bytes * s.capacities.blocks))
    (days : Each (λ (t : Till). Each (λ (v : Version). Word v.day) t.versions) st.tills) where
  fits : StateFits s st
  fits = state_fits s st fit.proper.bytes fit.most h

  abbrev Small : Version → Type 0
  Small v = VersionFits s v × ((v.number ≤ 65535) × ((v.length ≤ s.measures.block_bytes * s.capacities.blocks) × Word v.day))

  version_words : (v : Version) → Small v → Each Word (version_to_words s.capacities.blocks v)
  unfolding version_to_words
  version_words v f = (
    omega (arith, f.1.0),
    (
      omega (arith, f.1.1, small),
      (
        f.1.1.1,
        each_fill Word s.capacities.blocks (map pointer_word v.pointers) (lit< tt)
            (each_map Word pointer_word v.pointers (each_weaken PointerFits _ pointer_word_lem v.pointers f.0.pointers)),
      ),
    ),
  )

  abbrev SmallTill : Till → Type 0
  SmallTill t = (length t.rights ≡ staff) × (t.last ≤ 65535) × (length t.versions ≤ 65535) × Each Small t.versions

  till_words_lem : (t : Till) → SmallTill t → Each Word (till_to_words s.capacities.versions s.capacities.blocks t)
  unfolding till_to_words
  till_words_lem t f = (
    omega (arith, f.1),
    (
      omega (arith, f.2),
      (
        omega (arith, rights_lt t.rights f.0),
        (
          lit< tt,
          each_fill Word (s.capacities.versions * slot_words s.capacities.blocks) (rows (version_to_words s.capacities.blocks) t.versions) (lit< tt)
              (each_joined Word Small (version_to_words s.capacities.blocks) version_words t.versions f.3),
        ),
      ),
    ),
  )

  small_till : (t : Till) → TillFits s t → is_till s st.storage t ≡ true → Each (λ (v : Version). Word v.day) t.versions → SmallTill t
  unfolding is_till is_numbered
  small_till t f e ds =
      let top : t.last ≤ 65535 = leb-true _ _ (clause _ 1 (clause _ 0 e)) in
      let many : 0 + length (map (λ (v : Version). v.number) t.versions) ≤ t.last = rises_length 0 t.last (map (λ (v : Version). v.number) t.versions) zero-le (clause _ 2 (clause _ 0 e)) in (
        f.rights,
        top,
        omega (arith, top, many, length-map t.versions (λ (v : Version). v.number)),
        each_both (VersionFits s) (λ (v : Version). (v.number ≤ 65535) × ((v.length ≤ s.measures.block_bytes * s.capacities.blocks) × Word v.day)) t.versions f.versions
            (each_both (λ (v : Version). v.number ≤ 65535) (λ (v : Version). (v.length ≤ s.measures.block_bytes * s.capacities.blocks) × Word v.day) t.versions
            (numbers_most 0 t.last t.versions (clause _ 2 (clause _ 0 e)) top)
            (each_both (λ (v : Version). v.length ≤ s.measures.block_bytes * s.capacities.blocks) (λ (v : Version). Word v.day) t.versions (lengths_most s st t.versions (clause _ 1 e)) ds)),
      )

  small_tills : (ts : List Till) → Each (TillFits s) ts → every (is_till s st.storage) ts ≡ true → Each (λ (t : Till). Each (λ (v : Version). Word v.day) t.versions) ts → Each SmallTill ts
  small_tills [] f e ds = tt
  small_tills (t ∷ ts) f e ds = (small_till t f.0 (every_head (is_till s st.storage) t ts e) ds.0, small_tills ts f.1 (every_tail (is_till s st.storage) t ts e) ds.1)

  -- ---- records

  sixteen : (n : ℕ) → n ≤ 16 → 2 ^ n ≤ 65536
  sixteen n l = pow-le-pow_right (lit< tt) l

  position_words : (k i : ℕ) → Word (cell_of (at st.storage.records k i)) × Word (count_of (at st.storage.records k i))
  unfolding is_sound in_range is_within
  position_words k i = (cell (is_held (at st.storage.records k i)) refl, omega (arith, count_bound s fit st h k i))
    where
      unheld : (p : Position) → is_held p ≡ false → cell_of p ≡ 0
      unheld null_position e = refl
      unheld blank_position e = refl
      unheld (held c n) e = absurd (false≢true (sym e))
      unheld removed e = refl

      cell : (b : Bool) → is_held (at st.storage.records k i) ≡ b → Word (cell_of (at st.storage.records k i))
      cell true e =
          let c : ℕ = cell_of (at st.storage.records k i) in
          let top : s.capacities.cells ≤ 32768 = leb-true _ _ (clause _ 1 (clause _ 4 (clause _ 0 h))) in
          omega (
            arith,
            top,
            named_inside s st h c
                (uses_in c (named_cells st.storage.records) (omega (arith, held_named (get_or st.storage.records k []) i e, named_one c st.storage.records k))),
          )
      cell false e = rw (unheld (at st.storage.records k i) e) (lit< tt)

  record_words_lem : (k : ℕ) → length (get_or st.storage.records k []) ≤ 16 → Each Word (record_to_words (get_or st.storage.records k []))
  unfolding record_to_words
  record_words_lem k l =
      let seg : Segment = get_or st.storage.records k [] in (
        omega (arith, mask_lt is_held seg, sixteen (length seg) l),
        (
          omega (arith, mask_lt is_removed seg, sixteen (length seg) l),
          (
            omega (arith, mask_lt is_blank_position seg, sixteen (length seg) l),
            each_append Word (map cell_of seg) (map count_of seg) (each_map_at Word cell_of null_position seg (λ j q. (position_words k j).0))
                (each_map_at Word count_of null_position seg (λ j q. (position_words k j).1)),
          ),
        ),
      )

  records_words : Each Word (joined (map record_to_words st.storage.records))
  records_words =
      each_joined Word (λ (seg : Segment). Each Word (record_to_words seg)) record_to_words (λ seg f. f) st.storage.records
      (each_of (λ (seg : Segment). Each Word (record_to_words seg)) [] st.storage.records (λ k l. record_words_lem k (size k l)))
    where
      size : (k : ℕ) → k < length st.storage.records → length (get_or st.storage.records k []) ≤ 16
      size k l = subst (λ (n : ℕ). n ≤ 16) (sym (each_at (λ (seg : Segment). length seg ≡ s.measures.segment_blocks) [] st.storage.records fits.records k l)) fit.most

  header_words_lem : Each Word (header_to_words s)
  unfolding header_to_words is_sound
  header_words_lem =
      let r : Ranges s = ranges s (clause _ 0 h) in
      let m : Measured s.measures = r.measured in (
        omega (arith, r.tills),
        (
          omega (arith, r.versions),
          (
            omega (arith, r.blocks),
            (
              omega (arith, r.records),
              (
                omega (arith, r.cells),
                (
                  measure_word_lem s.measures _ (omega (arith, m.most_bytes)),
                  (measure_word_lem s.measures _ (omega (arith, m.most_blocks)), (measure_word_lem s.measures _ (omega (arith, m.most_percent)), tt)),
                ),
              ),
            ),
          ),
        ),
      )

  pub words_fit : Each Word (state_to_words s st)
  unfolding state_to_words is_sound
  words_fit =
      each_append Word (header_to_words s) _ header_words_lem
      (each_append Word (joined (map (till_to_words s.capacities.versions s.capacities.blocks) st.tills)) _
      (each_joined Word SmallTill (till_to_words s.capacities.versions s.capacities.blocks) till_words_lem st.tills (small_tills st.tills fits.tills (clause _ 4 h) days)) records_words)
