-- Capacities in range, as numbers; and the header that gives back the measures that it was written with.
use mathlib.Core.Path.{◌≡◌, refl, sym, ap, ◌∙◌}
use mathlib.Core.Bool.{Bool, true, false, cond}
use mathlib.Core.Logic.{◌↔◌}
use mathlib.Core.List.{[], ◌∷◌}
use Prim.Native.Nat.{ℕ, ◌*◌, ◌/◌, ◌%◌, ◌≤◌, ◌<◌}
use native.Mathlib.Nat.{le-div_iff_mul-le, mul-le-mul}
use native.Mathlib.Omega.{arith}
use lib.Dec.{lit≤}
use borrow.Author.Tests.{eqb-true, ne_eqb, leb-true}
use Rattle.lists.specs.Lists.{every, all_zero, is_in}
use Rattle.lists.proofs.Each.{each_in}
use Rattle.lists.proofs.Tests.{clause}
use Rattle.model.specs.Measures.{Measures, Shape, base_measures, is_base, is_within, are_measures, in_range}
use Rattle.model.specs.State.{State}
use Rattle.model.specs.Table.{measure_word, measures_in, header_to_words, state_to_words, shape_of}
use Rattle.laws.specs.Ranges.{Measured, Ranges}

-- ---- the three measures

abbrev Bytes : ℕ → Type 0
Bytes n = (64 ≤ n) × (n ≤ 512) × (n % 64 ≡ 0)

abbrev Blocks : ℕ → Type 0
Blocks n = (4 ≤ n) × (n ≤ 16)

bytes_in : (n : ℕ) → is_in n (64 ∷ 128 ∷ 256 ∷ 512 ∷ []) ≡ true → Bytes n
bytes_in n h =
    each_in Bytes n (64 ∷ 128 ∷ 256 ∷ 512 ∷ []) h
    ((lit≤ tt, lit≤ tt, refl), ((lit≤ tt, lit≤ tt, refl), ((lit≤ tt, lit≤ tt, refl), ((lit≤ tt, lit≤ tt, refl), tt))))

blocks_in : (n : ℕ) → is_in n (4 ∷ 8 ∷ 16 ∷ []) ≡ true → Blocks n
blocks_in n h = each_in Blocks n (4 ∷ 8 ∷ 16 ∷ []) h ((lit≤ tt, lit≤ tt), ((lit≤ tt, lit≤ tt), ((lit≤ tt, lit≤ tt), tt)))

pub measures_in_lem : (m : Measures) → are_measures m ≡ true → Measured m
unfolding are_measures
measures_in_lem m h =
    let b = bytes_in m.block_bytes (clause _ 0 h) in
    let n = blocks_in m.segment_blocks (clause _ 1 h) in
    record { some_bytes = b.0; most_bytes = b.1; pieces = b.2; some_blocks = n.0; most_blocks = n.1; most_percent = leb-true _ _ (clause _ 2 h) }

-- ---- all eight

module _ (s : Shape) (h : in_range s ≡ true) where
  pub measured : Measured s.measures
  unfolding in_range
  measured = measures_in_lem s.measures (clause _ 5 h)

  image_most : s.capacities.blocks * s.measures.block_bytes ≤ 65536
  unfolding in_range is_within
  image_most =
      let some : 0 < s.measures.block_bytes = omega (arith, measured.some_bytes) in
      let e : (s.capacities.blocks ≤ 65536 / s.measures.block_bytes) ↔ (s.capacities.blocks * s.measures.block_bytes ≤ 65536) = le-div_iff_mul-le some in
      e.0 (leb-true _ _ (clause _ 1 (clause _ 2 h)))

  blocks_most : s.capacities.blocks ≤ 1024
  blocks_most =
      let a : s.capacities.blocks * 64 ≤ s.capacities.blocks * s.measures.block_bytes = mul-le-mul (omega arith) measured.some_bytes in
      omega (arith, a, image_most)

  pub ranges : Ranges s
  unfolding in_range is_within
  ranges = record {
    some_tills = leb-true _ _ (clause _ 0 (clause _ 0 h));
    tills = leb-true _ _ (clause _ 1 (clause _ 0 h));
    some_versions = leb-true _ _ (clause _ 0 (clause _ 1 h));
    versions = leb-true _ _ (clause _ 1 (clause _ 1 h));
    some_blocks = leb-true _ _ (clause _ 0 (clause _ 2 h));
    blocks = blocks_most;
    some_records = leb-true _ _ (clause _ 0 (clause _ 3 h));
    records = leb-true _ _ (clause _ 1 (clause _ 3 h));
    some_cells = leb-true _ _ (clause _ 0 (clause _ 4 h));
    cells = leb-true _ _ (clause _ 1 (clause _ 4 h));
    measured = measured;
    image = image_most;
  }

-- ---- the header's last three words

base_is : (m : Measures) → is_base m ≡ true → base_measures ≡ m
unfolding is_base
base_is m h =
    ap (λ (n : ℕ). record { block_bytes = n; segment_blocks = 8; rebuild_percent = 20 }) (sym (eqb-true _ _ (clause _ 0 h)))
    ∙ ap (λ (n : ℕ). record { block_bytes = m.block_bytes; segment_blocks = n; rebuild_percent = 20 }) (sym (eqb-true _ _ (clause _ 1 h)))
    ∙ ap (λ (n : ℕ). record { block_bytes = m.block_bytes; segment_blocks = m.segment_blocks; rebuild_percent = n }) (sym (eqb-true _ _ (clause _ 2 h)))

measures_back : (m : Measures) → 64 ≤ m.block_bytes
    → measures_in (measure_word m m.block_bytes) (measure_word m m.segment_blocks) (measure_word m m.rebuild_percent) ≡ m
unfolding measure_word measures_in all_zero every
measures_back m h = go (is_base m) refl
  where
    go : (b : Bool) → is_base m ≡ b → measures_in (cond b 0 m.block_bytes) (cond b 0 m.segment_blocks) (cond b 0 m.rebuild_percent) ≡ m
    go true e = base_is m e
    go false e = rw (ne_eqb m.block_bytes 0 (λ z. omega (arith, z, h)))

pub header_back : (s : Shape) (st : State) → 64 ≤ s.measures.block_bytes → shape_of (state_to_words s st) ≡ s
unfolding shape_of state_to_words header_to_words
header_back s st h = ap (λ (m : Measures). record { measures = m; capacities = s.capacities }) (measures_back s.measures h)
