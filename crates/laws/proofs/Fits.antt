-- What a sound state's numbers are below, so that words can hold them; and the measures that the laws are for.
use mathlib.Core.Path.{◌≡◌, sym, subst}
use mathlib.Core.Bool.{true, not, false≢true}
use mathlib.Core.List.{List, [], ◌∷◌}
use Prim.Native.Nat.{ℕ, zero, suc, ◌+◌, ◌*◌, ◌≤◌, ◌<◌, zero-le, suc-le-suc}
use native.Mathlib.Nat.{le_of_suc-le-suc, zero-lt-suc, suc-mul, mul_comm, div-lt_iff_lt-mul}
use native.Mathlib.Omega.{arith}
use lib.ListN.{length, get_or}
use borrow.Author.Tests.{eqb-true, leb-true}
use Rattle.lists.specs.Lists.{every}
use Rattle.lists.specs.Each.{Each}
use Rattle.lists.proofs.Tests.{clause}
use Rattle.lists.proofs.Each.{every_each, each_at}
use Rattle.model.specs.Measures.{Measures, Shape, is_within, in_range, parts_for}
use Rattle.model.specs.State.{Block, Pointer, null_pointer, blank_pointer, direct, indirect, null_position, Segment, Version, Till, staff, State}
use Rattle.model.specs.Records.{is_held, position_at}
use Rattle.model.specs.Table.{kind_unit, shape_of, state_to_words}
use Rattle.model.specs.Sound.{is_sound, is_shaped, has_length, is_numbered, is_null, resolves, next_pointers, are_traceable, is_till}
use Rattle.laws.proofs.Ranges.{measured, ranges, header_back}

-- ---- measures

-- Blocks and segments are not empty. The laws of states are for any such measures.
pub record Proper (m : Measures) : Type 0 where
  pub bytes : 0 < m.block_bytes
  pub blocks : 0 < m.segment_blocks

-- A position fits its four bits of a pointer's word, and a table's header gives back the shape that it was written with. The laws of tables are for
-- any such shape.
pub record Fit (s : Shape) : Type 0 where
  pub proper : Proper s.measures
  pub most : s.measures.segment_blocks ≤ 16
  pub back : (st : State) → shape_of (state_to_words s st) ≡ s

pub range_fit : (s : Shape) → in_range s ≡ true → Fit s
range_fit s h =
    let m = measured s h in
    record {
      proper = record { bytes = omega (arith, m.some_bytes); blocks = omega (arith, m.some_blocks) };
      most = m.most_blocks;
      back = λ st. header_back s st m.some_bytes;
    }

-- ---- what fits

abbrev pub PointerFits : Pointer → Type 0
PointerFits null_pointer = Unit {0}
PointerFits blank_pointer = Unit {0}
PointerFits (direct k i) = (i < 16) × (k * 16 + i < kind_unit)
PointerFits (indirect n) = n < kind_unit

pub record VersionFits (s : Shape) (v : Version) : Type 0 where
  pub pointers : Each PointerFits v.pointers
  pub blocks : length v.pointers ≡ parts_for s.measures.block_bytes v.length
  pub most : length v.pointers ≤ s.capacities.blocks

pub record TillFits (s : Shape) (t : Till) : Type 0 where
  pub versions : Each (VersionFits s) t.versions
  pub most : length t.versions ≤ s.capacities.versions
  pub rights : length t.rights ≡ staff

pub record StateFits (s : Shape) (st : State) : Type 0 where
  pub tills : Each (TillFits s) st.tills
  pub till_count : length st.tills ≡ s.capacities.tills
  pub records : Each (λ (seg : Segment). length seg ≡ s.measures.segment_blocks) st.storage.records
  pub record_count : length st.storage.records ≡ s.capacities.records
  pub cells : Each (λ (b : Block). length b ≡ s.measures.block_bytes) st.storage.cells
  pub cell_count : length st.storage.cells ≡ s.capacities.cells

-- ---- a sound state fits

-- what is read past the end of a record, or of the records, is not held; past the end of the pointers it is null
pub held_in : (seg : Segment) (i : ℕ) → is_held (get_or seg i null_position) ≡ true → i < length seg
held_in [] i h = absurd (false≢true h)
held_in (p ∷ seg) zero h = zero-lt-suc (length seg)
held_in (p ∷ seg) (suc i) h = suc-le-suc (held_in seg i h)

pub record_in_lem : (segs : List Segment) (k i : ℕ) → is_held (get_or (get_or segs k []) i null_position) ≡ true → k < length segs
record_in_lem [] k i h = absurd (false≢true h)
record_in_lem (seg ∷ segs) zero i h = zero-lt-suc (length segs)
record_in_lem (seg ∷ segs) (suc k) i h = suc-le-suc (record_in_lem segs k i h)

pub pointer_in : (ps : List Pointer) (n : ℕ) → not (is_null (get_or ps n null_pointer)) ≡ true → n < length ps
pointer_in [] n h = absurd (false≢true h)
pointer_in (p ∷ ps) zero h = zero-lt-suc (length ps)
pointer_in (p ∷ ps) (suc n) h = suc-le-suc (pointer_in ps n h)

-- the limits that a pointer word needs
record Limits (s : Shape) (st : State) : Type 0 where
  block : 0 < s.measures.block_bytes
  segment : s.measures.segment_blocks ≤ 16
  blocks : s.capacities.blocks ≤ 1024
  record_count : length st.storage.records ≤ 4096
  records : Each (λ (seg : Segment). length seg ≡ s.measures.segment_blocks) st.storage.records

module _ (s : Shape) (st : State) (l : Limits s st) where
  pointer_fits : (newer : List Pointer) → length newer ≤ s.capacities.blocks → (p : Pointer) → resolves st.storage newer p ≡ true → PointerFits p
  unfolding position_at
  pointer_fits newer b null_pointer h = tt
  pointer_fits newer b blank_pointer h = tt
  pointer_fits newer b (direct k i) h =
      let hk : k < length st.storage.records = record_in_lem st.storage.records k i h in
      let hi : i < length (get_or st.storage.records k []) = held_in (get_or st.storage.records k []) i h in
      let hs : length (get_or st.storage.records k []) ≡ s.measures.segment_blocks =
      each_at (λ (seg : Segment). length seg ≡ s.measures.segment_blocks) [] st.storage.records l.records k hk in
      (omega (arith, hi, hs, l.segment), omega (arith, hi, hs, hk, l.segment, l.record_count))
  pointer_fits newer b (indirect n) h = omega (arith, pointer_in newer n h, l.blocks)

  next_most : (vs : List Version) → Each (VersionFits s) vs → length (next_pointers vs) ≤ s.capacities.blocks
  unfolding next_pointers
  next_most [] h = zero-le
  next_most (v ∷ vs) h = h.0.most

  -- bytes that fit the blocks need no more than them
  parts_most : (n : ℕ) → n ≤ s.measures.block_bytes * s.capacities.blocks → parts_for s.measures.block_bytes n ≤ s.capacities.blocks
  unfolding parts_for
  parts_most n h =
      le_of_suc-le-suc ((div-lt_iff_lt-mul l.block).1
      (omega (arith, h, l.block, suc-mul s.capacities.blocks s.measures.block_bytes, mul_comm s.capacities.blocks s.measures.block_bytes)))

  version_fits : (v : Version) (newer : List Version) → Each (VersionFits s) newer → has_length s.measures.block_bytes s.capacities.blocks v ≡ true
      → every (resolves st.storage (next_pointers newer)) v.pointers ≡ true → VersionFits s v
  unfolding has_length is_within
  version_fits v newer a h g =
      let n : length v.pointers ≡ parts_for s.measures.block_bytes v.length = eqb-true _ _ (clause _ 1 h) in
      let top : v.length ≤ s.measures.block_bytes * s.capacities.blocks = leb-true _ _ (clause _ 1 (clause _ 0 h)) in
      record {
        pointers = every_each (resolves st.storage (next_pointers newer)) PointerFits (pointer_fits (next_pointers newer) (next_most newer a)) v.pointers g;
        blocks = n;
        most = subst (λ (k : ℕ). k ≤ s.capacities.blocks) (sym n) (parts_most v.length top);
      }

  versions_fit : (vs : List Version) → are_traceable s.measures.block_bytes s.capacities.blocks st.storage vs ≡ true → Each (VersionFits s) vs
  unfolding are_traceable
  versions_fit [] h = tt
  versions_fit (v ∷ newer) h =
      let rest = versions_fit newer (clause _ 3 h) in
      (version_fits v newer rest (clause _ 0 h) (clause _ 1 h), rest)

  till_fits : (t : Till) → is_till s st.storage t ≡ true → TillFits s t
  unfolding is_till is_numbered
  till_fits t h = record { versions = versions_fit t.versions (clause _ 1 h); most = leb-true _ _ (clause _ 0 (clause _ 0 h)); rights = eqb-true _ _ (clause _ 2 h) }

pub state_fits : (s : Shape) (st : State) → 0 < s.measures.block_bytes → s.measures.segment_blocks ≤ 16 → is_sound s st ≡ true → StateFits s st
unfolding is_sound is_shaped
state_fits s st hb hs h =
    let r : in_range s ≡ true = clause _ 0 h in
    let shaped : is_shaped s st ≡ true = clause _ 1 h in
    let segs : Each (λ (seg : Segment). length seg ≡ s.measures.segment_blocks) st.storage.records =
    every_each _ (λ (seg : Segment). length seg ≡ s.measures.segment_blocks) (λ seg e. eqb-true _ _ e) st.storage.records (clause _ 2 shaped) in
    let rc : length st.storage.records ≡ s.capacities.records = eqb-true _ _ (clause _ 1 shaped) in
    let l : Limits s st = record {
      block = hb;
      segment = hs;
      blocks = (ranges s r).blocks;
      record_count = subst (λ (k : ℕ). k ≤ 4096) (sym rc) (ranges s r).records;
      records = segs;
    } in
    record {
      tills = every_each (is_till s st.storage) (TillFits s) (till_fits s st l) st.tills (clause _ 4 h);
      till_count = eqb-true _ _ (clause _ 0 shaped);
      records = segs;
      record_count = rc;
      cells = every_each _ (λ (b : Block). length b ≡ s.measures.block_bytes) (λ b e. eqb-true _ _ e) st.storage.cells (clause _ 4 shaped);
      cell_count = eqb-true _ _ (clause _ 3 shaped);
    }
