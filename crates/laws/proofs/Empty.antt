-- The empty store is sound, and what a lay out leaves.
use mathlib.Core.Path.{◌≡◌, refl}
use mathlib.Core.Bool.{Bool, true, false}
use mathlib.Core.List.{List, []}
use Prim.Native.Nat.{ℕ, zero, suc, zero-le}
use native.Mathlib.Nat.{suc-ne-zero}
use lib.ListN.{replicate, length-replicate}
use borrow.Author.Tests.{eq-eqb, le-leb}
use Rattle.lists.specs.Lists.{every, all_of, rises, is_in, distinct, all_zero}
use Rattle.lists.specs.Rows.{joined}
use Rattle.lists.proofs.Tests.{all_true, every_replicate}
use Rattle.lists.proofs.Same.{zeros_zero}
use Rattle.model.specs.Measures.{Measures, Capacities, Shape, in_range}
use Rattle.model.specs.State.{Pointer, null_position, Storage}
use Rattle.model.specs.Image.{zero_block}
use Rattle.model.specs.Records.{free_segment, is_null_position, is_free, cells_of, named_cells}
use Rattle.model.specs.Table.{state_to_bytes, state_to_words}
use Rattle.model.specs.Sound.{is_sound, is_shaped, is_numbered, is_till, are_traceable, is_free_or_holds, has_cells, are_counted, all_counted, all_pointers, are_filled}
use Rattle.model.specs.Calls.{empty_till, empty_state, layout_if, layout_of}

-- a null block is zero
pub zero_null : (bytes : ℕ) → all_zero (zero_block bytes) ≡ true
unfolding zero_block
zero_null bytes = zeros_zero bytes

module _ (m : Measures) where
  free_cells_lem : (n : ℕ) → cells_of (replicate n null_position) ≡ []
  unfolding cells_of
  free_cells_lem zero = refl
  free_cells_lem (suc n) = free_cells_lem n

  no_cells : (n : ℕ) → named_cells (replicate n (free_segment m.segment_blocks)) ≡ []
  unfolding named_cells joined free_segment
  no_cells zero = refl
  no_cells (suc n) = rw (free_cells_lem m.segment_blocks) (no_cells n)

  free_counted : (ps : List Pointer) (k i n : ℕ) → are_counted ps k i (replicate n null_position) ≡ true
  unfolding are_counted all_of
  free_counted ps k i zero = refl
  free_counted ps k i (suc n) = rw (free_counted ps k (suc i) n) refl

  none_counted : (ps : List Pointer) (k n : ℕ) → all_counted ps k (replicate n (free_segment m.segment_blocks)) ≡ true
  unfolding all_counted free_segment all_of
  none_counted ps k zero = refl
  none_counted ps k (suc n) = rw (free_counted ps k 0 m.segment_blocks, none_counted ps (suc k) n) refl

  none_filled : (c n : ℕ) → are_filled [] c (replicate n (zero_block m.block_bytes)) ≡ true
  unfolding are_filled is_in all_of
  none_filled c zero = refl
  none_filled c (suc n) = rw (zero_null m.block_bytes, none_filled (suc c) n) refl

  free_used : is_free_or_holds (free_segment m.segment_blocks) ≡ true
  unfolding is_free_or_holds is_free free_segment
  free_used = rw (every_replicate is_null_position m.segment_blocks null_position refl) refl

no_pointers : (n : ℕ) → all_pointers (replicate n empty_till) ≡ []
unfolding all_pointers joined empty_till
no_pointers zero = refl
no_pointers (suc n) = no_pointers n

empty_till_lem : (s : Shape) (storage : Storage) → is_till s storage empty_till ≡ true
unfolding is_till is_numbered are_traceable empty_till
empty_till_lem s storage =
    all_true _ (all_true _ (le-leb 0 s.capacities.versions zero-le, (refl, (unfold rises in refl, tt))), (refl, (refl, tt)))

pub empty_sound : (s : Shape) → in_range s ≡ true → is_sound s (empty_state s) ≡ true
unfolding is_sound is_shaped empty_state has_cells
empty_sound s h =
    let m : Measures = s.measures in
    let c : Capacities = s.capacities in
    all_true _ (
      h,
      (
        all_true _ (
          eq-eqb _ _ (length-replicate c.tills empty_till),
          (
            eq-eqb _ _ (length-replicate c.records (free_segment m.segment_blocks)),
            (
              every_replicate _ c.records (free_segment m.segment_blocks) (unfold free_segment in eq-eqb _ _ (length-replicate m.segment_blocks null_position)),
              (
                eq-eqb _ _ (length-replicate c.cells (zero_block m.block_bytes)),
                (every_replicate _ c.cells (zero_block m.block_bytes) (unfold zero_block in eq-eqb _ _ (length-replicate {A = ℕ} m.block_bytes 0)), tt),
              ),
            ),
          ),
        ),
        (
          every_replicate _ c.records (free_segment m.segment_blocks) (free_used m),
          (
            rw (no_cells m c.records) (unfold every distinct all_of in refl),
            (
              every_replicate _ c.tills empty_till (empty_till_lem s (empty_state s).storage),
              (
                none_counted m _ 0 c.records,
                (rw (no_cells m c.records) (none_filled m 0 c.cells), tt),
              ),
            ),
          ),
        ),
      ),
    )

-- ---- lay out

-- a refused lay out alters no buffer
pub layout_refused : (fit range : Bool) (s : Shape) (pool table : List ℕ) → ¬ ((layout_if range fit s pool table).refusal ≡ 0)
    → ((layout_if range fit s pool table).pool ≡ pool) × ((layout_if range fit s pool table).table ≡ table)
unfolding layout_if
layout_refused fit false s pool table h = (refl, refl)
layout_refused false true s pool table h = (refl, refl)
layout_refused true true s pool table h = absurd (h refl)

-- an accepted lay out has a shape in range, and leaves the empty state
pub layout_accepted : (s : Shape) (pool table : List ℕ) → (layout_of s pool table).refusal ≡ 0
    → (in_range s ≡ true) × ((layout_of s pool table).pool ≡ state_to_bytes (empty_state s)) × ((layout_of s pool table).table ≡ state_to_words s (empty_state s))
unfolding layout_of layout_if
layout_accepted s pool table h = go (in_range s) refl _ h
  where
    go : (r : Bool) → in_range s ≡ r → (fit : Bool) → (layout_if r fit s pool table).refusal ≡ 0
        → (in_range s ≡ true) × ((layout_if r fit s pool table).pool ≡ state_to_bytes (empty_state s)) × ((layout_if r fit s pool table).table ≡ state_to_words s (empty_state s))
    go false e b h' = absurd (suc-ne-zero 0 h')
    go true e false h' = absurd (suc-ne-zero 1 h')
    go true e true h' = (e, refl, refl)
