-- A held version's image, cut into blocks, is its traced blocks: nothing is lost by cutting them at its length.
use mathlib.Core.Path.{◌≡◌, sym, ap, ◌∙◌}
use mathlib.Core.Bool.{true}
use mathlib.Core.List.{List, [], ◌∷◌}
use Prim.Native.Nat.{ℕ, ◌-◌, ◌*◌, ◌≤◌, ◌<◌}
use native.Mathlib.Nat.{zero-add}
use native.Mathlib.Omega.{arith}
use lib.ListN.{length, get_or, drop}
use borrow.Author.Tests.{eqb-true, leb-true}
use Rattle.lists.specs.Lists.{count, all_zero}
use Rattle.lists.specs.Rows.{joined}
use Rattle.lists.specs.Each.{Each}
use Rattle.lists.proofs.Counted.{counted_at, length_counted}
use Rattle.lists.proofs.Counts.{count_append}
use Rattle.lists.proofs.Each.{each_at, each_counted}
use Rattle.lists.proofs.Tests.{clause, every_at}
use Rattle.model.specs.Measures.{Shape, parts_for, is_within}
use Rattle.model.specs.State.{Block, Pointer, null_pointer, blank_pointer, direct, indirect, Position, Storage, Version, State}
use Rattle.model.specs.Image.{image_blocks}
use Rattle.model.specs.Records.{is_held, cell_of, cell_at, position_at}
use Rattle.model.specs.Trace.{end_of, block_at, traced_block, traced_blocks, image_of}
use Rattle.model.specs.Sound.{is_sound, is_till, has_length, ends_zero, are_traceable, leads_to, all_pointers}
use Rattle.model.specs.Calls.{empty_till, till_of}
use Rattle.laws.proofs.Sweep.{named_one}
use Rattle.laws.proofs.Clean.{HasBytes, zero_whole, blank_whole}
use Rattle.laws.proofs.Counts.{at, leads_itself}
use Rattle.laws.proofs.Place.{held_named, counted_held}
use Rattle.laws.proofs.Measures.{parts_some}
use Rattle.laws.proofs.Serves.{pointers_of, Serves, Valid, sound_valid, end_counted}
use Rattle.laws.proofs.Fits.{Proper}
use Rattle.laws.proofs.Named.{inside_any}
use Rattle.laws.proofs.Image.{cut_again}
use Rattle.history.proofs.Views.{Cut, blocks_again, image_again}

module _ (s : Shape) (pr : Proper s.measures) (st : State) (h : is_sound s st ≡ true) where
  valid : Valid s st
  valid = sound_valid s st h

  pub block_whole : (p : Pointer) → ((k i : ℕ) → leads_to k i p ≡ true → 0 < count (leads_to k i) (all_pointers st.tills)) → HasBytes s.measures (block_at s.measures.block_bytes st.storage p)
  unfolding block_at cell_at position_at
  block_whole null_pointer g = zero_whole s.measures
  block_whole blank_pointer g = blank_whole s.measures
  block_whole (direct k i) g =
      let p : Position = at st.storage.records k i in
      let held : is_held p ≡ true = counted_held p (omega (arith, valid.counts k i, g k i (leads_itself k i))) in
      each_at (HasBytes s.measures) [] st.storage.cells valid.fits.cells (cell_of p)
      (inside_any st.storage valid.exact (cell_of p) (omega (arith, held_named (get_or st.storage.records k []) i held, named_one (cell_of p) st.storage.records k)))
  block_whole (indirect n) g = zero_whole s.measures

  whole_blocks : (v : Version) (newer : List Version) → ((k i : ℕ) → count (leads_to k i) (pointers_of (v ∷ newer)) ≤ count (leads_to k i) (all_pointers st.tills))
      → Each (HasBytes s.measures) (traced_blocks s.measures.block_bytes st.storage (v ∷ newer))
  unfolding traced_blocks traced_block
  whole_blocks v newer g =
      each_counted (HasBytes s.measures) (traced_block s.measures.block_bytes st.storage (v ∷ newer))
      (λ j. block_whole (end_of (v ∷ newer) j) (λ k i e. omega (arith, g k i, end_counted k i (v ∷ newer) j e))) 0 (length v.pointers)

  pub blocks_count : (v : Version) (newer : List Version) → length (traced_blocks s.measures.block_bytes st.storage (v ∷ newer)) ≡ length v.pointers
  unfolding traced_blocks
  blocks_count v newer = length_counted (traced_block s.measures.block_bytes st.storage (v ∷ newer)) 0 (length v.pointers)

  block_at_lem : (v : Version) (newer : List Version) (n : ℕ) → n < length v.pointers
      → get_or (traced_blocks s.measures.block_bytes st.storage (v ∷ newer)) n [] ≡ traced_block s.measures.block_bytes st.storage (v ∷ newer) n
  unfolding traced_blocks
  block_at_lem v newer n l =
      counted_at (traced_block s.measures.block_bytes st.storage (v ∷ newer)) 0 (length v.pointers) n [] l ∙ ap (traced_block s.measures.block_bytes st.storage (v ∷ newer)) (zero-add n)

  pub image_blocks_lem : (v : Version) (newer : List Version) → are_traceable s.measures.block_bytes s.capacities.blocks st.storage (v ∷ newer) ≡ true
      → ((k i : ℕ) → count (leads_to k i) (pointers_of (v ∷ newer)) ≤ count (leads_to k i) (all_pointers st.tills))
      → image_blocks s.measures.block_bytes (image_of s.measures.block_bytes st.storage (v ∷ newer)) ≡ traced_blocks s.measures.block_bytes st.storage (v ∷ newer)
  unfolding image_of are_traceable has_length is_within ends_zero
  image_blocks_lem v newer tr g =
      let k : ℕ = s.measures.block_bytes in
      let bs : List Block = traced_blocks s.measures.block_bytes st.storage (v ∷ newer) in
      let some : 0 < v.length = leb-true 1 v.length (clause _ 0 (clause _ 0 (clause _ 0 tr))) in
      let many : length v.pointers ≡ parts_for k v.length = eqb-true _ _ (clause _ 1 (clause _ 0 tr)) in
      let last : length v.pointers - 1 < length v.pointers = omega (arith, many, parts_some k v.length pr.bytes some) in
      cut_again s.measures pr v.length bs some (blocks_count v newer ∙ many) (whole_blocks v newer g)
      (ap (λ (i : ℕ). all_zero (drop (v.length - k * (i - 1)) (get_or bs (i - 1) []))) (blocks_count v newer)
      ∙ ap (λ (b : Block). all_zero (drop (v.length - k * (length v.pointers - 1)) b)) (block_at_lem v newer (length v.pointers - 1) last)
      ∙ clause _ 2 tr)

  -- also on another storage that serves the store's pointers
  pub cuts : (b : Storage) → Serves s.measures st.storage b (all_pointers st.tills) → (vs : List Version)
      → are_traceable s.measures.block_bytes s.capacities.blocks st.storage vs ≡ true
      → ((k i : ℕ) → count (leads_to k i) (pointers_of vs) ≤ count (leads_to k i) (all_pointers st.tills)) → Cut s.measures.block_bytes b vs
  unfolding are_traceable joined
  cuts b sv [] tr g = tt
  cuts b sv (v ∷ vs) tr g = (
    ap (image_blocks s.measures.block_bytes) (image_again s st.storage b (all_pointers st.tills) sv v vs g)
        ∙ image_blocks_lem v vs tr g ∙ sym (blocks_again s st.storage b (all_pointers st.tills) sv v vs g),
    cuts b sv vs (clause _ 3 tr) (λ k i. omega (arith, g k i, count_append (leads_to k i) v.pointers (pointers_of vs))),
  )

  pub till_ok : (t : ℕ) → t < length st.tills → are_traceable s.measures.block_bytes s.capacities.blocks st.storage (till_of st t).versions ≡ true
  unfolding till_of is_till
  till_ok t ht = clause _ 1 (every_at (is_till s st.storage) empty_till st.tills valid.tills t ht)
