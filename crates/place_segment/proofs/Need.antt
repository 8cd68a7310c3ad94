-- How many cells a segment needs.
use mathlib.Core.Path.{◌∙◌, ◌≡◌, ap}
use mathlib.Core.List.{List, [], ◌∷◌}
use Prim.Native.Nat.{◌<◌, ◌≤◌, ℕ}
use native.Mathlib.Omega.{arith}
use lib.ListN.{length}
use lib.Count.{ones}
use Rattle.lists.specs.Lists.{keep}
use Rattle.model.specs.Image.{blocks_from, with_blanks}
use Rattle.model.specs.Measures.{Measures}
use Rattle.model.specs.Place.{stored_blocks}
use Rattle.model.specs.State.{Block}
use Rattle.laws.proofs.Image.{length_blocks}
use Rattle.place_words.proofs.Marks.{kept_count, mark_bit}
use Rattle.place_segment.specs.Conditions.{Masked}
use Rattle.place_segment.proofs.Cases.{ones_marks, some_blocks_lem}

kept_few : (seg : List Block) → length (stored_blocks with_blanks seg) ≤ length seg
unfolding stored_blocks keep
kept_few [] = omega arith
kept_few (b ∷ seg) = omega (arith, kept_count b seg, mark_bit b, kept_few seg)

module _ (m : Measures) (image : List ℕ) (from mask blank : ℕ) (k : Masked m image from mask blank) where
  abbrev seg : List Block
  seg = blocks_from m.block_bytes image from m.segment_blocks

  pub need_is : ones mask ≡ length (stored_blocks with_blanks seg)
  need_is = ap ones k.is ∙ ones_marks seg

  pub need_few : ones mask ≤ m.segment_blocks
  need_few = omega (arith, need_is, kept_few seg, length_blocks m.block_bytes image from m.segment_blocks)

  pub need_some : 0 < ones mask
  need_some = omega (arith, need_is, some_blocks_lem seg (λ z. omega (arith, k.is, k.some)))
