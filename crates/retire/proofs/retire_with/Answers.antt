use mathlib.Core.Path.{sym, ap, ◌∙◌}
use native.Mathlib.Omega.{arith}
use lib.Seq.{length-take-le}
use Rattle.model.specs.Measures.{Measures}
use Rattle.retire.proofs.Cases.{by_measures, length_most, front_words, front_room, front_long, answered}
use Rattle.retire.proofs.retire_with.Goals as goal

pub copy_version-length-requires : goal.copy_version-length-requires
copy_version-length-requires c = (c.requires.0, c.requires.1, ap (λ (m : Measures). m.block_bytes) c.requires.4)

pub parts_for-count-requires : goal.parts_for-count-requires
parts_for-count-requires c = length_most c.requires.0 _ _ c.copy_version-length.ensures _ (ap (λ (m : Measures). m.block_bytes) c.requires.4)

pub copy_older-n-requires : goal.copy_older-n-requires
copy_older-n-requires c = (c.requires.0, c.requires.2, ap (λ (m : Measures). m.block_bytes) c.requires.4)

pub slice_bounds-retire_slot-end-2 : goal.slice_bounds-retire_slot-end-2
slice_bounds-retire_slot-end-2 c = sym (length-take-le _ _ (omega (arith, c.copy_older-n.ensures.1, c.copy_older-n.auto.older, c.requires.2)))

pub slice_bounds-retire_slot-end-3 : goal.slice_bounds-retire_slot-end-3
slice_bounds-retire_slot-end-3 c = (front_room c.requires.0 _ _ c.copy_version-length.ensures _ (by_measures _ _ _ _ c.requires.4 c.parts_for-count.ensures)).0

pub slice_bounds-retire_slot-end-4 : goal.slice_bounds-retire_slot-end-4
slice_bounds-retire_slot-end-4 c = sym (front_long c.requires.0 _ _ c.copy_version-length.ensures _ (by_measures _ _ _ _ c.requires.4 c.parts_for-count.ensures))

pub slice_bounds-retire_slot-end-6 : goal.slice_bounds-retire_slot-end-6
slice_bounds-retire_slot-end-6 c = sym (length-take-le _ _ (omega (arith, c.copy_older-n.ensures.1, c.requires.3)))

pub retire_slot-requires : goal.retire_slot-requires
retire_slot-requires c = let o = c.copy_older-n in
    let l = length-take-le o.result c.args.taken.now (omega (arith, o.ensures.1, c.requires.3)) in
    let k = length-take-le o.result o.new.older (omega (arith, o.ensures.1, o.auto.older, c.requires.2)) in
    record { holds_version = (c.requires.0, c.requires.4, l ∙ sym k); gone_value = (front_words c.requires.0 _ _ c.copy_version-length.ensures _ (by_measures _ _ _ _ c.requires.4 c.parts_for-count.ensures), o.ensures.0) }

pub returns : goal.returns
returns c = answered c.requires.0 _ _ _ c.copy_version-length.ensures.bytes c.retire_slot.ensures
