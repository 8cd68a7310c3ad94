use Rattle.std.proofs.Common.{arith, ap, ◌∙◌, ◌≡◌, ◌*◌, ◌+◌, ◌-◌, ◌<◌, ◌≤◌, ℕ, List}
use native.Mathlib.Nat.{zero-mul}
use Rattle.model.specs.Image.{block_from, blocks_from}
use Rattle.laws.proofs.Image.{length_blocks}
use Rattle.place_words.specs.Marks.{blank_mask, stored_mask}
use Rattle.place_words.proofs.Marks.{blank_bit_lem, blanks_small, mark_bit, marks_small}
use Rattle.place_match.proofs.Copying.{block_back, block_low, mask_end, mask_front}
use Rattle.place_match.proofs.segment_masks.Goals as goal

-- the masks of at most 16 blocks
small : (bytes : ℕ) (image : List ℕ) (at n stored blank : ℕ) → n ≤ 16 → stored ≡ stored_mask (blocks_from bytes image at n) → blank ≡ blank_mask (blocks_from bytes image at n) → (stored < 65536) × (blank < 65536)
small bytes image at n stored blank h s b =
    let bs = blocks_from bytes image at n in
    let l = length_blocks bytes image at n in
    (omega (arith, s, marks_small bs (omega (arith, l))), omega (arith, b, blanks_small bs (omega (arith, l))))

pub loop-i-init : goal.loop-i-init
loop-i-init c = (mask_end _ c.args.bytes c.args.image.now _ c.args.n, mask_end _ c.args.bytes c.args.image.now _ c.args.n)

pub block_marks-here-requires : goal.block_marks-here-requires
block_marks-here-requires c = let a = c.args in
    (omega (arith, block_low a.from a.bytes a.n (c.loop-i.i - 1) c.requires.0 c.requires.2 c.requires.4 (omega arith)), c.requires.1, c.requires.2, c.requires.3)

pub overflow_mul-stored : goal.overflow_mul-stored
overflow_mul-stored c = let l = c.loop-i in
    omega (arith, small c.args.bytes c.args.image.now _ (c.args.n - l.i) l.stored l.blank (omega arith) l.invariant.0 l.invariant.1)

pub overflow_add-stored : goal.overflow_add-stored
overflow_add-stored c = let l = c.loop-i in
    omega (arith, small c.args.bytes c.args.image.now _ (c.args.n - l.i) l.stored l.blank (omega arith) l.invariant.0 l.invariant.1, c.block_marks-here.ensures.0, mark_bit (block_from c.args.bytes c.args.image.now (c.args.from + (l.i - 1) * c.args.bytes)))

pub overflow_mul-blank : goal.overflow_mul-blank
overflow_mul-blank c = let l = c.loop-i in
    omega (arith, small c.args.bytes c.args.image.now _ (c.args.n - l.i) l.stored l.blank (omega arith) l.invariant.0 l.invariant.1)

pub overflow_add-blank : goal.overflow_add-blank
overflow_add-blank c = let l = c.loop-i in
    omega (arith, small c.args.bytes c.args.image.now _ (c.args.n - l.i) l.stored l.blank (omega arith) l.invariant.0 l.invariant.1, c.block_marks-here.ensures.1, blank_bit_lem (block_from c.args.bytes c.args.image.now (c.args.from + (l.i - 1) * c.args.bytes)))

pub loop-i-preserved : goal.loop-i-preserved
loop-i-preserved c =
    let l = c.loop-i in
    let a = c.args in
    let e = c.block_marks-here.ensures in
    let back : a.from + (l.i - 1) * a.bytes + a.bytes ≡ a.from + l.i * a.bytes = omega (arith, block_back l.i a.bytes (omega arith)) in (
      ap (λ (x : ℕ). x + 2 * l.stored) e.0 ∙ mask_front _ a.bytes a.image.now (a.from + (l.i - 1) * a.bytes) a.n l.i l.stored (omega arith) (omega arith) (rw back l.invariant.0),
      ap (λ (x : ℕ). x + 2 * l.blank) e.1 ∙ mask_front _ a.bytes a.image.now (a.from + (l.i - 1) * a.bytes) a.n l.i l.blank (omega arith) (omega arith) (rw back l.invariant.1),
    )

pub returns : goal.returns
returns c = let l = c.loop-i in
    let a = c.args in
    let z : l.i ≡ 0 = omega arith in
    let y : a.from + 0 * a.bytes ≡ a.from = omega (arith, zero-mul a.bytes) in
    let f : a.n - 0 ≡ a.n = omega arith in
    let bs = blocks_from a.bytes a.image.now a.from a.n in
    let g : l.stored ≡ stored_mask bs = rw (z, y, f) at l.invariant.0 in
    let k : l.blank ≡ blank_mask bs = rw (z, y, f) at l.invariant.1 in
    (g, k, omega (arith, small a.bytes a.image.now a.from a.n l.stored l.blank c.requires.4 g k))
