-- Laws of a segment's mask.
use mathlib.Core.Path.{◌≡◌, sym}
use mathlib.Core.Bool.{Bool, cond, false, not, true}
use mathlib.Core.List.{List, ◌∷◌}
use Prim.Native.Nat.{◌%◌, ◌+◌, ◌/◌, ◌<◌, ◌^◌, ◌≤◌, suc, ℕ}
use native.Mathlib.Nat.{zero-add}
use native.Mathlib.Numerals.{add-one}
use native.Mathlib.Omega.{arith}
use lib.ListN.{length}
use lib.Seq.{sets}
use lib.Pow.{pow_mono}
use Rattle.lists.specs.Lists.{keep}
use Rattle.lists.proofs.Masks.{bit_le_one, mask_half, mask_lt, mask_odd}
use Rattle.model.specs.Image.{is_bare, with_blanks}
use Rattle.model.specs.Place.{stored_blocks}
use Rattle.model.specs.State.{Block}
use Rattle.place_words.specs.Marks.{blank_bit, blank_mask, is_erased, block_if, stored_bit, stored_mask}

pub mark_bit : (b : Block) → stored_bit b < 2
mark_bit b = omega (arith, bit_le_one (not (is_bare with_blanks b)))

pub marks_mod : (b : Block) (bs : List Block) → stored_mask (b ∷ bs) % 2 ≡ stored_bit b
marks_mod b bs = mask_odd (λ b. not (is_bare with_blanks b)) b bs

pub marks_div : (b : Block) (bs : List Block) → stored_mask (b ∷ bs) / 2 ≡ stored_mask bs
marks_div b bs = mask_half (λ b. not (is_bare with_blanks b)) b bs

pub marks_small : (bs : List Block) → length bs ≤ 16 → stored_mask bs < 65536
marks_small bs h = let p : 2 ^ length bs ≤ 2 ^ 16 = pow_mono h in omega (arith, p, mask_lt (λ b. not (is_bare with_blanks b)) bs)

pub blank_bit_lem : (b : Block) → blank_bit b < 2
blank_bit_lem b = omega (arith, bit_le_one (is_erased b))

pub blanks_mod : (b : Block) (bs : List Block) → blank_mask (b ∷ bs) % 2 ≡ blank_bit b
blanks_mod b bs = mask_odd is_erased b bs

pub blanks_div : (b : Block) (bs : List Block) → blank_mask (b ∷ bs) / 2 ≡ blank_mask bs
blanks_div b bs = mask_half is_erased b bs

pub blanks_small : (bs : List Block) → length bs ≤ 16 → blank_mask bs < 65536
blanks_small bs h = let p : 2 ^ length bs ≤ 2 ^ 16 = pow_mono h in omega (arith, p, mask_lt is_erased bs)

-- ---- the blocks that are stored

pub kept_next : (cs : List Block) (c : ℕ) (b : Block) (bs : List Block)
    → sets cs c (stored_blocks with_blanks (b ∷ bs)) ≡ sets (sets cs c (block_if (stored_bit b) b)) (c + stored_bit b) (stored_blocks with_blanks bs)
unfolding stored_blocks keep
kept_next cs c b bs = go (is_bare with_blanks b)
  where
    go : (t : Bool) → sets cs c (cond (not t) (b ∷ stored_blocks with_blanks bs) (stored_blocks with_blanks bs)) ≡ sets (sets cs c (block_if (cond (not t) 1 0) b)) (c + cond (not t) 1 0) (stored_blocks with_blanks bs)
    go true = let e : c + 0 ≡ c = omega arith in rw e
    go false = rw (add-one c)

pub kept_count : (b : Block) (bs : List Block) → length (stored_blocks with_blanks (b ∷ bs)) ≡ stored_bit b + length (stored_blocks with_blanks bs)
unfolding stored_blocks keep
kept_count b bs = go (is_bare with_blanks b)
  where
    go : (t : Bool) → length (cond (not t) (b ∷ stored_blocks with_blanks bs) (stored_blocks with_blanks bs)) ≡ cond (not t) 1 0 + length (stored_blocks with_blanks bs)
    go true = sym (zero-add _)
    go false = let e : suc (length (stored_blocks with_blanks bs)) ≡ 1 + length (stored_blocks with_blanks bs) = omega arith in e
