-- Which blocks of a segment are stored, and which are blank.
use Rattle.std.specs.Prelude.{Bool, cond, false, not, List, [], ◌∷◌, suc, zero, ℕ}
use Rattle.lists.specs.Lists.{all_zero}
use Rattle.lists.specs.Masks.{mask_of}
use Rattle.model.specs.Image.{is_bare, is_blank, with_blanks}
use Rattle.model.specs.State.{Block}

-- 0 for a block that is null or blank, else 1
abbrev pub stored_bit : Block → ℕ
stored_bit b = cond (not (is_bare with_blanks b)) 1 0

-- bit i is `stored_bit` of block i
abbrev pub stored_mask : List Block → ℕ
stored_mask bs = mask_of (λ b. not (is_bare with_blanks b)) bs

-- blank, and not null
abbrev pub is_erased : Block → Bool
is_erased b = let r = is_blank with_blanks b in cond (all_zero b) false r

-- 1 for a blank block, else 0
abbrev pub blank_bit : Block → ℕ
blank_bit b = cond (is_erased b) 1 0

-- bit i is `blank_bit` of block i
abbrev pub blank_mask : List Block → ℕ
blank_mask bs = mask_of is_erased bs

-- the block, if the bit is set
abbrev pub block_if : ℕ → Block → List Block
block_if zero b = []
block_if (suc n) b = b ∷ []
