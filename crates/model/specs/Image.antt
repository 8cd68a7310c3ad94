-- The blocks and the segments of an image, and which blocks are null or blank.
use Rattle.std.specs.Prelude.{ℕ, zero, suc, ◌+◌, ◌*◌, Bool, true, false, cond, List, [], ◌∷◌, length, drop, replicate, eqb}
use Rattle.lists.specs.Lists.{every, all_zero}
use Rattle.lists.specs.Rows.{fill}
use Rattle.model.specs.Measures.{parts_for}
use Rattle.model.specs.State.{Block}

unfoldable pub zero_block : ℕ → Block
zero_block bytes = replicate bytes 0

unfoldable pub blank_block : ℕ → Block
blank_block bytes = replicate bytes 255

-- A backup was made before blank blocks were known, or with them.
pub data Era : Type 0 where
  before_blanks : Era
  with_blanks : Era

-- a block of 255s is blank; to a backup from before none is
unfoldable pub is_blank : Era → Block → Bool
is_blank before_blanks b = false
is_blank with_blanks b = every (λ x. eqb x 255) b

-- null or blank: neither stored nor counted
unfoldable pub is_bare : Era → Block → Bool
is_bare era b = let r = is_blank era b in cond (all_zero b) true r

-- The block that begins at byte `at`. A last block that is short counts as filled up with zero bytes; one past the end is null.
unfoldable pub block_from : ℕ → List ℕ → ℕ → Block
block_from bytes image at = fill bytes (drop at image)

-- `n` blocks from byte `at` on
unfoldable pub blocks_from : ℕ → List ℕ → ℕ → ℕ → List Block
blocks_from bytes image at zero = []
blocks_from bytes image at (suc n) = block_from bytes image at ∷ blocks_from bytes image (at + bytes) n

-- an image's blocks: its bytes in 64s, the last filled up with zeros
unfoldable pub image_blocks : ℕ → List ℕ → List Block
image_blocks bytes image = blocks_from bytes image 0 (parts_for bytes (length image))

-- `n` segments of `k` blocks from byte `at` on
unfoldable pub segments_from : ℕ → ℕ → List ℕ → ℕ → ℕ → List (List Block)
segments_from bytes k image at zero = []
segments_from bytes k image at (suc n) = blocks_from bytes image at k ∷ segments_from bytes k image (at + k * bytes) n

-- an image's segments, the last filled up with null blocks
unfoldable pub image_segments : ℕ → ℕ → List ℕ → List (List Block)
image_segments bytes k image = segments_from bytes k image 0 (parts_for (k * bytes) (length image))
