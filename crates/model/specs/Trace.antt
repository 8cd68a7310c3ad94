-- Tracing a block, and the image of a version.
use Rattle.std.specs.Prelude.{ℕ, suc, List, [], ◌∷◌, length, get_or, take}
use Rattle.lists.specs.Lists.{counted, largest}
use Rattle.lists.specs.Rows.{joined}
use Rattle.model.specs.State.{Block, Pointer, null_pointer, blank_pointer, direct, indirect, Storage, Version}
use Rattle.model.specs.Image.{zero_block, blank_block}
use Rattle.model.specs.Records.{cell_at, position_at, cell_of}

-- an indirect pointer's own hop and those after it
unfoldable pub hops_via : Pointer → (ℕ → ℕ) → ℕ
hops_via null_pointer next = 0
hops_via blank_pointer next = 0
hops_via (direct k i) next = 0
hops_via (indirect n) next = suc (next n)

unfoldable pub end_via : Pointer → (ℕ → Pointer) → Pointer
end_via null_pointer next = null_pointer
end_via blank_pointer next = blank_pointer
end_via (direct k i) next = direct k i
end_via (indirect n) next = next n

-- The first version of the list is the one whose block `n` is traced, and the others are the newer ones of its till, the next newer first: how many
-- indirect pointers are followed, and the pointer, not indirect, at which the tracing ends.
unfoldable pub hops : List Version → ℕ → ℕ
hops [] n = 0
hops (v ∷ newer) n = hops_via (get_or v.pointers n null_pointer) (λ k. hops newer k)

unfoldable pub end_of : List Version → ℕ → Pointer
end_of [] n = null_pointer
end_of (v ∷ newer) n = end_via (get_or v.pointers n null_pointer) (λ k. end_of newer k)

-- the block at a pointer that is not indirect
unfoldable pub block_at : ℕ → Storage → Pointer → Block
block_at bytes storage null_pointer = zero_block bytes
block_at bytes storage blank_pointer = blank_block bytes
block_at bytes storage (direct k i) = cell_at storage (cell_of (position_at storage k i))
block_at bytes storage (indirect n) = zero_block bytes

unfoldable pub traced_block : ℕ → Storage → List Version → ℕ → Block
traced_block bytes storage vs n = block_at bytes storage (end_of vs n)

-- all blocks of the first version of the list
unfoldable pub traced_blocks : ℕ → Storage → List Version → List Block
traced_blocks bytes storage [] = []
traced_blocks bytes storage (v ∷ newer) = counted (traced_block bytes storage (v ∷ newer)) 0 (length v.pointers)

-- the last block only up to the length
unfoldable pub image_of : ℕ → Storage → List Version → List ℕ
image_of bytes storage [] = []
image_of bytes storage (v ∷ newer) = take v.length (joined (traced_blocks bytes storage (v ∷ newer)))

-- the most indirect pointers followed for any one block
unfoldable pub longest_chain : List Version → ℕ
longest_chain [] = 0
longest_chain (v ∷ newer) = largest (counted (hops (v ∷ newer)) 0 (length v.pointers))
