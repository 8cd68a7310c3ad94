-- The cell word that a bit lets stand, and the word of a block's pointer.
use Rattle.std.specs.Prelude.{List, [], ◌∷◌, suc, zero, ℕ}
use Rattle.model.specs.State.{blank_pointer, null_pointer}
use Rattle.model.specs.Table.{pointer_word}

-- the cell word, if the bit is set
abbrev pub cell_if : ℕ → ℕ → List ℕ
cell_if zero c = []
cell_if (suc b) c = c ∷ []

-- the word given where the block is stored, else a blank pointer's or a null one's
abbrev pub pointer_if : ℕ → ℕ → ℕ → ℕ
pointer_if zero zero w = pointer_word null_pointer
pointer_if zero (suc b) w = pointer_word blank_pointer
pointer_if (suc s) b w = w
