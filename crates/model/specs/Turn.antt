-- Backup, step 2: direct pointers of the till's previous held version turn blank or indirect.
use Rattle.std.specs.Prelude.{ℕ, cond, List, map}
use Rattle.std.proofs.Math.Option.{Option, none, some}
use Rattle.lists.specs.Lists.{keep, first_from, same_numbers, is_some}
use Rattle.model.specs.State.{Block, Pointer, null_pointer, blank_pointer, direct, indirect, Storage}
use Rattle.model.specs.Image.{Era, is_blank}
use Rattle.model.specs.Records.{cell_at, position_at, cell_of}

abbrev pub indirect_at : Option ℕ → Option Pointer
indirect_at none = none
indirect_at (some n) = some (indirect n)

-- what a direct pointer to a block turns into: blank if the block is, else indirect to the lowest equal block of the new image, if there is one
unfoldable pub turns_to : Era → List Block → Block → Option Pointer
turns_to era image b = let r = indirect_at (first_from (same_numbers b) 0 image) in cond (is_blank era b) (some blank_pointer) r

-- what a pointer turns into, if it does
unfoldable pub target : Era → Storage → List Block → Pointer → Option Pointer
target era storage image null_pointer = none
target era storage image blank_pointer = none
target era storage image (direct k i) = turns_to era image (cell_at storage (cell_of (position_at storage k i)))
target era storage image (indirect n) = none

abbrev pub found_or : Pointer → Option Pointer → Pointer
found_or p none = p
found_or p (some q) = q

unfoldable pub turn : Era → Storage → List Block → List Pointer → List Pointer
turn era storage image ps = map (λ p. found_or p (target era storage image p)) ps

-- those of the pointers that turn: their counts fall by 1
unfoldable pub turning : Era → Storage → List Block → List Pointer → List Pointer
turning era storage image ps = keep (λ p. is_some (target era storage image p)) ps
