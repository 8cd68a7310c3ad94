-- What a position and a segment record hold.
use Rattle.std.specs.Prelude.{ℕ, Bool, true, false, cond, List, [], ◌∷◌, get_or, replicate}
use Rattle.lists.specs.Lists.{every, same_numbers, all_zero}
use Rattle.lists.specs.Rows.{rows}
use Rattle.model.specs.State.{Block, Position, null_position, blank_position, held, removed, Segment, Storage}
use Rattle.model.specs.Image.{Era, is_blank}

unfoldable pub free_segment : ℕ → Segment
free_segment n = replicate n null_position

abbrev pub is_null_position : Position → Bool
is_null_position null_position = true
is_null_position blank_position = false
is_null_position (held c n) = false
is_null_position removed = false

abbrev pub is_blank_position : Position → Bool
is_blank_position null_position = false
is_blank_position blank_position = true
is_blank_position (held c n) = false
is_blank_position removed = false

abbrev pub is_held : Position → Bool
is_held null_position = false
is_held blank_position = false
is_held (held c n) = true
is_held removed = false

abbrev pub is_removed : Position → Bool
is_removed null_position = false
is_removed blank_position = false
is_removed (held c n) = false
is_removed removed = true

-- 0 where the position is not held
abbrev pub cell_of : Position → ℕ
cell_of null_position = 0
cell_of blank_position = 0
cell_of (held c n) = c
cell_of removed = 0

abbrev pub count_of : Position → ℕ
count_of null_position = 0
count_of blank_position = 0
count_of (held c n) = n
count_of removed = 0

unfoldable pub is_free : Segment → Bool
is_free seg = every is_null_position seg

-- the cells that the record's positions name, in order
unfoldable pub cells_of : Segment → List ℕ
cells_of [] = []
cells_of (null_position ∷ ps) = cells_of ps
cells_of (blank_position ∷ ps) = cells_of ps
cells_of (held c n ∷ ps) = c ∷ cells_of ps
cells_of (removed ∷ ps) = cells_of ps

-- the cells that positions name: the occupied ones
unfoldable pub named_cells : List Segment → List ℕ
named_cells segs = rows cells_of segs

unfoldable pub cell_at : Storage → ℕ → Block
cell_at storage c = get_or storage.cells c []

unfoldable pub position_at : Storage → ℕ → ℕ → Position
position_at storage k i = get_or (get_or storage.records k []) i null_position

-- The position holds this block. A removed one holds none, so that only a whole record (none removed) can equal a segment. A held one holds no blank
-- block, so that a record with an occupied cell of 255s equals no segment.
abbrev pub holds : Era → Storage → Position → Block → Bool
holds era storage null_position b = all_zero b
holds era storage blank_position b = is_blank era b
holds era storage (held c n) b = let r = same_numbers (cell_at storage c) b in cond (is_blank era b) false r
holds era storage removed b = false

-- the segment is equal in content to a whole record
unfoldable pub equals : Era → Storage → List Block → Segment → Bool
equals era storage [] [] = true
equals era storage [] (p ∷ ps) = false
equals era storage (b ∷ bs) [] = false
equals era storage (b ∷ bs) (p ∷ ps) = let r = equals era storage bs ps in cond (holds era storage p b) r false
