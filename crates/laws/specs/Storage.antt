-- What contracts ask of a storage.
use Rattle.std.specs.Prelude.{◌≡◌, true, cond, List, [], ℕ, ◌≤◌, length, get_or}
use Rattle.lists.specs.Each.{Each}
use Rattle.lists.specs.Lists.{count, uses}
use Rattle.model.specs.Measures.{Measures}
use Rattle.model.specs.State.{Block, Pointer, null_position, Segment, Storage}
use Rattle.model.specs.Records.{count_of, named_cells}
use Rattle.model.specs.Sound.{is_free_or_holds, leads_to, is_filled}

-- 1 for a block that is filled, and 0 for one of zeros, or past the end
unfoldable pub filled_bit : Block → ℕ
filled_bit b = cond (is_filled b) 1 0

-- Each cell is named once if it is not zero, and not at all if it is zero or past the end.
abbrev pub Exact : Storage → Type 0
Exact storage = (c : ℕ) → uses c (named_cells storage.records) ≡ filled_bit (get_or storage.cells c [])

-- a record as long as a segment, and free or holding something
pub record SegmentFits (m : Measures) (seg : Segment) : Type 0 where
  pub size : length seg ≡ m.segment_blocks
  pub used : is_free_or_holds seg ≡ true

pub record StorageFits (m : Measures) (a : Storage) : Type 0 where
  pub records : Each (SegmentFits m) a.records
  pub cells : Each (λ (b : Block). length b ≡ m.block_bytes) a.cells

-- each position has at least as large a count as pointers of a list lead to it
abbrev pub Suffices : List Segment → List Pointer → Type 0
Suffices segs ps = (k i : ℕ) → count (leads_to k i) ps ≤ count_of (get_or (get_or segs k []) i null_position)
