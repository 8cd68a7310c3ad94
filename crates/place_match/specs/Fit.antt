-- When a record's masks let it equal a segment.
use Rattle.std.specs.Prelude.{◌≡◌, List, ◌+◌, ℕ, get_or}

-- of a segment its stored and its blank blocks, of a record its held, removed and blank positions
pub record MasksFit (mask blank held removed blanks : ℕ) : Type 0 where
  pub stored : held ≡ mask
  pub whole : removed ≡ 0
  pub same : blanks ≡ blank

-- those of the record whose words begin at a word
abbrev pub RowFits : ℕ → ℕ → List ℕ → ℕ → Type 0
RowFits mask blank ws at = MasksFit mask blank (get_or ws at 0) (get_or ws (at + 1) 0) (get_or ws (at + 2) 0)
