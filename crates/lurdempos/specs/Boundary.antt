-- The eight capacities, and the four rights, as C passes them.
use Rattle.std.specs.Prelude.{ℕ, Bool}
use Rattle.model.specs.Measures.{Shape}
use Rattle.model.specs.State.{Rights}

abbrev pub the_eight : ℕ → ℕ → ℕ → ℕ → ℕ → ℕ → ℕ → ℕ → Shape
the_eight tills versions blocks records cells bytes segment percent = record {
  measures = record { block_bytes = bytes; segment_blocks = segment; rebuild_percent = percent };
  capacities = record { tills = tills; versions = versions; blocks = blocks; records = records; cells = cells };
}

abbrev pub the_four : Bool → Bool → Bool → Bool → Rights
the_four list back_up restore retire = record { list = list; back_up = back_up; restore = restore; retire = retire }
