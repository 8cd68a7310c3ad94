-- A pointer that can be followed into the records' words.
use Rattle.std.specs.Prelude.{◌≡◌, true, List, ℕ, ◌+◌, ◌*◌, ◌≤◌, ◌<◌}
use Rattle.model.specs.Measures.{record_words}
use Rattle.model.specs.State.{Pointer, null_pointer, blank_pointer, direct, indirect, Segment}
use Rattle.model.specs.Records.{is_held}
use Rattle.storage.specs.Stored.{position_in}

-- among `l` words of records of `n` positions, a direct pointer names a position of a record that is there
unfoldable pub WithinRecords : ℕ → ℕ → Pointer → Type 0
WithinRecords n l null_pointer = Unit {0}
WithinRecords n l blank_pointer = Unit {0}
WithinRecords n l (direct k i) = (k * record_words n + record_words n ≤ l) × (i < n)
WithinRecords n l (indirect b) = Unit {0}

-- a direct pointer names a held position
unfoldable pub NamesHeld : List Segment → Pointer → Type 0
NamesHeld segs null_pointer = Unit {0}
NamesHeld segs blank_pointer = Unit {0}
NamesHeld segs (direct k i) = is_held (position_in segs k i) ≡ true
NamesHeld segs (indirect b) = Unit {0}
