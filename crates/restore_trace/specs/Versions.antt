-- Slots whose versions can be traced.
use Rattle.std.specs.Prelude.{◌≡◌, List, [], ℕ, suc, ◌+◌, ◌*◌, ◌≤◌, ◌<◌, length, get_or}
use Rattle.model.specs.State.{Pointer, null_pointer, blank_pointer, direct, indirect, Version}
use Rattle.model.specs.Table.{word_to_pointer, versions_in}
use Rattle.model.specs.Trace.{end_of, hops}
use Rattle.storage.specs.Fits.{WithinRecords}
use Rattle.restore_trace.specs.declared.Traced.{Traced}

abbrev pub no_version : Version
no_version = record { number = 0; length = 0; day = 0; pointers = [] }

-- the pointers of version i, none past the end
abbrev pub pointers_at : List Version → ℕ → List Pointer
pointers_at vs i = (get_or vs i no_version).pointers

-- the byte of a block that has no cell: 255 of a blank one, 0 of a null one
unfoldable pub fill_byte : Pointer → ℕ
fill_byte null_pointer = 0
fill_byte blank_pointer = 255
fill_byte (direct k i) = 0
fill_byte (indirect m) = 0

-- an indirect pointer names one of n blocks
unfoldable pub IndirectBelow : ℕ → Pointer → Type 0
IndirectBelow n null_pointer = Unit {0}
IndirectBelow n blank_pointer = Unit {0}
IndirectBelow n (direct k i) = Unit {0}
IndirectBelow n (indirect m) = m < n

-- the slots of the first version, and of the newer ones: each indirect pointer names a block of the next one
pub record Traceable (bytes b h : ℕ) (slots : List ℕ) : Type 0 where
  pub rows : length slots ≡ h * (3 + b)
  pub some : 0 < h
  pub few : h ≤ 64
  pub small : b ≤ 1024
  pub fits : (i : ℕ) → length (pointers_at (versions_in bytes b h slots) i) ≤ b
  pub resolves : (i j : ℕ) → IndirectBelow (length (pointers_at (versions_in bytes b h slots) (suc i))) (get_or (pointers_at (versions_in bytes b h slots) i) j null_pointer)

-- each direct pointer names a position of the records' l words, of n positions each
pub record DirectWithin (n bytes b h : ℕ) (slots : List ℕ) (l : ℕ) : Type 0 where
  pub fit : (i j : ℕ) → WithinRecords n l (get_or (pointers_at (versions_in bytes b h slots) i) j null_pointer)

-- where the tracing of a block of the first version ends, and how many pointers it follows
pub record Traces (vs : List Version) (n : ℕ) (t : Traced) : Type 0 where
  pub ends : word_to_pointer t.pointer.0 ≡ end_of vs n
  pub hop : t.hops ≡ hops vs n
