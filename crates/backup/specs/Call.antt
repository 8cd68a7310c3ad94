-- What the joined steps ask, and what the answer says, with the buffers after the call.
use Rattle.std.specs.Prelude.{ℕ, ◌*◌, ◌≤◌, ◌≡◌, List, map, length, get_or, Result, Ok, Err}
use Rattle.model.specs.Measures.{Measures}
use Rattle.model.specs.State.{Pointer}
use Rattle.model.specs.Table.{shape_of, state_in, pointer_word}
use Rattle.model.specs.Calls.{BackupAnswer, till_of, newest_pointers}
use Rattle.laws.specs.Stores.{Sound}
use Rattle.refusals.specs.declared.Refusal.{Refusal}
use Rattle.refusals.specs.Refusals.{number_of}
use Rattle.tills.specs.declared.Head.{Head}
use Rattle.tills.specs.Answers.{HeadOf}
use Rattle.backup_accept.specs.Accept.{Accepted}
use Rattle.place.specs.All.{segments_in}

-- the newest version's pointers
abbrev pub newest_of : List ℕ → List ℕ → ℕ → List Pointer
newest_of pool table t = newest_pointers (till_of (state_in (shape_of table) pool table) t).versions

pub record BackupPre (m : Measures) (pool table : List ℕ) (t : ℕ) (r : Head) (day : ℕ) (image prev words : List ℕ) : Type 0 where
  pub sound : Sound pool table
  pub measures : m ≡ (shape_of table).measures
  pub accepted : Accepted pool table t day image
  pub head : HeadOf pool table t r
  pub newest : prev ≡ map pointer_word (newest_of pool table t)
  pub short : length prev ≤ get_or table 2 0
  pub room : length words ≡ segments_in m image * m.segment_blocks

abbrev pub backup_result : Result ℕ Refusal → List ℕ → List ℕ → BackupAnswer
backup_result (Ok version) pool table = record { refusal = 0; version = version; pool = pool; table = table }
backup_result (Err e) pool table = record { refusal = number_of e; version = 0; pool = pool; table = table }
