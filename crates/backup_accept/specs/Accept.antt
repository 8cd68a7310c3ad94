-- What holds of a backup that is not refused at once.
use Rattle.std.specs.Prelude.{◌≡◌, List, cond, ℕ, ◌*◌, ◌≤◌, ◌<◌, length, get_or, eqb, leb, ltb}
use Rattle.model.specs.Measures.{Shape}
use Rattle.model.specs.State.{State}
use Rattle.model.specs.Calls.{BackupAnswer, till_of, newest_day, backup_dated_of}
use Rattle.model.specs.Table.{shape_of, state_in}

-- the longest image's bytes
abbrev pub most_bytes : List ℕ → ℕ
most_bytes table = (shape_of table).measures.block_bytes * get_or table 2 0

-- the till has a slot and a number left
pub record HasRoomLeft (pool table : List ℕ) (t : ℕ) : Type 0 where
  pub room : length (till_of (state_in (shape_of table) pool table) t).versions < get_or table 1 0
  pub number : (till_of (state_in (shape_of table) pool table) t).last < 65535

-- with its day
pub record Accepted (pool table : List ℕ) (t day : ℕ) (image : List ℕ) : Type 0 where
  pub there : t < get_or table 0 0
  pub some : 0 < length image
  pub few : length image ≤ most_bytes table
  pub free : HasRoomLeft pool table t
  pub dated : newest_day (till_of (state_in (shape_of table) pool table) t).versions ≤ day

abbrev pub refused_backup : ℕ → List ℕ → List ℕ → BackupAnswer
refused_backup n pool table = record { refusal = n; version = 0; pool = pool; table = table }

-- 0 where it is accepted; else the call's whole answer is that refusal
pub record AcceptResult (pool table : List ℕ) (t day : ℕ) (image : List ℕ) (r : ℕ) : Type 0 where
  pub accepted : r ≡ 0 → Accepted pool table t day image
  pub refusal : (r ≡ 0 → ⊥) → backup_dated_of pool table t day image ≡ refused_backup r pool table

-- 11, 12, or 0
abbrev pub till_refusal : Shape → State → ℕ → ℕ
till_refusal s st t = cond (leb s.capacities.versions (length (till_of st t).versions)) 11 (cond (eqb (till_of st t).last 65535) 12 0)

-- 11, 12, 28, or 0
abbrev pub dated_refusal : Shape → State → ℕ → ℕ → ℕ
dated_refusal s st t day =
    cond (leb s.capacities.versions (length (till_of st t).versions)) 11
    (cond (eqb (till_of st t).last 65535) 12
    (cond (ltb day (newest_day (till_of st t).versions)) 28 0))
