-- What the steps of a retire require and do, and what its answer says.
use Rattle.std.specs.Prelude.{◌≡◌, cond, List, map, ℕ, suc, ◌/◌, ◌%◌, ◌≤◌, ◌<◌, length, get_or, take, drop, eqb, Result, Ok, Err}
use Rattle.model.specs.Measures.{Shape, parts_for, till_words}
use Rattle.model.specs.State.{Pointer, Version, State}
use Rattle.model.specs.Sweep.{release, claim, sweep}
use Rattle.model.specs.Table.{kind_unit, pointer_word, shape_of, state_in, state_to_words, state_to_bytes}
use Rattle.model.specs.Calls as calls
use Rattle.laws.specs.Stores.{till_at, Sound}
use Rattle.refusals.specs.declared.Refusal.{Refusal}
use Rattle.refusals.specs.Refusals.{number_of}
use Rattle.tills.specs.Answers.{versions_held}
use Rattle.restore_trace.specs.Versions.{no_version}

abbrev pub version_at : List ℕ → List ℕ → ℕ → ℕ → Version
version_at pool table t j = get_or (versions_held pool table t) j no_version

-- till t of a sound store, which begins at a word, holds a version at place j, the oldest first
pub record HoldsVersion (pool table : List ℕ) (t at j : ℕ) : Type 0 where
  pub sound : Sound pool table
  pub inside : t < get_or table 0 0
  pub begins : at ≡ till_at (shape_of table) t
  pub held : j < length (versions_held pool table t)

-- that version's length, and its pointer words at the front of others
pub record Copied (pool table : List ℕ) (t j n : ℕ) (ws : List ℕ) : Type 0 where
  pub bytes : n ≡ (version_at pool table t j).length
  pub words : take (parts_for (shape_of table).measures.block_bytes n) ws ≡ map pointer_word (version_at pool table t j).pointers
  pub room : parts_for (shape_of table).measures.block_bytes n ≤ length ws

-- `taken` and `take_over` on words
unfoldable pub taken_word : List ℕ → ℕ → ℕ
taken_word gone w = cond (eqb (w / kind_unit) 2) (get_or gone (w % kind_unit) 0) 0

unfoldable pub take_over_word : List ℕ → ℕ → ℕ
take_over_word gone w = cond (eqb (w / kind_unit) 2) (get_or gone (w % kind_unit) 0) w

-- pointers have claimed their blocks, and others have let go of theirs
abbrev pub exchanged : List ℕ → List ℕ → List Pointer → List Pointer → State
exchanged pool table taken gone = record {
  tills = (state_in (shape_of table) pool table).tills;
  storage = sweep (shape_of table).measures (release (claim (state_in (shape_of table) pool table).storage taken) gone);
}

-- the version at place j has gone from between its neighbours
abbrev pub state_without : List ℕ → List ℕ → ℕ → ℕ → State
state_without pool table t j =
    let st = state_in (shape_of table) pool table in
    let older = take j (versions_held pool table t) in
    let gone = version_at pool table t j in
    calls.with_till st t (record { last = (calls.till_of st t).last; rights = (calls.till_of st t).rights; versions = calls.close_up older gone (drop (suc j) (versions_held pool table t)) })
    (sweep (shape_of table).measures (release (claim st.storage (map (calls.taken gone.pointers) (calls.newest_pointers older))) gone.pointers))

-- the buffers are those of a state
pub record EncodesState (s : Shape) (st : State) (pool table : List ℕ) : Type 0 where
  pub bytes : pool ≡ state_to_bytes st
  pub words : table ≡ state_to_words s st

-- the place and the size of till t of a state
pub record TillPlace (s : Shape) (st : State) (t at n b : ℕ) : Type 0 where
  pub there : t < length st.tills
  pub begins : at ≡ till_at s t
  pub blocks : b ≡ s.capacities.blocks
  pub size : n ≡ till_words s.capacities.versions s.capacities.blocks
  pub few : length (calls.till_of st t).versions ≤ s.capacities.versions

abbrev pub retire_result : Result ℕ Refusal → List ℕ → List ℕ → calls.RetireAnswer
retire_result (Ok length) pool table = record { refusal = 0; length = length; pool = pool; table = table }
retire_result (Err e) pool table = record { refusal = number_of e; length = 0; pool = pool; table = table }

-- the answer of a call that retires the version at place j
abbrev pub retired_at : List ℕ → List ℕ → ℕ → ℕ → calls.RetireAnswer
retired_at pool table t j =
    calls.retire_answer pool table (shape_of table)
    (calls.retire_from (shape_of table) (state_in (shape_of table) pool table) t (calls.till_of (state_in (shape_of table) pool table) t) (calls.first_of 0 (take j (versions_held pool table t)) (drop j (versions_held pool table t))))
