-- The rights that a call names, and what its answers say.
use Rattle.std.specs.Prelude.{ℕ, ◌+◌, ◌≤◌, ◌<◌, ◌≡◌, List, cond, ◌||◌, length, get_or, eqb, ltb, leb}
use Rattle.model.specs.State as state
use Rattle.model.specs.Rights as model
use Rattle.model.specs.Table.{shape_of}
use Rattle.laws.specs.Stores.{till_at}
use Rattle.rights.specs.declared.Right.{Right}
use Rattle.rights.specs.declared.Right.TheVariants as right
use Rattle.rights.specs.declared.Rights.{Rights}

abbrev pub right_of : Right → model.Right
right_of right.List = model.to_list
right_of right.BackUp = model.to_back_up
right_of right.Restore = model.to_restore
right_of right.Retire = model.to_retire

-- its place among a user's four bits
abbrev pub place_of : model.Right → ℕ
place_of model.to_list = 0
place_of model.to_back_up = 1
place_of model.to_restore = 2
place_of model.to_retire = 3

abbrev pub rights_given : Rights → state.Rights
rights_given r = record { list = r.list; back_up = r.back_up; restore = r.restore; retire = r.retire }

-- the place of a till's word of rights
pub record RightsAt (table : List ℕ) (t r : ℕ) : Type 0 where
  pub is : r ≡ till_at (shape_of table) t + 2
  pub inside : r < length table
  pub most : r ≤ 1051722

-- of a change: 3, 22, 23, or 0
abbrev pub set_refusal : List ℕ → ℕ → ℕ → ℕ → ℕ
set_refusal table user subject t =
    cond (leb (get_or table 0 0) t) 3
    (cond (ltb state.staff user || (eqb subject 0 || ltb state.staff subject)) 22
    (cond (ltb 0 user) 23 0))

abbrev pub rights_answered : ℕ → List ℕ → model.RightsAnswer
rights_answered r table = record { refusal = r; table = table }
