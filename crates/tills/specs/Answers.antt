-- A till's head, the place of a version among those held, and what the answers say.
use Rattle.std.specs.Prelude.{ℕ, ◌+◌, ◌≤◌, ◌<◌, ◌≡◌, List, map, length, get_or, take, drop, Option, Some, None, Result, Ok, Err}
use Rattle.model.specs.State.{Version}
use Rattle.model.specs.Table.{shape_of, state_in}
use Rattle.model.specs.Calls as calls
use Rattle.laws.specs.Stores.{till_at}
use Rattle.refusals.specs.declared.Refusal.{Refusal}
use Rattle.refusals.specs.Refusals.{number_of}
use Rattle.tills.specs.declared.Head.{Head}
use Rattle.tills.specs.declared.Listed.{Listed}

pub record HeadOf (pool table : List ℕ) (t : ℕ) (r : Head) : Type 0 where
  pub at : r.at ≡ till_at (shape_of table) t
  pub last : r.last ≡ (calls.till_of (state_in (shape_of table) pool table) t).last
  pub held : r.held ≡ length (calls.till_of (state_in (shape_of table) pool table) t).versions

-- the versions that a till holds, the oldest first, their numbers and their days
abbrev pub versions_held : List ℕ → List ℕ → ℕ → List Version
versions_held pool table t = (calls.till_of (state_in (shape_of table) pool table) t).versions

abbrev pub numbers_held : List ℕ → List ℕ → ℕ → List ℕ
numbers_held pool table t = map (λ (v : Version). v.number) (versions_held pool table t)

abbrev pub days_held : List ℕ → List ℕ → ℕ → List ℕ
days_held pool table t = map (λ (v : Version). v.day) (versions_held pool table t)

-- a place, and past the last if there is none
abbrev pub place_or_end : List Version → Option ℕ → ℕ
place_or_end vs (Some j) = j
place_or_end vs None = length vs

-- the place of version n, if it is held
pub record PlaceFound (pool table : List ℕ) (t n : ℕ) (r : Option ℕ) : Type 0 where
  pub inside : (j : ℕ) → r ≡ Some j → j < length (versions_held pool table t)
  pub from : calls.held_from n (versions_held pool table t) ≡ drop (place_or_end (versions_held pool table t) r) (versions_held pool table t)
  pub before : calls.held_before n (versions_held pool table t) ≡ take (place_or_end (versions_held pool table t) r) (versions_held pool table t)

-- a number looked up in a till: the place of its version among those held, or why there is none
pub record LookedUp (pool table : List ℕ) (t n : ℕ) (r : Result ℕ Refusal) : Type 0 where
  pub inside : (j : ℕ) → r ≡ Ok j → j < length (versions_held pool table t)
  pub held : (j : ℕ) → r ≡ Ok j
      → calls.look_up (calls.till_of (state_in (shape_of table) pool table) t) n ≡ calls.first_of 0 (take j (versions_held pool table t)) (drop j (versions_held pool table t))
  pub missing : (e : Refusal) → r ≡ Err e → calls.look_up (calls.till_of (state_in (shape_of table) pool table) t) n ≡ calls.missing (number_of e)

-- how many versions there are up to a place, with that one
abbrev pub count_upto : Option ℕ → ℕ
count_upto (Some j) = j + 1
count_upto None = 0

-- a place up to which are all versions that are not after the day, and whose own is one; none if there are none
pub record UptoDay (pool table : List ℕ) (t day : ℕ) (r : Option ℕ) : Type 0 where
  pub most : count_upto r ≤ length (versions_held pool table t)
  pub all : calls.not_after day (versions_held pool table t) ≡ calls.not_after day (take (count_upto r) (versions_held pool table t))
  pub last : (j : ℕ) → r ≡ Some j → get_or (days_held pool table t) j 0 ≤ day

abbrev pub listing_result : Result Listed Refusal → calls.ListingAnswer
listing_result (Ok r) = record { refusal = 0; oldest = r.oldest; newest = r.newest; last = r.last }
listing_result (Err e) = record { refusal = number_of e; oldest = 0; newest = 0; last = 0 }

abbrev pub version_on_result : Result ℕ Refusal → calls.VersionOnAnswer
version_on_result (Ok version) = record { refusal = 0; version = version }
version_on_result (Err e) = record { refusal = number_of e; version = 0 }
