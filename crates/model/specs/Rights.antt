-- "Keys for staff" (§9): users 0 to 7 and their rights on each till. The calls of Calls.antt are those of a user who may make them; here each names its user.
-- An unknown user is refused with 22, and then one without the right with 23, "both after 3 …, or after 10 where no till is named".
use Rattle.std.specs.Prelude.{ℕ, zero, suc, ◌-◌, Bool, cond, ◌||◌, List, get_or, set, eqb, ltb, leb}
use Rattle.std.proofs.Math.Option.{Option, none, some}
use Rattle.model.specs.Measures.{Shape}
use Rattle.model.specs.State.{Rights, staff, Till, State, Outcome, refused, done}
use Rattle.model.specs.Image.{Era}
use Rattle.model.specs.Table.{state_to_words}
use Rattle.model.specs.Sound.{Store, store_of}
use Rattle.model.specs.Calls.{no_rights, till_of, with_till, After, BackupAnswer, backup_by, RestoreAnswer, restore_refusal, restore_of, RetireAnswer, retire_of, ListingAnswer, listing_refusal, listing_of, VersionOnAnswer, version_on_of, TallyAnswer, tally_of}

-- ---- who may do what

pub data Right : Type 0 where
  to_list : Right
  to_back_up : Right
  to_restore : Right
  to_retire : Right

abbrev pub has : Right → Rights → Bool
has to_list r = r.list
has to_back_up r = r.back_up
has to_restore r = r.restore
has to_retire r = r.retire

-- The refusal of a user on a till with those rights, 0 if there is none: "the owner, user 0, has all". Of a till that is missing the call itself is refused
-- with 3, whoever the user is.
abbrev pub user_refusal : Bool → List Rights → ℕ → Right → ℕ
user_refusal missing rights zero right = 0
user_refusal missing rights (suc u) right = cond missing 0 (cond (leb staff u) 22 (cond (has right (get_or rights u no_rights)) 0 23))

abbrev pub refusal_at : Shape → State → ℕ → ℕ → Right → ℕ
refusal_at s st user t right = user_refusal (leb s.capacities.tills t) (till_of st t).rights user right

-- Where there is no store the call itself is refused with 10.
unfoldable pub refusal_for : Option Store → ℕ → ℕ → Right → ℕ
refusal_for none user t right = 0
refusal_for (some store) user t right = refusal_at store.shape store.state user t right

-- what is the owner's only
abbrev pub not_owner : ℕ → ℕ
not_owner zero = 0
not_owner (suc u) = cond (leb staff u) 22 23

unfoldable pub owner_refusal : Option Store → ℕ → ℕ
owner_refusal none user = 0
owner_refusal (some store) user = not_owner user

-- the answer, unless there is a refusal
abbrev pub unless : {A : Type 0} → ℕ → (ℕ → A) → A → A
unless n refuse answer = cond (eqb n 0) answer (refuse n)

-- ---- the calls with their users

-- backup, with a day or without: 10, 3, 22, 23, then as ever
unfoldable pub backup_refusal : List ℕ → List ℕ → ℕ → BackupAnswer
backup_refusal pool table n = record { refusal = n; version = 0; pool = pool; table = table }

unfoldable pub backup_as : Era → List ℕ → List ℕ → ℕ → ℕ → Option ℕ → List ℕ → BackupAnswer
backup_as era pool table user t brought image =
    unless (refusal_for (store_of pool table) user t to_back_up) (backup_refusal pool table) (backup_by era pool table t brought image)

-- restore: 10, 3, 22, 23, 17 or 18, 5
unfoldable pub restore_as : List ℕ → List ℕ → ℕ → ℕ → ℕ → List ℕ → RestoreAnswer
restore_as pool table user t version output =
    unless (refusal_for (store_of pool table) user t to_restore) (λ n. restore_refusal n output) (restore_of pool table t version output)

-- retire: 10, 3, 22, 23, 17 or 18
unfoldable pub retire_refusal : List ℕ → List ℕ → ℕ → RetireAnswer
retire_refusal pool table n = record { refusal = n; length = 0; pool = pool; table = table }

unfoldable pub retire_as : List ℕ → List ℕ → ℕ → ℕ → ℕ → RetireAnswer
retire_as pool table user t version =
    unless (refusal_for (store_of pool table) user t to_retire) (retire_refusal pool table) (retire_of pool table t version)

-- listing: 10, 3, 22, 23
unfoldable pub listing_as : List ℕ → List ℕ → ℕ → ℕ → ListingAnswer
listing_as pool table user t = unless (refusal_for (store_of pool table) user t to_list) listing_refusal (listing_of pool table t)

-- lookup by day: 10, 3, 22, 23, 29
unfoldable pub version_on_refusal : ℕ → VersionOnAnswer
version_on_refusal n = record { refusal = n; version = 0 }

unfoldable pub version_on_as : List ℕ → List ℕ → ℕ → ℕ → ℕ → VersionOnAnswer
version_on_as pool table user t day = unless (refusal_for (store_of pool table) user t to_list) version_on_refusal (version_on_of pool table t day)

-- "The tally belongs to the owner": 10, 22, 23
unfoldable pub tally_refusal : ℕ → TallyAnswer
tally_refusal n = record { refusal = n; cells = 0; records = 0; counts = 0 }

unfoldable pub tally_as : List ℕ → List ℕ → ℕ → TallyAnswer
tally_as pool table user = unless (owner_refusal (store_of pool table) user) tally_refusal (tally_of pool table)

-- ---- set the rights of a user, the subject, on a till: 10, 3, 22 "for an unknown user or a change to user 0's rights", 23 for any but the owner

pub record RightsAnswer : Type 0 where
  pub refusal : ℕ
  pub table : List ℕ

unfoldable pub with_rights : Till → ℕ → Rights → Till
with_rights till subject rights = record { last = till.last; rights = set till.rights (subject - 1) rights; versions = till.versions }

unfoldable pub set_rights : Shape → State → ℕ → ℕ → ℕ → Rights → Outcome After
set_rights s st user subject t rights =
    cond (leb s.capacities.tills t) (refused 3)
    (cond (ltb staff user || (eqb subject 0 || ltb staff subject)) (refused 22)
    (cond (ltb 0 user) (refused 23)
    (done (record { state = with_till st t (with_rights (till_of st t) subject rights) st.storage; answer = 0 }))))

unfoldable pub rights_answer : List ℕ → Shape → Outcome After → RightsAnswer
rights_answer table s (refused n) = record { refusal = n; table = table }
rights_answer table s (done a) = record { refusal = 0; table = state_to_words s a.state }

unfoldable pub set_rights_in : Option Store → List ℕ → ℕ → ℕ → ℕ → Rights → RightsAnswer
set_rights_in none table user subject t rights = record { refusal = 10; table = table }
set_rights_in (some store) table user subject t rights = rights_answer table store.shape (set_rights store.shape store.state user subject t rights)

unfoldable pub set_rights_of : List ℕ → List ℕ → ℕ → ℕ → ℕ → Rights → RightsAnswer
set_rights_of pool table user subject t rights = set_rights_in (store_of pool table) table user subject t rights
