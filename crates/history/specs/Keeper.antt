-- "The keeper of whole images", which measures demand 3.
use Rattle.std.specs.Prelude.{ℕ, suc, ◌-◌, Bool, true, false, cond, not, List, [], ◌∷◌, ◌++◌, get_or, set, replicate, eqb, leb}
use Rattle.std.proofs.Math.Option.{Option, none, some}
use Rattle.lists.specs.Lists.{keep, last_of}
use Rattle.model.specs.Measures.{Capacities}
use Rattle.model.specs.State.{Rights, staff, Outcome, refused, done}
use Rattle.model.specs.Image.{with_blanks}
use Rattle.model.specs.Calls.{no_rights}
use Rattle.model.specs.Sound.{Store, store_of}
use Rattle.sha1_definition.specs.Sha1.{sha1}
use Rattle.sent.specs.Sent.{made}
use Rattle.closing.specs.Closing.{TillImage, images_in, AllAnswer, backup_all_as}
use Rattle.history.specs.Calls.{Call, call_layout, call_backup, call_restore, call_retire, call_listing, call_version_on, call_tally, call_bill, call_write_stream, call_offer, call_backup_sent, call_backup_all, call_set_rights, till_named, Buffers}
use Rattle.history.specs.Users.{UserCall, buffers_by, refusal_by}

-- a held version: its number, its whole image, its day, and the number of its till's newest version when it was taken, 0 if none was held
pub record Kept : Type 0 where
  pub number : ℕ
  pub image : List ℕ
  pub day : ℕ
  pub previous : ℕ

-- the last number given, the rights of users 1 to 7, and the held versions, the oldest first
pub record KeptTill : Type 0 where
  pub last : ℕ
  pub rights : List Rights
  pub versions : List Kept

abbrev pub Keeper : Type 0
Keeper = List KeptTill

unfoldable pub no_till : KeptTill
no_till = record { last = 0; rights = replicate staff no_rights; versions = [] }

-- after laying out every last number is 0, no user but the owner has a right, and no version is held
unfoldable pub fresh_keeper : Capacities → Keeper
fresh_keeper c = replicate c.tills no_till

unfoldable pub kept_till : Keeper → ℕ → KeptTill
kept_till k t = get_or k t no_till

unfoldable pub oldest_kept : List Kept → ℕ
oldest_kept [] = 0
oldest_kept (x ∷ xs) = x.number

unfoldable pub newest_kept : List Kept → ℕ
newest_kept xs = last_of (λ (x : Kept). x.number) 0 xs

-- §13: the newest one's day, 0 if none is held; and the day of a new version, which is the one that is brought, or that
unfoldable pub newest_day_kept : List Kept → ℕ
newest_day_kept xs = last_of (λ (x : Kept). x.day) 0 xs

unfoldable pub day_kept : Option ℕ → List Kept → ℕ
day_kept none xs = newest_day_kept xs
day_kept (some day) xs = day

-- an accepted backup adds 1 to the last number and files the image under the new one, with its day
unfoldable pub filed : KeptTill → Option ℕ → List ℕ → KeptTill
filed t brought image = record {
  last = suc t.last;
  rights = t.rights;
  versions = t.versions ++ (record { number = suc t.last; image = image; day = day_kept brought t.versions; previous = newest_kept t.versions } ∷ []);
}

-- the versions whose day is not after the given one
unfoldable pub kept_not_after : ℕ → List Kept → List Kept
kept_not_after day xs = keep (λ (x : Kept). leb x.day day) xs

-- an accepted retire strikes the version named
unfoldable pub struck_out : KeptTill → ℕ → KeptTill
struck_out t v = record { last = t.last; rights = t.rights; versions = keep (λ (x : Kept). not (eqb x.number v)) t.versions }

-- an accepted change of rights puts the subject's in place of those before
unfoldable pub rights_kept : KeptTill → ℕ → Rights → KeptTill
rights_kept t subject rights = record { last = t.last; rights = set t.rights (subject - 1) rights; versions = t.versions }

-- what a call that was accepted or refused makes of what is kept of its till; messages of §5 and closings of §7 do not come here: they come to backups
unfoldable pub change : Call → Bool → KeptTill → KeptTill
change (call_layout c) ok y = y
change (call_backup era t d image) true y = filed y d image
change (call_backup era t d image) false y = y
change (call_restore t v output) ok y = y
change (call_retire t v) true y = struck_out y v
change (call_retire t v) false y = y
change (call_listing t) ok y = y
change (call_version_on t day) ok y = y
change call_tally ok y = y
change (call_bill price) ok y = y
change (call_write_stream t v output) ok y = y
change (call_offer t fs ms) ok y = y
change (call_backup_sent t n fs ms ss) ok y = y
change (call_backup_all ts ns is) ok y = y
change (call_set_rights subject t r) true y = rights_kept y subject r
change (call_set_rights subject t r) false y = y

-- fed the arguments of a call and whether it was accepted, and nothing out of pool or table but the image of §5
unfoldable pub fed : Keeper → Call → Bool → Keeper
fed k call ok = set k (till_named call) (change call ok (kept_till k (till_named call)))

-- a call that was made, and whether it was accepted
pub record CallMade : Type 0 where
  pub call : Call
  pub accepted : Bool

unfoldable pub fed_each : Keeper → List CallMade → Keeper
fed_each k [] = k
fed_each k (m ∷ ms) = fed_each (fed k m.call m.accepted) ms

-- ---- §5: "the image so put together is backed up"

unfoldable pub image_or : Outcome (List ℕ) → List ℕ
image_or (refused n) = []
image_or (done image) = image

-- the image that a second message is put together to, by the store; none where it is refused before that
unfoldable pub image_sent : Option Store → ℕ → ℕ → List ℕ → List ℕ → List ℕ → List ℕ
image_sent none t bytes fingerprints marks segments = []
image_sent (some store) t bytes fingerprints marks segments = image_or (made sha1 store.shape store.state t bytes fingerprints marks segments)

-- ---- §7: each image is a backup of its own, with its own answer

unfoldable pub backup_for : TillImage → Call
backup_for x = call_backup with_blanks x.till none x.image

unfoldable pub backups_made : List TillImage → List ℕ → List CallMade
backups_made [] refusals = []
backups_made (x ∷ xs) [] = []
backups_made (x ∷ xs) (n ∷ refusals) = record { call = backup_for x; accepted = eqb n 0 } ∷ backups_made xs refusals

-- none where the call is refused whole
unfoldable pub closing_made : List TillImage → AllAnswer → List CallMade
closing_made images a = cond (eqb a.refusal 0) (backups_made images a.refusals) []

-- the numbers that the backups answer: an accepted one its till's new last number, a refused one 0
unfoldable pub numbers_given : Keeper → List TillImage → List ℕ → List ℕ
numbers_given k [] refusals = []
numbers_given k (x ∷ xs) [] = []
numbers_given k (x ∷ xs) (n ∷ refusals) =
    let after : Keeper = fed k (backup_for x) (eqb n 0) in cond (eqb n 0) (kept_till after x.till).last 0 ∷ numbers_given after xs refusals

-- ---- what the keeper is fed for a call

unfoldable pub itself : Buffers → ℕ → Call → List CallMade
itself b u c = record { call = c; accepted = eqb (refusal_by b u c) 0 } ∷ []

-- a second message is the backup of its image, a closing is those of its images, and every other call is itself
unfoldable pub comes_to : Buffers → ℕ → Call → List CallMade
comes_to b u (call_layout c) = itself b u (call_layout c)
comes_to b u (call_backup era t d image) = itself b u (call_backup era t d image)
comes_to b u (call_restore t v output) = itself b u (call_restore t v output)
comes_to b u (call_retire t v) = itself b u (call_retire t v)
comes_to b u (call_listing t) = itself b u (call_listing t)
comes_to b u (call_version_on t day) = itself b u (call_version_on t day)
comes_to b u call_tally = itself b u call_tally
comes_to b u (call_bill price) = itself b u (call_bill price)
comes_to b u (call_write_stream t v output) = itself b u (call_write_stream t v output)
comes_to b u (call_offer t fs ms) = itself b u (call_offer t fs ms)
comes_to b u (call_backup_sent t n fs ms ss) =
    record { call = call_backup with_blanks t none (image_sent (store_of b.pool b.table) t n fs ms ss); accepted = eqb (refusal_by b u (call_backup_sent t n fs ms ss)) 0 } ∷ []
comes_to b u (call_backup_all ts ns is) = closing_made (images_in ts ns is) (backup_all_as b.pool b.table u ts ns is).answer
comes_to b u (call_set_rights subject t r) = itself b u (call_set_rights subject t r)

unfoldable pub fed_all : Keeper → Buffers → List UserCall → Keeper
fed_all k b [] = k
fed_all k b (c ∷ cs) = fed_all (fed_each k (comes_to b c.user c.call)) (buffers_by b c.user c.call) cs

-- the kept version of that number and the newer ones; [] where none is held
unfoldable pub kept_from : ℕ → List Kept → List Kept
kept_from n [] = []
kept_from n (x ∷ xs) = let r = kept_from n xs in cond (eqb x.number n) (x ∷ xs) r
