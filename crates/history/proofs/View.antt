-- What a till shows of its versions, records and cells apart; what a call makes of that, and what it answers to it.
use Prim.Native.Nat.{ℕ, suc, ◌-◌, ◌*◌}
use mathlib.Core.Bool.{Bool, true, false, cond, ◌||◌}
use mathlib.Core.List.{List, [], ◌∷◌, ◌++◌, map}
use mathlib.Core.Option.{Option, none, some}
use lib.ListN.{length, get_or, set, drop}
use lib.Dec.{eqb, leb, ltb}
use Rattle.lists.specs.Lists.{counted, keep, all_zero, largest, last_of}
use Rattle.lists.proofs.Over.{over}
use Rattle.model.specs.Measures.{Shape}
use Rattle.model.specs.State.{Block, Storage, Version, Rights, staff, Till, State}
use Rattle.model.specs.Image.{Era, is_bare, image_blocks}
use Rattle.model.specs.Turn.{turns_to}
use Rattle.model.specs.Trace.{image_of}
use Rattle.model.specs.Calls.{till_of, not_held, RestoreAnswer, restore_refusal, listing_refusal, VersionOnAnswer}
use Rattle.stream.specs.Version.{longest_output, write_restored}
use Rattle.bill.specs.Bill.{bill_refused}
use Rattle.closing.specs.Closing.{all_refused}
use Rattle.history.specs.Calls.{Call, call_layout, call_backup, call_restore, call_retire, call_listing, call_version_on, call_tally, call_bill, call_write_stream, call_offer, call_backup_sent, call_backup_all, call_set_rights, Answer, laid_out, backed_up, restored, retired, listed, found_on, tallied, billed, streamed, offered, backed_up_all, rights_set}
use Rattle.history.proofs.PointerKinds.{Kind, zero_kind, blank_kind, direct_kind, indirect_kind, kind_of, kind_at, hops_of_kind}

-- A version as its till shows it: number, length, day, image, what each pointer is and where an indirect one leads.
pub record VersionView : Type 0 where
  pub number : ℕ
  pub length : ℕ
  pub day : ℕ
  pub image : List ℕ
  pub kinds : List Kind

pub record TillView : Type 0 where
  pub last : ℕ
  pub rights : List Rights
  pub versions : List VersionView

unfoldable pub view_versions : ℕ → Storage → List Version → List VersionView
view_versions bytes storage [] = []
view_versions bytes storage (v ∷ newer) =
    record { number = v.number; length = v.length; day = v.day; image = image_of bytes storage (v ∷ newer); kinds = map kind_of v.pointers } ∷ view_versions bytes storage newer

unfoldable pub view_of : ℕ → Storage → Till → TillView
view_of bytes storage t = record { last = t.last; rights = t.rights; versions = view_versions bytes storage t.versions }

-- till `t` of a state
abbrev pub view_at : ℕ → State → ℕ → TillView
view_at bytes st t = view_of bytes st.storage (till_of st t)

-- how many indirect pointers are followed for block `n` of the first version of the list, the others being the newer ones; and the most for any block
unfoldable pub hops_shown : List VersionView → ℕ → ℕ
hops_shown [] n = 0
hops_shown (w ∷ newer) n = hops_of_kind (get_or w.kinds n zero_kind) (λ k. hops_shown newer k)

unfoldable pub chain_shown : List VersionView → ℕ
chain_shown [] = 0
chain_shown (w ∷ newer) = largest (counted (hops_shown (w ∷ newer)) 0 (length w.kinds))

-- ---- what a call makes of its till

-- a new version's pointer for a block
unfoldable pub new_kind : Era → Block → Kind
new_kind era b = cond (is_bare era b) (cond (all_zero b) zero_kind blank_kind) direct_kind

-- A pointer of the previous version, and its block: a direct one turns blank or indirect, if it does.
unfoldable pub turned_kind : Era → List Block → Kind → Block → Kind
turned_kind era new zero_kind b = zero_kind
turned_kind era new blank_kind b = blank_kind
turned_kind era new direct_kind b = kind_at (turns_to era new b)
turned_kind era new (indirect_kind n) b = indirect_kind n

unfoldable pub with_kinds : VersionView → List Kind → VersionView
with_kinds w ks = record { number = w.number; length = w.length; day = w.day; image = w.image; kinds = ks }

unfoldable pub turn_newest : Era → ℕ → List Block → List VersionView → List VersionView
turn_newest era bytes new [] = []
turn_newest era bytes new (w ∷ []) = with_kinds w (over (turned_kind era new) w.kinds (image_blocks bytes w.image)) ∷ []
turn_newest era bytes new (w ∷ x ∷ ws) = w ∷ turn_newest era bytes new (x ∷ ws)

-- the newest one's day, and the day of a new version
unfoldable pub newest_day_shown : List VersionView → ℕ
newest_day_shown ws = last_of (λ (w : VersionView). w.day) 0 ws

unfoldable pub day_shown : Option ℕ → List VersionView → ℕ
day_shown none ws = newest_day_shown ws
day_shown (some day) ws = day

unfoldable pub shown_with : Era → ℕ → TillView → Option ℕ → List ℕ → TillView
shown_with era bytes w d image = record {
  last = suc w.last;
  rights = w.rights;
  versions =
      turn_newest era bytes (image_blocks bytes image) w.versions
      ++ (record { number = suc w.last; length = length image; day = day_shown d w.versions; image = image; kinds = map (new_kind era) (image_blocks bytes image) } ∷ []);
}

-- A pointer of a retired version's older neighbour: an indirect one takes over what it named, of the retired version's.
unfoldable pub take_over_kind : List Kind → Kind → Kind
take_over_kind gone zero_kind = zero_kind
take_over_kind gone blank_kind = blank_kind
take_over_kind gone direct_kind = direct_kind
take_over_kind gone (indirect_kind n) = get_or gone n zero_kind

-- the version of that number goes, its older neighbour takes over
unfoldable pub drop_version : ℕ → List VersionView → List VersionView
drop_version n [] = []
drop_version n (w ∷ []) = cond (eqb w.number n) [] (w ∷ [])
drop_version n (w ∷ x ∷ ws) =
    let r = drop_version n (x ∷ ws) in
    cond (eqb w.number n) (x ∷ ws) (cond (eqb x.number n) (with_kinds w (map (take_over_kind x.kinds) w.kinds) ∷ ws) (w ∷ r))

unfoldable pub shown_without : TillView → ℕ → TillView
shown_without w n = record { last = w.last; rights = w.rights; versions = drop_version n w.versions }

unfoldable pub shown_rights : TillView → ℕ → Rights → TillView
shown_rights w subject rights = record { last = w.last; rights = set w.rights (subject - 1) rights; versions = w.versions }

-- What the till shows after a call that was accepted or refused: a function of what it showed before and of the call's arguments. What a second message
-- of §5 and a closing of §7 leave is that of the backups they come to.
unfoldable pub changed : ℕ → Call → Bool → TillView → TillView
changed bytes (call_layout c) ok w = w
changed bytes (call_backup era t d image) true w = shown_with era bytes w d image
changed bytes (call_backup era t d image) false w = w
changed bytes (call_restore t v output) ok w = w
changed bytes (call_retire t v) true w = shown_without w v
changed bytes (call_retire t v) false w = w
changed bytes (call_listing t) ok w = w
changed bytes (call_version_on t day) ok w = w
changed bytes call_tally ok w = w
changed bytes (call_bill price) ok w = w
changed bytes (call_write_stream t v output) ok w = w
changed bytes (call_offer t fs ms) ok w = w
changed bytes (call_backup_sent t n fs ms ss) ok w = w
changed bytes (call_backup_all ts ns is) ok w = w
changed bytes (call_set_rights subject t r) true w = shown_rights w subject r
changed bytes (call_set_rights subject t r) false w = w

-- the calls whose arguments say what they make of their till: all but the second message of §5 and the closing of §7
abbrev pub IsPlain : Call → Type 0
IsPlain (call_layout c) = Unit {0}
IsPlain (call_backup era t d image) = Unit {0}
IsPlain (call_restore t v output) = Unit {0}
IsPlain (call_retire t v) = Unit {0}
IsPlain (call_listing t) = Unit {0}
IsPlain (call_version_on t day) = Unit {0}
IsPlain call_tally = Unit {0}
IsPlain (call_bill price) = Unit {0}
IsPlain (call_write_stream t v output) = Unit {0}
IsPlain (call_offer t fs ms) = Unit {0}
IsPlain (call_backup_sent t n fs ms ss) = ⊥
IsPlain (call_backup_all ts ns is) = ⊥
IsPlain (call_set_rights subject t r) = Unit {0}

-- ---- what a call on a till answers, from what the till shows; 14 and 16, which depend on the shared storage, apart, and the messages of §5, which do too

abbrev pub is_on_till : Call → Bool
is_on_till (call_layout c) = false
is_on_till (call_backup era t d image) = true
is_on_till (call_restore t v output) = true
is_on_till (call_retire t v) = true
is_on_till (call_listing t) = true
is_on_till (call_version_on t day) = true
is_on_till call_tally = false
is_on_till (call_bill price) = false
is_on_till (call_write_stream t v output) = true
is_on_till (call_offer t fs ms) = false
is_on_till (call_backup_sent t n fs ms ss) = false
is_on_till (call_backup_all ts ns is) = false
is_on_till (call_set_rights subject t r) = true

unfoldable pub shown_from : ℕ → List VersionView → List VersionView
shown_from n [] = []
shown_from n (w ∷ ws) = let r = shown_from n ws in cond (eqb w.number n) (w ∷ ws) r

unfoldable pub oldest_shown : List VersionView → ℕ
oldest_shown [] = 0
oldest_shown (w ∷ ws) = w.number

unfoldable pub newest_shown : List VersionView → ℕ
newest_shown ws = last_of (λ (w : VersionView). w.number) 0 ws

unfoldable pub shown_not_after : ℕ → List VersionView → List VersionView
shown_not_after day ws = keep (λ (w : VersionView). leb w.day day) ws

unfoldable pub newest_shown_or_none : List VersionView → VersionOnAnswer
newest_shown_or_none [] = record { refusal = 29; version = 0 }
newest_shown_or_none (w ∷ ws) = record { refusal = 0; version = newest_shown (w ∷ ws) }

-- `n` is the refusal where none is shown
unfoldable pub restore_shown : ℕ → List VersionView → List ℕ → RestoreAnswer
restore_shown n [] output = restore_refusal n output
restore_shown n (w ∷ newer) output =
    cond (ltb (length output) w.length) (restore_refusal 5 output)
    (record { refusal = 0; length = w.length; hops = chain_shown (w ∷ newer); output = w.image ++ drop w.length output })

unfoldable pub retire_shown : ℕ → List VersionView → Answer
retire_shown n [] = retired n 0
retire_shown n (w ∷ newer) = retired 0 w.length

unfoldable pub answer_shown : Shape → TillView → Call → Answer
answer_shown s w (call_layout c) = laid_out 0
answer_shown s w (call_backup era t d image) =
    cond (leb s.capacities.tills t) (backed_up 3 0)
    (cond (eqb (length image) 0 || ltb (s.measures.block_bytes * s.capacities.blocks) (length image)) (backed_up 4 0)
    (cond (leb s.capacities.versions (length w.versions)) (backed_up 11 0)
    (cond (eqb w.last 65535) (backed_up 12 0)
    (cond (ltb (day_shown d w.versions) (newest_day_shown w.versions)) (backed_up 28 0) (backed_up 0 (suc w.last))))))
answer_shown s w (call_restore t v output) = restored (cond (leb s.capacities.tills t) (restore_refusal 3 output) (restore_shown (not_held w.last v) (shown_from v w.versions) output))
answer_shown s w (call_retire t v) = cond (leb s.capacities.tills t) (retired 3 0) (retire_shown (not_held w.last v) (shown_from v w.versions))
answer_shown s w (call_listing t) =
    listed (cond (leb s.capacities.tills t) (listing_refusal 3)
    (record { refusal = 0; oldest = oldest_shown w.versions; newest = newest_shown w.versions; last = w.last }))
answer_shown s w (call_version_on t day) =
    found_on (cond (leb s.capacities.tills t) (record { refusal = 3; version = 0 }) (newest_shown_or_none (shown_not_after day w.versions)))
answer_shown s w call_tally = tallied (record { refusal = 0; cells = 0; records = 0; counts = 0 })
answer_shown s w (call_bill price) = billed (bill_refused 0)
answer_shown s w (call_write_stream t v output) =
    streamed (write_restored (cond (leb s.capacities.tills t) (restore_refusal 3 longest_output) (restore_shown (not_held w.last v) (shown_from v w.versions) longest_output)) output)
answer_shown s w (call_offer t fs ms) = offered (record { refusal = 0; marks = ms })
answer_shown s w (call_backup_sent t n fs ms ss) = backed_up 0 0
answer_shown s w (call_backup_all ts ns is) = backed_up_all (all_refused 0)
answer_shown s w (call_set_rights subject t r) = rights_set (cond (leb s.capacities.tills t) 3 (cond (eqb subject 0 || ltb staff subject) 22 0))
