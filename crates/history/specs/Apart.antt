-- §9: "A user with no right on a till gets the same answers and restored bytes on other tills, for two histories from a fresh lay out that differ only in
-- accepted calls on that till". One claim, `NonInterference`; proofs/Apart.antt has its proof.
use Rattle.std.specs.Prelude.{ℕ, ◌≡◌, false, List, [], ◌∷◌, ◌++◌}
use Rattle.lists.specs.Lists.{is_in}
use Rattle.lists.specs.Each.{Each}
use Rattle.sha1_definition.specs.Sha1.{sha1}
use Rattle.model.specs.Measures.{Shape}
use Rattle.model.specs.Table.{shape_of}
use Rattle.model.specs.Sound.{store_of}
use Rattle.model.specs.Calls.{layout_of}
use Rattle.model.specs.Rights.{Right, refusal_for}
use Rattle.sent.specs.Sent.{segment_bytes}
use Rattle.sent.specs.Claims.{known_in, NoneShare, segments_sent}
use Rattle.history.specs.Calls.{Call, call_layout, call_backup, call_restore, call_retire, call_listing, call_version_on, call_tally, call_bill, call_write_stream, call_offer, call_backup_sent, call_backup_all, call_set_rights, Buffers, Answer, laid_out, backed_up, restored, retired, listed, found_on, tallied, billed, streamed, offered, backed_up_all, rights_set, refusal_in, refused_layout}
use Rattle.history.specs.Users.{UserCall, buffers_by, answer_by}
use Rattle.history.specs.Demand.{laid_out_in}

-- ---- the two histories

-- a call of both histories, or of one of them
pub data Item : Type 0 where
  both : UserCall → Item
  first : UserCall → Item
  second : UserCall → Item

-- a call on till `u`, a closing with images of that till only, or rights on it
abbrev pub IsOn : ℕ → Call → Type 0
IsOn u (call_layout c) = ⊥
IsOn u (call_backup era t d image) = t ≡ u
IsOn u (call_restore t v output) = t ≡ u
IsOn u (call_retire t v) = t ≡ u
IsOn u (call_listing t) = t ≡ u
IsOn u (call_version_on t day) = t ≡ u
IsOn u call_tally = ⊥
IsOn u (call_bill price) = ⊥
IsOn u (call_write_stream t v output) = t ≡ u
IsOn u (call_offer t fs ms) = t ≡ u
IsOn u (call_backup_sent t n fs ms ss) = t ≡ u
IsOn u (call_backup_all ts ns is) = Each (λ t. t ≡ u) ts
IsOn u (call_set_rights subject t r) = t ≡ u

-- user `x` has no right on till `u`: he is refused whichever a call needs
abbrev pub Lacks : ℕ → ℕ → Buffers → Type 0
Lacks x u b = (right : Right) → ¬ (refusal_for (store_of b.pool b.table) x u right ≡ 0)

-- "the answers 14, 16, 19, 20 and 21 …, which depend on the shared pool"; 21 is answered on a chain only (§8)
abbrev pub FromTill : ℕ → Type 0
FromTill n = is_in n (14 ∷ 16 ∷ 19 ∷ 20 ∷ 21 ∷ []) ≡ false

-- an answer that is none of these, nor has one for an image of a closing
abbrev pub IsFromTill : Answer → Type 0
IsFromTill (laid_out n) = Unit {0}
IsFromTill (backed_up n v) = FromTill n
IsFromTill (restored a) = Unit {0}
IsFromTill (retired n l) = Unit {0}
IsFromTill (listed a) = Unit {0}
IsFromTill (found_on a) = Unit {0}
IsFromTill (tallied a) = Unit {0}
IsFromTill (billed a) = Unit {0}
IsFromTill (streamed a) = Unit {0}
IsFromTill (offered a) = Unit {0}
IsFromTill (backed_up_all a) = Each FromTill a.refusals
IsFromTill (rights_set n) = Unit {0}

-- the segments that come with a call
unfoldable pub sent_with : Buffers → Call → List (List ℕ)
sent_with b (call_layout c) = []
sent_with b (call_backup era t d image) = []
sent_with b (call_restore t v output) = []
sent_with b (call_retire t v) = []
sent_with b (call_listing t) = []
sent_with b (call_version_on t day) = []
sent_with b call_tally = []
sent_with b (call_bill price) = []
sent_with b (call_write_stream t v output) = []
sent_with b (call_offer t fs ms) = []
sent_with b (call_backup_sent t n fs ms ss) = segments_sent (segment_bytes (shape_of b.table).measures) ms ss
sent_with b (call_backup_all ts ns is) = []
sent_with b (call_set_rights subject t r) = []

-- the segments that a call meets: those that the store has, the zero segment among them, and those that come with it
unfoldable pub segments_met : Buffers → Call → List (List ℕ)
segments_met b call = known_in (store_of b.pool b.table) ++ sent_with b call

-- What is asked of a call that both make: the user has no right on the till; nobody gets an answer that depends on the pool, since all that follows one is
-- left out; and "no two different segments in them share a fingerprint".
pub record InBoth (x u : ℕ) (b b' : Buffers) (c : UserCall) : Type 0 where
  pub layouts : refused_layout b c.call × refused_layout b' c.call
  pub lacks : Lacks x u b × Lacks x u b'
  pub from_till : IsFromTill (answer_by b c.user c.call) × IsFromTill (answer_by b' c.user c.call)
  pub none_share : NoneShare sha1 (segments_met b c.call ++ segments_met b' c.call)

-- the histories side by side; calls of one are on till `u`, accepted or not
abbrev pub Differ : ℕ → ℕ → Buffers → Buffers → List Item → Type 0
Differ x u b b' [] = Unit {0}
Differ x u b b' (both c ∷ items) = InBoth x u b b' c × Differ x u (buffers_by b c.user c.call) (buffers_by b' c.user c.call) items
Differ x u b b' (first c ∷ items) = IsOn u c.call × Differ x u (buffers_by b c.user c.call) b' items
Differ x u b b' (second c ∷ items) = IsOn u c.call × Differ x u b (buffers_by b' c.user c.call) items

-- ---- what the user gets

-- the same answer, with the bytes of the output; of the first message of §5 the refusal, "left out are the marks"; lay out names no user
abbrev pub SameAnswer : Call → Answer → Answer → Type 0
SameAnswer (call_layout c) a a' = Unit {0}
SameAnswer (call_backup era t d image) a a' = a ≡ a'
SameAnswer (call_restore t v output) a a' = a ≡ a'
SameAnswer (call_retire t v) a a' = a ≡ a'
SameAnswer (call_listing t) a a' = a ≡ a'
SameAnswer (call_version_on t day) a a' = a ≡ a'
SameAnswer call_tally a a' = a ≡ a'
SameAnswer (call_bill price) a a' = a ≡ a'
SameAnswer (call_write_stream t v output) a a' = a ≡ a'
SameAnswer (call_offer t fs ms) a a' = refusal_in a ≡ refusal_in a'
SameAnswer (call_backup_sent t n fs ms ss) a a' = a ≡ a'
SameAnswer (call_backup_all ts ns is) a a' = a ≡ a'
SameAnswer (call_set_rights subject t r) a a' = a ≡ a'

-- to each of his calls, on other tills and on till `u`, where they are refusals
abbrev pub Agree : ℕ → Buffers → Buffers → List Item → Type 0
Agree x b b' [] = Unit {0}
Agree x b b' (both c ∷ items) =
    (c.user ≡ x → SameAnswer c.call (answer_by b c.user c.call) (answer_by b' c.user c.call))
    × Agree x (buffers_by b c.user c.call) (buffers_by b' c.user c.call) items
Agree x b b' (first c ∷ items) = Agree x (buffers_by b c.user c.call) b' items
Agree x b b' (second c ∷ items) = Agree x b (buffers_by b' c.user c.call) items

-- The claim: for any capacities, any user and any till.
abbrev pub NonInterference : Type 0
NonInterference =
    (s : Shape) (pool table pool' table' : List ℕ) (x u : ℕ) (items : List Item) → (layout_of s pool table).refusal ≡ 0 → (layout_of s pool' table').refusal ≡ 0
    → Differ x u (laid_out_in s pool table) (laid_out_in s pool' table') items
    → Agree x (laid_out_in s pool table) (laid_out_in s pool' table') items
