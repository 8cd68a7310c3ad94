-- What §5 says of the messages for one image: `SentIsBackup`, and `OfferedIsBackup` of both messages in turn. crates/sent_laws has their proofs.
use Rattle.std.specs.Prelude.{ℕ, zero, suc, ◌≤◌, ◌≡◌, cond, List, [], ◌∷◌, ◌++◌, map, length, take, drop, eqb}
use Rattle.std.proofs.Math.Option.{Option, none, some}
use Rattle.lists.specs.Rows.{joined, rows}
use Rattle.lists.specs.Each.{Each}
use Rattle.sha1_definition.specs.Sha1.{sha1}
use Rattle.model.specs.Table.{shape_of}
use Rattle.model.specs.Sound.{Store, store_of}
use Rattle.model.specs.Calls.{BackupAnswer, backup_of}
use Rattle.sent.specs.Sent.{Print, segments_of, contents, zero_segment, offer_of, backup_sent_by}

-- those of the segments that are sent
unfoldable pub sent_of : List ℕ → List (List ℕ) → List (List ℕ)
sent_of [] segs = []
sent_of (m ∷ marks) [] = []
sent_of (zero ∷ marks) (seg ∷ segs) = sent_of marks segs
sent_of (suc m ∷ marks) (seg ∷ segs) = seg ∷ sent_of marks segs

-- the second message for an image, with the segments of those marks
unfoldable pub sent_for : Print → List ℕ → List ℕ → ℕ → List ℕ → List ℕ → BackupAnswer
sent_for print pool table t image marks =
    let segs = segments_of (shape_of table).measures image in
    backup_sent_by print pool table t (length image) (rows print segs) marks (joined (sent_of marks segs))

-- the zero segment and the contents of the records that can match; none where the buffers are no store
unfoldable pub known_in : Option Store → List (List ℕ)
known_in none = []
known_in (some store) = zero_segment store.shape.measures ∷ contents store.shape.measures store.state.storage

-- the segments of so many bytes that a second message sends: one for each mark of 1
unfoldable pub segments_sent : ℕ → List ℕ → List ℕ → List (List ℕ)
segments_sent bytes [] segments = []
segments_sent bytes (zero ∷ marks) segments = segments_sent bytes marks segments
segments_sent bytes (suc i ∷ marks) segments = take bytes segments ∷ segments_sent bytes marks (drop bytes segments)

-- no two different ones share a fingerprint
abbrev pub NoneShare : Print → List (List ℕ) → Type 0
NoneShare print segs = Each (λ y. Each (λ x. print x ≡ print y → x ≡ y) segs) segs

-- a mark of 0 or 1 for each segment of the image
abbrev pub MarksFor : List ℕ → List ℕ → List ℕ → Type 0
MarksFor table image marks = (length marks ≡ length (segments_of (shape_of table).measures image)) × Each (λ (i : ℕ). i ≤ 1) marks

-- never 19; and unless it is 20, the answer and both buffers are those of the image's backup
abbrev pub AsWhole : List ℕ → List ℕ → ℕ → List ℕ → BackupAnswer → Type 0
AsWhole pool table t image r = ¬ (r.refusal ≡ 19) × (¬ (r.refusal ≡ 20) → r ≡ backup_of pool table t image)

-- "For the fingerprints and segments of one image the result, 19 and 20 apart, equals its full backup whenever no two different segments, stored, all
-- zero or in the image, share a fingerprint": for all buffers, sound or not, and whichever segments are sent
abbrev pub SentIsBackup : Type 0
SentIsBackup =
    (pool table : List ℕ) (t : ℕ) (image marks : List ℕ) → MarksFor table image marks
    → NoneShare sha1 (known_in (store_of pool table) ++ segments_of (shape_of table).measures image)
    → AsWhole pool table t image (sent_for sha1 pool table t image marks)

-- the marks of what the box lacks, by those that the first message answered
unfoldable pub lacking : List ℕ → List ℕ
lacking marks = map (λ i. cond (eqb i 0) 1 0) marks

-- Both messages, one after the other: where the first is accepted and the segments that it marked 0 are sent, the second is the backup of the image, under
-- the same premise: neither 19 nor 20.
abbrev pub OfferedIsBackup : Type 0
OfferedIsBackup =
    (pool table : List ℕ) (t : ℕ) (image marks : List ℕ) → (offer_of pool table t (rows sha1 (segments_of (shape_of table).measures image)) marks).refusal ≡ 0
    → NoneShare sha1 (known_in (store_of pool table) ++ segments_of (shape_of table).measures image)
    → sent_for sha1 pool table t image (lacking (offer_of pool table t (rows sha1 (segments_of (shape_of table).measures image)) marks).marks) ≡ backup_of pool table t image
