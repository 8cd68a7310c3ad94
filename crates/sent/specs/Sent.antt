-- "Sending only what the box lacks" (§5). A segment here is its bytes, as many as a whole segment has. `print` makes fingerprints: any function to
-- 20 bytes in the laws, SHA-1 in the calls at the end.
use Rattle.std.specs.Prelude.{ℕ, zero, suc, ◌-◌, ◌*◌, Bool, true, false, cond, not, ◌||◌, List, [], ◌∷◌, ◌++◌, map, length, take, drop, eqb, ltb, leb}
use Rattle.std.proofs.Math.Option.{Option, none, some}
use Rattle.lists.specs.Lists.{every, keep, total, is_some, all_of, all_zero, same_numbers}
use Rattle.lists.specs.Rows.{rows, chunks}
use Rattle.sha1_definition.specs.Sha1.{sha1}
use Rattle.model.specs.Measures.{Measures, Shape, parts_for}
use Rattle.model.specs.State.{Block, Position, null_position, blank_position, held, removed, Segment, Storage, State, Outcome, refused, done}
use Rattle.model.specs.Image.{zero_block, blank_block, with_blanks, is_blank, image_blocks}
use Rattle.model.specs.Records.{cell_at, is_free}
use Rattle.model.specs.Sound.{Store, store_of}
use Rattle.model.specs.Calls.{till_of, After, backup, BackupAnswer, backup_answer}
use Rattle.model.specs.Rights.{to_back_up, refusal_for, unless, backup_refusal}

abbrev pub Print : Type 0
Print = List ℕ → List ℕ

unfoldable pub segment_bytes : Measures → ℕ
segment_bytes m = m.segment_blocks * m.block_bytes

-- an image's segments, the last filled up with zeros
unfoldable pub segments_of : Measures → List ℕ → List (List ℕ)
segments_of m image = image_blocks (segment_bytes m) image

-- ---- what the box has

-- A removed position, or an occupied cell of 255s, keeps its record from matching.
abbrev pub lets : Storage → Position → Bool
lets storage null_position = true
lets storage blank_position = true
lets storage (held c n) = not (is_blank with_blanks (cell_at storage c))
lets storage removed = false

unfoldable pub can_match : Storage → Segment → Bool
can_match storage seg = all_of (not (is_free seg) ∷ every (lets storage) seg ∷ [])

abbrev pub content_of : ℕ → Storage → Position → Block
content_of bytes storage null_position = zero_block bytes
content_of bytes storage blank_position = blank_block bytes
content_of bytes storage (held c n) = cell_at storage c
content_of bytes storage removed = zero_block bytes

-- a record's content
abbrev pub content_in : Measures → Storage → Segment → List ℕ
content_in m storage seg = rows (content_of m.block_bytes storage) seg

-- the contents of the records that can match, the lowest first
unfoldable pub contents : Measures → Storage → List (List ℕ)
contents m storage = map (content_in m storage) (keep (can_match storage) storage.records)

unfoldable pub zero_segment : Measures → List ℕ
zero_segment m = zero_block (segment_bytes m)

-- the first of the segments that has the fingerprint
unfoldable pub first_with : Print → List ℕ → List (List ℕ) → Option (List ℕ)
first_with print fingerprint [] = none
first_with print fingerprint (x ∷ xs) = let r = first_with print fingerprint xs in cond (same_numbers (print x) fingerprint) (some x) r

-- the segment had for a fingerprint: the zero segment, else the lowest sent earlier in the call, else the lowest record's
unfoldable pub had : Print → Measures → Storage → List (List ℕ) → List ℕ → Option (List ℕ)
had print m storage earlier fingerprint = first_with print fingerprint (zero_segment m ∷ (earlier ++ contents m storage))

-- ---- the first message: 10, 3, 4

pub record OfferAnswer : Type 0 where
  pub refusal : ℕ
  pub marks : List ℕ

-- at least one mark and no more than the longest image has segments, and as many whole fingerprints
unfoldable pub offer_fits : Shape → List ℕ → List ℕ → Bool
offer_fits s fingerprints marks =
    all_of
    (ltb 0 (length marks)
    ∷ leb (length marks) (parts_for s.measures.segment_blocks s.capacities.blocks)
    ∷ eqb (length fingerprints) (20 * length marks)
    ∷ [])

unfoldable pub offer : Print → Shape → State → ℕ → List ℕ → List ℕ → Outcome (List ℕ)
offer print s st t fingerprints marks =
    cond (leb s.capacities.tills t) (refused 3)
    (cond (not (offer_fits s fingerprints marks)) (refused 4)
    (done (map (λ f. cond (is_some (had print s.measures st.storage [] f)) 1 0) (chunks 20 fingerprints))))

unfoldable pub offer_answer : List ℕ → Outcome (List ℕ) → OfferAnswer
offer_answer marks (refused n) = record { refusal = n; marks = marks }
offer_answer marks (done ms) = record { refusal = 0; marks = ms }

unfoldable pub offer_in : Print → Option Store → ℕ → List ℕ → List ℕ → OfferAnswer
offer_in print none t fingerprints marks = record { refusal = 10; marks = marks }
offer_in print (some store) t fingerprints marks = offer_answer marks (offer print store.shape store.state t fingerprints marks)

-- ---- the second message: 10, 3, 4, 11, 12, then 19 and 20 at the first segment that has either, then 14 and 16 as in a backup

-- the segments so far put together, and those of them that were sent
pub record Gathered : Type 0 where
  pub image : List ℕ
  pub sent : List (List ℕ)

-- the image goes on with a segment of which it has `left` bytes: all others are zero
unfoldable pub go_on : ℕ → List ℕ → List (List ℕ) → Gathered → Outcome Gathered
go_on left seg sent g = cond (all_zero (drop left seg)) (done (record { image = g.image ++ seg; sent = sent })) (refused 19)

unfoldable pub take_sent : Print → ℕ → List ℕ → List ℕ → Outcome Gathered → Outcome Gathered
take_sent print left fingerprint seg (refused n) = refused n
take_sent print left fingerprint seg (done g) =
    let r = go_on left seg (g.sent ++ (seg ∷ [])) g in cond (same_numbers (print seg) fingerprint) r (refused 19)

unfoldable pub go_on_with : ℕ → Option (List ℕ) → Gathered → Outcome Gathered
go_on_with left none g = refused 20
go_on_with left (some seg) g = go_on left seg g.sent g

unfoldable pub take_had : Print → Measures → Storage → ℕ → List ℕ → Outcome Gathered → Outcome Gathered
take_had print m storage left fingerprint (refused n) = refused n
take_had print m storage left fingerprint (done g) = go_on_with left (had print m storage g.sent fingerprint) g

-- segment by segment, with `left` bytes of the image left: by the mark it is the next of those sent, or had
unfoldable pub gather : Print → Measures → Storage → ℕ → Outcome Gathered → List ℕ → List ℕ → List ℕ → Outcome Gathered
gather print m storage left g [] fingerprints segments = g
gather print m storage left g (zero ∷ marks) fingerprints segments =
    gather print m storage (left - segment_bytes m) (take_had print m storage left (take 20 fingerprints) g) marks (drop 20 fingerprints) segments
gather print m storage left g (suc i ∷ marks) fingerprints segments =
    gather print m storage (left - segment_bytes m) (take_sent print left (take 20 fingerprints) (take (segment_bytes m) segments) g) marks
    (drop 20 fingerprints) (drop (segment_bytes m) segments)

unfoldable pub cut_to : ℕ → Outcome Gathered → Outcome (List ℕ)
cut_to bytes (refused n) = refused n
cut_to bytes (done g) = done (take bytes g.image)

-- the image put together, or 19 or 20
unfoldable pub assembled : Print → Measures → Storage → ℕ → List ℕ → List ℕ → List ℕ → Outcome (List ℕ)
assembled print m storage bytes fingerprints marks segments =
    cut_to bytes (gather print m storage bytes (done (record { image = []; sent = [] })) marks fingerprints segments)

-- a length as an image has, a mark of 0 or 1 and a whole fingerprint for each segment, and the segments marked with 1
unfoldable pub sent_fits : Shape → ℕ → List ℕ → List ℕ → List ℕ → Bool
sent_fits s bytes fingerprints marks segments =
    all_of
    (not (eqb bytes 0 || ltb (s.measures.block_bytes * s.capacities.blocks) bytes)
    ∷ eqb (length marks) (parts_for (segment_bytes s.measures) bytes)
    ∷ every (λ i. leb i 1) marks
    ∷ eqb (length fingerprints) (20 * length marks)
    ∷ eqb (length segments) (total (λ i. i) marks * segment_bytes s.measures)
    ∷ [])

-- the image that is to be backed up, or a refusal
unfoldable pub made : Print → Shape → State → ℕ → ℕ → List ℕ → List ℕ → List ℕ → Outcome (List ℕ)
made print s st t bytes fingerprints marks segments =
    cond (leb s.capacities.tills t) (refused 3)
    (cond (not (sent_fits s bytes fingerprints marks segments)) (refused 4)
    (cond (leb s.capacities.versions (length (till_of st t).versions)) (refused 11)
    (cond (eqb (till_of st t).last 65535) (refused 12)
    (assembled print s.measures st.storage bytes fingerprints marks segments))))

unfoldable pub backup_on : Shape → State → ℕ → Outcome (List ℕ) → Outcome After
backup_on s st t (refused n) = refused n
backup_on s st t (done image) = backup with_blanks s st t none image

unfoldable pub backup_sent : Print → Shape → State → ℕ → ℕ → List ℕ → List ℕ → List ℕ → Outcome After
backup_sent print s st t bytes fingerprints marks segments = backup_on s st t (made print s st t bytes fingerprints marks segments)

unfoldable pub backup_sent_in : Print → Option Store → List ℕ → List ℕ → ℕ → ℕ → List ℕ → List ℕ → List ℕ → BackupAnswer
backup_sent_in print none pool table t bytes fingerprints marks segments = record { refusal = 10; version = 0; pool = pool; table = table }
backup_sent_in print (some store) pool table t bytes fingerprints marks segments =
    backup_answer pool table store.shape (backup_sent print store.shape store.state t bytes fingerprints marks segments)

unfoldable pub backup_sent_by : Print → List ℕ → List ℕ → ℕ → ℕ → List ℕ → List ℕ → List ℕ → BackupAnswer
backup_sent_by print pool table t bytes fingerprints marks segments =
    backup_sent_in print (store_of pool table) pool table t bytes fingerprints marks segments

-- ---- both with SHA-1, fixed here and nowhere else

unfoldable pub offer_of : List ℕ → List ℕ → ℕ → List ℕ → List ℕ → OfferAnswer
offer_of pool table t fingerprints marks = offer_in sha1 (store_of pool table) t fingerprints marks

unfoldable pub backup_sent_of : List ℕ → List ℕ → ℕ → ℕ → List ℕ → List ℕ → List ℕ → BackupAnswer
backup_sent_of pool table t bytes fingerprints marks segments = backup_sent_by sha1 pool table t bytes fingerprints marks segments

-- the public calls, with their users: 22 and 23 after 3, in both messages

unfoldable pub offer_as : List ℕ → List ℕ → ℕ → ℕ → List ℕ → List ℕ → OfferAnswer
offer_as pool table user t fingerprints marks =
    unless (refusal_for (store_of pool table) user t to_back_up) (λ n. record { refusal = n; marks = marks }) (offer_of pool table t fingerprints marks)

unfoldable pub backup_sent_as : List ℕ → List ℕ → ℕ → ℕ → ℕ → List ℕ → List ℕ → List ℕ → BackupAnswer
backup_sent_as pool table user t bytes fingerprints marks segments =
    unless (refusal_for (store_of pool table) user t to_back_up) (backup_refusal pool table) (backup_sent_of pool table t bytes fingerprints marks segments)
