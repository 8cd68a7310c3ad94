-- What code finds for a fingerprint: a record by its number, and a segment brought to its place.
use Rattle.std.specs.Prelude.{ℕ, zero, suc, ◌+◌, ◌*◌, ◌≤◌, ◌<◌, ◌≡◌, Bool, false, cond, List, length, get_or, take, drop}
use Rattle.std.proofs.Math.Option.{Option, none, some}
use Rattle.lists.specs.Each.{Each}
use Rattle.lists.specs.Lists.{first_from, total, all_zero, same_numbers}
use Rattle.lists.specs.Rows.{parts}
use Rattle.lists.specs.Search.{as_option}
use Rattle.sha1_definition.specs.Sha1.{sha1}
use Rattle.model.specs.Measures.{Measures, parts_for}
use Rattle.model.specs.State.{Segment, Storage, Outcome, refused, done}
use Rattle.sent.specs.Sent.{Print, segment_bytes, can_match, content_in, had}

-- fingerprint j
abbrev pub print_at : List ℕ → ℕ → List ℕ
print_at fingerprints j = take 20 (drop (j * 20) fingerprints)

-- the record can match and has the fingerprint
abbrev pub is_printed : Print → Measures → Storage → List ℕ → Segment → Bool
is_printed print m storage f seg = cond (can_match storage seg) (same_numbers (print (content_in m storage seg)) f) false

-- for each fingerprint the lowest record that can match and has it, or how many records there are
abbrev pub RecordsFor : Measures → Storage → List ℕ → List ℕ → Type 0
RecordsFor m storage fingerprints numbers =
    (j : ℕ) → j < length numbers
    → as_option (length storage.records) (get_or numbers j 0) ≡ first_from (is_printed sha1 m storage (print_at fingerprints j)) 0 storage.records

-- the fingerprint of each part of so many bytes that there is
abbrev pub PrintsOf : ℕ → List ℕ → List ℕ → Type 0
PrintsOf width segments prints =
    (i : ℕ) → i * width + width ≤ length segments → print_at prints i ≡ sha1 (take width (drop (i * width) segments))

-- a refusal, or 0 and the bytes
abbrev pub Brings : Outcome (List ℕ) → ℕ → List ℕ → Type 0
Brings (refused n) r bytes = r ≡ n
Brings (done seg) r bytes = (r ≡ 0) × (bytes ≡ seg)

-- 20 where there is none
abbrev pub or_twenty : Option (List ℕ) → Outcome (List ℕ)
or_twenty none = refused 20
or_twenty (some seg) = done seg

-- number s of the segments sent
abbrev pub sent_at : ℕ → ℕ → List ℕ → List ℕ
sent_at width s segments = take width (drop (s * width) segments)

-- a segment by its mark: the next of those sent, or one that is had, after s were sent
abbrev pub source : Measures → Storage → ℕ → ℕ → List ℕ → List ℕ → Outcome (List ℕ)
source m storage zero s segments f = or_twenty (had sha1 m storage (parts (segment_bytes m) s segments) f)
source m storage (suc i) s segments f =
    let seg = sent_at (segment_bytes m) s segments in cond (same_numbers (sha1 seg) f) (done seg) (refused 19)

-- 19 where a byte other than zero follows the image's last
abbrev pub ended : ℕ → Outcome (List ℕ) → Outcome (List ℕ)
ended left (refused n) = refused n
ended left (done seg) = cond (all_zero (drop left seg)) (done seg) (refused 19)

-- lists that fit a length of an image, as `sent_fits` tells
pub record Message (m : Measures) (bytes : ℕ) (fingerprints marks segments : List ℕ) : Type 0 where
  pub few : bytes ≤ 65536
  pub all : length marks ≡ parts_for (segment_bytes m) bytes
  pub marked : Each (λ (i : ℕ). i ≤ 1) marks
  pub whole : length fingerprints ≡ 20 * length marks
  pub sent : length segments ≡ total (λ i. i) marks * segment_bytes m
