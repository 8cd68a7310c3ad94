-- §11 of the requests, "Moving a version to another box": an image's stream, and what a reader answers to a stream. 64-byte blocks in groups of eight,
-- whatever a store's measures are. Each call answers a refusal's number, 0 for an accepted call, and a length, 0 in a refusal; and says what the output
-- is afterwards.
use Rattle.std.specs.Prelude.{ℕ, zero, suc, ◌+◌, ◌-◌, ◌*◌, ◌/◌, ◌%◌, ◌^◌, min, Bool, cond, List, [], ◌∷◌, ◌++◌, length, get_or, take, drop, eqb, ltb, leb}
use Rattle.model.specs.Sound.{is_filled}
use Rattle.lists.specs.Lists.{all_zero, all_of, keep}
use Rattle.lists.specs.Rows.{joined, rows}
use Rattle.lists.specs.Masks.{mask_of}
use Rattle.model.specs.Measures.{is_within, parts_for}
use Rattle.model.specs.State.{Block}
use Rattle.model.specs.Image.{zero_block, image_segments}

pub record StreamAnswer : Type 0 where
  pub refusal : ℕ
  pub length : ℕ
  pub output : List ℕ

unfoldable pub stream_refusal : ℕ → List ℕ → StreamAnswer
stream_refusal k output = record { refusal = k; length = 0; output = output }

-- an image has 1 to 65,536 bytes
unfoldable pub has_stream : ℕ → Bool
has_stream n = is_within 1 65536 n

-- ---- an image's stream

-- a number in four bytes, lowest first
unfoldable pub four_bytes : ℕ → List ℕ
four_bytes n = n % 256 ∷ n / 256 % 256 ∷ n / 65536 % 256 ∷ n / 16777216 % 256 ∷ []

-- Eight blocks: a bit map byte, bit 0 (the lowest) for the first block, and only the blocks whose bit stands: null blocks have
-- none. The missing blocks of the last group have no bit either: a segment is filled up with null blocks.
unfoldable pub group_bytes : List Block → List ℕ
group_bytes bs = mask_of is_filled bs ∷ joined (keep is_filled bs)

-- the length, then the groups
unfoldable pub stream_of : List ℕ → List ℕ
stream_of image = four_bytes (length image) ++ rows group_bytes (image_segments 64 8 image)

-- An image's stream goes to the front of the output: 5 for an output shorter than the stream. Answers the stream's length.
unfoldable pub write_stream : List ℕ → List ℕ → StreamAnswer
write_stream image output =
    let s = stream_of image in
    cond (leb (length s) (length output)) (record { refusal = 0; length = length s; output = s ++ drop (length s) output }) (stream_refusal 5 output)

-- ---- reading a stream

-- What reading a part of a stream gives: a refusal's number, 0 for none; the bytes of the blocks read; and what is left of the stream.
pub record Read : Type 0 where
  pub refusal : ℕ
  pub bytes : List ℕ
  pub rest : List ℕ

unfoldable pub passed : List ℕ → List ℕ → Read
passed bytes rest = record { refusal = 0; bytes = bytes; rest = rest }

unfoldable pub stopped : ℕ → Read
stopped k = record { refusal = k; bytes = []; rest = [] }

-- two parts one after the other; the first refusal stands
unfoldable pub and_then : Read → Read → Read
and_then a b = cond (eqb a.refusal 0) (record { refusal = b.refusal; bytes = a.bytes ++ b.bytes; rest = b.rest }) (stopped a.refusal)

-- whether a block may have a bit, where `left` bytes of the image are left at its start: it is not null, and zero after the length
unfoldable pub may_stand : ℕ → Block → Bool
may_stand left b = all_of (is_filled b ∷ all_zero (drop left b) ∷ [])

-- A block, by its bit: null without one; with one the next 64 bytes of the stream, 24 for a block cut short, 26 for one that may not stand.
unfoldable pub read_block : ℕ → ℕ → List ℕ → Read
read_block zero left s = passed (zero_block 64) s
read_block (suc bit) left s =
    cond (ltb (length s) 64) (stopped 24) (cond (may_stand left (take 64 s)) (passed (take 64 s) (drop 64 s)) (stopped 26))

-- `n` blocks, by the bits of a map
unfoldable pub read_blocks : ℕ → ℕ → ℕ → List ℕ → Read
read_blocks zero bits left s = passed [] s
read_blocks (suc n) bits left s =
    let a = read_block (bits % 2) left s in
    and_then a (read_blocks n (bits / 2) (left - 64) a.rest)

-- A group: 24 for no bit map byte, 26 for a bit on a missing block, which stands in that byte; then the blocks.
unfoldable pub read_group : ℕ → List ℕ → Read
read_group left [] = stopped 24
read_group left (bits ∷ s) = cond (ltb bits (2 ^ min 8 (parts_for 64 left))) (read_blocks 8 bits left s) (stopped 26)

unfoldable pub read_groups : ℕ → ℕ → List ℕ → Read
read_groups zero left s = passed [] s
read_groups (suc n) left s =
    let a = read_group left s in
    and_then a (read_groups n (left - 512) a.rest)

-- the end of the stream: 24 for an excess
unfoldable pub read_end : List ℕ → Read
read_end s = cond (eqb (length s) 0) (passed [] []) (stopped 24)

-- all after the length of an image of `n` bytes
unfoldable pub read_body : ℕ → List ℕ → Read
read_body n s =
    let a = read_groups (parts_for 512 n) n s in
    and_then a (read_end a.rest)

-- the number in the first four bytes, lowest first
unfoldable pub length_in : List ℕ → ℕ
length_in s = get_or s 0 0 + get_or s 1 0 * 256 + get_or s 2 0 * 65536 + get_or s 3 0 * 16777216

-- the image's first `n` bytes to the front of the output, unless refused
unfoldable pub delivered : ℕ → Read → List ℕ → StreamAnswer
delivered n a output =
    cond (eqb a.refusal 0) (record { refusal = 0; length = n; output = take n a.bytes ++ drop n output }) (stream_refusal a.refusal output)

-- Reading: 24 for no length, 25 for a length that no image has, 5 for an output shorter than the image; then what the body gives. Answers the image's
-- length.
unfoldable pub read_stream : List ℕ → List ℕ → StreamAnswer
read_stream s output =
    let n = length_in s in
    cond (ltb (length s) 4) (stream_refusal 24 output)
    (cond (has_stream n)
    (cond (leb n (length output)) (delivered n (read_body n (drop 4 s)) output) (stream_refusal 5 output))
    (stream_refusal 25 output))
