-- The sentences of §11 as one claim, `Claims`; crates/stream_laws has its proof.
use Rattle.std.specs.Prelude.{ℕ, ◌≤◌, ◌<◌, ◌≡◌, true, List, ◌++◌, length, take, drop}
use Rattle.lists.specs.Each.{Each}
use Rattle.stream.specs.Stream.{StreamAnswer, has_stream, stream_of, read_stream}
use Rattle.stream.specs.Version.{write_stream_of}

abbrev pub Bytes : List ℕ → Type 0
Bytes s = Each (λ (b : ℕ). b < 256) s

-- the image that an accepted reading gave
abbrev pub image_read : StreamAnswer → List ℕ
image_read a = take a.length a.output

-- what an accepted reading read: an image of the length answered, whose stream it was
pub record Accepted (s : List ℕ) (a : StreamAnswer) : Type 0 where
  pub within : has_stream a.length ≡ true
  pub size : length (image_read a) ≡ a.length
  pub stream : s ≡ stream_of (image_read a)

-- "A refusal leaves the output untouched, and no call alters it past the length it answers."
pub record Careful (output : List ℕ) (a : StreamAnswer) : Type 0 where
  pub refused : ¬ (a.refusal ≡ 0) → (a.length ≡ 0) × (a.output ≡ output)
  pub past : drop a.length a.output ≡ drop a.length output

pub record Claims : Type 0 where
  -- reading an image's stream "gives the image", in any output that is long enough; later bytes of the output stay
  pub read_back : (image output : List ℕ) → has_stream (length image) ≡ true → length image ≤ length output
      → read_stream (stream_of image) output ≡ record { refusal = 0; length = length image; output = image ++ drop (length image) output }
  -- "An image has one stream": a stream of bytes that is accepted is the stream of the image that was read from it
  pub one_stream : (s output : List ℕ) → Bytes s → (read_stream s output).refusal ≡ 0 → Accepted s (read_stream s output)
  -- and two images have not the same stream
  pub one_image : (image image' : List ℕ) → has_stream (length image) ≡ true → has_stream (length image') ≡ true → stream_of image ≡ stream_of image' → image ≡ image'
  pub read_careful : (s output : List ℕ) → Careful output (read_stream s output)
  pub write_careful : (pool table : List ℕ) (t version : ℕ) (output : List ℕ) → Careful output (write_stream_of pool table t version output)
