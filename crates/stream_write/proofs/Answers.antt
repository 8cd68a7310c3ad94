-- What the call answers, case by case.
use mathlib.Core.Path.{◌≡◌, ap, ◌∙◌}
use mathlib.Core.List.{List}
use Prim.Native.Nat.{ℕ, ◌+◌, ◌≤◌, ◌<◌}
use native.Mathlib.Nat.{zero-add}
use native.Mathlib.Omega.{arith}
use lib.ListN.{length, length-append}
use borrow.Author.Tests.{le-leb, lt-leb}
use Rattle.lists.specs.Rows.{rows}
use Rattle.lists.proofs.Written.{written_written}
use Rattle.model.specs.Image.{image_segments}
use Rattle.stream.specs.Stream.{stream_refusal, four_bytes, group_bytes, stream_of, write_stream}
use Rattle.stream_laws.proofs.Forward.{four_long}
use Rattle.lists.specs.Written.{written}

module _ (image output : List ℕ) where
  pub refused_short : length output < length (stream_of image) → record { refusal = 5; length = 0; output = output } ≡ write_stream image output
  unfolding write_stream stream_refusal
  refused_short h = rw (lt-leb (length (stream_of image)) (length output) h)

  pub accepted : (n : ℕ) (out : List ℕ) → length (stream_of image) ≤ length output → n ≡ length (stream_of image) → out ≡ written output 0 (stream_of image)
      → record { refusal = 0; length = n; output = out } ≡ write_stream image output
  unfolding write_stream written
  accepted n out h e f = rw (le-leb (length (stream_of image)) (length output) h, f, e, zero-add (length (stream_of image)))

  -- the length and the groups, one after the other
  pub stream_long : length (stream_of image) ≡ 4 + length (rows group_bytes (image_segments 64 8 image))
  unfolding stream_of
  stream_long = length-append (four_bytes (length image)) (rows group_bytes (image_segments 64 8 image)) ∙ omega (arith, four_long (length image))

  pub stream_put : (out out' : List ℕ) → length (stream_of image) ≤ length output → out ≡ written output 0 (four_bytes (length image))
      → out' ≡ written out 4 (rows group_bytes (image_segments 64 8 image)) → out' ≡ written output 0 (stream_of image)
  unfolding stream_of four_bytes
  stream_put out out' h e f =
      let gs : List ℕ = rows group_bytes (image_segments 64 8 image) in
      f ∙ ap (λ (l : List ℕ). written l 4 gs) e ∙ written_written output 0 (four_bytes (length image)) gs (omega (arith, h, stream_long, four_long (length image)))
