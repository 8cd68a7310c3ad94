-- What the call answers, case by case.
use mathlib.Core.Path.{◌≡◌, ◌∙◌}
use mathlib.Core.List.{List, ◌++◌}
use Prim.Native.Nat.{ℕ, ◌≤◌, ◌<◌}
use lib.ListN.{length, take, drop}
use borrow.Author.Tests.{lt-ltb, le-ltb, le-leb, lt-leb, eq-eqb, ne_eqb}
use Rattle.stream.specs.Stream.{Read, stream_refusal, length_in, read_body, delivered, read_stream}
use Rattle.stream_laws.proofs.Ranges.{has_yes, has_none, has_more}

-- ---- the body

module _ (n : ℕ) (a : Read) (output : List ℕ) where
  pub body_refused : (k : ℕ) → k ≡ a.refusal → (k ≡ 0 → ⊥) → record { refusal = k; length = 0; output = output } ≡ delivered n a output
  unfolding delivered stream_refusal
  body_refused k e z = rw (e, ne_eqb a.refusal 0 (λ q. z (e ∙ q)))

  pub body_read : (front : List ℕ) → a.refusal ≡ 0 → front ≡ take n a.bytes → record { refusal = 0; length = n; output = front ++ drop n output } ≡ delivered n a output
  unfolding delivered
  body_read front e f = rw (eq-eqb a.refusal 0 e, f)

-- ---- the whole

module _ (s output : List ℕ) where
  pub read_none : length s < 4 → record { refusal = 24; length = 0; output = output } ≡ read_stream s output
  unfolding read_stream stream_refusal
  read_none h = rw (lt-ltb (length s) 4 h)

  module _ (four : 4 ≤ length s) (n : ℕ) (e : n ≡ length_in s) where
    pub read_empty : n ≡ 0 → record { refusal = 25; length = 0; output = output } ≡ read_stream s output
    unfolding read_stream stream_refusal
    read_empty z = rw (le-ltb (length s) 4 four, ← e, z, has_none)

    pub read_long : 65536 < n → record { refusal = 25; length = 0; output = output } ≡ read_stream s output
    unfolding read_stream stream_refusal
    read_long h = rw (le-ltb (length s) 4 four, ← e, has_more n h)

    module _ (some : n ≡ 0 → ⊥) (few : n ≤ 65536) where
      pub read_short : length output < n → record { refusal = 5; length = 0; output = output } ≡ read_stream s output
      unfolding read_stream stream_refusal
      read_short h = rw (le-ltb (length s) 4 four, ← e, has_yes n some few, lt-leb n (length output) h)

      pub read_on : n ≤ length output → delivered n (read_body n (drop 4 s)) output ≡ read_stream s output
      unfolding read_stream
      read_on h = rw (le-ltb (length s) 4 four, ← e, has_yes n some few, le-leb n (length output) h)
