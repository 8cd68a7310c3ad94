-- The trial's counters after each kind of count. A sum of 64 bits wraps; a place past the end is not there, and nothing is counted.
use Rattle.std.specs.Prelude.{ℕ, ◌+◌, ◌%◌, ◌^◌, Bool, cond, List, ◌==◌, nat_lt, slice_index, slice_set}

unfoldable pub added : List ℕ → ℕ → ℕ → List ℕ
added counts at n = slice_set counts at ((slice_index counts at + n) % 2 ^ 64)

unfoldable pub added_if : Bool → List ℕ → ℕ → List ℕ
added_if ok counts at = cond ok (added counts at 1) counts

unfoldable pub raised : List ℕ → ℕ → ℕ → List ℕ
raised counts at n = cond (nat_lt (slice_index counts at) n) (slice_set counts at n) counts

-- one more at 52, the wrong answers, or at 53, the altered buffers
unfoldable pub expected : List ℕ → Bool → List ℕ
expected counts ok = cond ok counts (added counts 52 1)

unfoldable pub unaltered : List ℕ → Bool → List ℕ
unaltered counts ok = cond ok counts (added counts 53 1)

-- one more call, at 47; one more of its kind, if it is accepted; one more with its number, if that is below 40; and a wrong answer, unless the number is the expected one
unfoldable pub answered_with : List ℕ → ℕ → ℕ → ℕ → List ℕ
answered_with counts kind refusal wanted =
    expected (added_if (nat_lt refusal 40) (added_if (refusal == 0) (added counts 47 1) kind) refusal) (refusal == wanted)
