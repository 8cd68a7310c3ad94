-- What the answers say: what the second walk wrote, and the call's answer with the output after it.
use Rattle.std.specs.Prelude.{ℕ, ◌-◌, ◌≤◌, ◌≡◌, List, length, take, drop, Result, Ok, Err}
use Rattle.refusals.specs.declared.Refusal.{Refusal}
use Rattle.refusals.specs.Refusals.{number_of}
use Rattle.stream.specs.Stream.{Read, StreamAnswer}
use Rattle.lists.specs.Written.{written}

-- the bytes of an accepted part, from a place of the image on, as far as the image goes; and where what is left of the stream begins
pub record Fills (x : Read) (s : List ℕ) (at : ℕ) (image₀ : List ℕ) (to : ℕ) (image : List ℕ) : Type 0 where
  pub within : at ≤ length s
  pub rest : drop at s ≡ x.rest
  pub bytes : image ≡ written image₀ to (take (length image₀ - to) x.bytes)

abbrev pub read_result : Result ℕ Refusal → List ℕ → StreamAnswer
read_result (Ok n) output = record { refusal = 0; length = n; output = output }
read_result (Err r) output = record { refusal = number_of r; length = 0; output = output }
