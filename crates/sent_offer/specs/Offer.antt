-- The first message's answer, with the marks after the call.
use Rattle.std.specs.Prelude.{List, ℕ}
use Rattle.sent.specs.Sent.{OfferAnswer}

abbrev pub offered : ℕ → List ℕ → OfferAnswer
offered r marks = record { refusal = r; marks = marks }
