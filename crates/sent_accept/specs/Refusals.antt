-- The refusals of both messages before a segment is looked at.
use Rattle.std.specs.Prelude.{cond, not, List, ℕ, leb}
use Rattle.model.specs.Measures.{Shape}
use Rattle.model.specs.State.{State}
use Rattle.backup_accept.specs.Accept.{till_refusal}
use Rattle.sent.specs.Sent.{offer_fits, sent_fits}

-- the first message's: 3, 4, or 0
abbrev pub offer_refusal : Shape → ℕ → List ℕ → List ℕ → ℕ
offer_refusal s t fingerprints marks = cond (leb s.capacities.tills t) 3 (cond (not (offer_fits s fingerprints marks)) 4 0)

-- the second's: 3, 4, 11, 12, or 0
abbrev pub sent_refusal : Shape → State → ℕ → ℕ → List ℕ → List ℕ → List ℕ → ℕ
sent_refusal s st t bytes fingerprints marks segments =
    cond (leb s.capacities.tills t) 3 (cond (not (sent_fits s bytes fingerprints marks segments)) 4 (till_refusal s st t))
