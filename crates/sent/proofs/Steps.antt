-- Lists of calls on a state, with what they answer, and fingerprints that many segments share.
use Prim.Native.Nat.{ℕ}
use mathlib.Core.Bool.{Bool, true, ◌&&◌}
use mathlib.Core.List.{List, [], ◌∷◌}
use mathlib.Core.Option.{none}
use lib.ListN.{get_or, replicate}
use lib.Dec.{eqb}
use Rattle.lists.specs.Lists.{same_numbers}
use Rattle.lists.specs.Rows.{rows}
use Rattle.model.specs.Measures.{Capacities, Shape, base_measures}
use Rattle.model.specs.State.{State, Outcome, refused, done}
use Rattle.model.specs.Image.{Era}
use Rattle.model.specs.Calls.{After, RestoreAnswer, backup, restore}
use Rattle.sent.specs.Sent.{OfferAnswer, offer_answer, offer, backup_sent}

pub data Step : Type 0 where
  -- an accepted backup of a full image
  backed : (era : Era) (till : ℕ) (image : List ℕ) (version : ℕ) → Step
  -- the two messages, with the fingerprints of `first_byte`
  offering : (till : ℕ) (fingerprints marks : List ℕ) (refusal : ℕ) (after : List ℕ) → Step
  sending : (till bytes : ℕ) (fingerprints marks segments : List ℕ) (refusal version : ℕ) → Step
  -- a restore of a version gives that image
  shows : (till version : ℕ) (image : List ℕ) → Step

-- a fingerprint that many segments share: the first byte, twenty times; and those of some first bytes
unfoldable pub first_byte : List ℕ → List ℕ
first_byte seg = replicate 20 (get_or seg 0 0)

unfoldable pub prints : List ℕ → List ℕ
prints bytes = rows (replicate 20) bytes

unfoldable pub answers : Outcome After → ℕ → ℕ → Bool
answers (refused n) refusal version = eqb n refusal && eqb 0 version
answers (done a) refusal version = eqb 0 refusal && eqb a.answer version

unfoldable pub after : State → Outcome After → State
after st (refused n) = st
after st (done a) = a.state

unfoldable pub holds_from : Shape → List Step → State → Bool
holds_from s [] st = true
holds_from s (backed era t image v ∷ steps) st =
    let o : Outcome After = backup era s st t none image in
    answers o 0 v && holds_from s steps (after st o)
holds_from s (offering t fs ms n ms' ∷ steps) st =
    let a : OfferAnswer = offer_answer ms (offer first_byte s st t fs ms) in
    eqb a.refusal n && same_numbers a.marks ms' && holds_from s steps st
holds_from s (sending t bytes fs ms segs n v ∷ steps) st =
    let o : Outcome After = backup_sent first_byte s st t bytes fs ms segs in
    answers o n v && holds_from s steps (after st o)
holds_from s (shows t v image ∷ steps) st =
    let a : RestoreAnswer = restore s st t v image in
    eqb a.refusal 0 && same_numbers a.output image && holds_from s steps st

-- the steps from a state
pub record Row : Type 0 where
  pub shape : Shape
  pub start : State
  pub steps : List Step

unfoldable pub holds : Row → Bool
unfolding holds_from
holds row = holds_from row.shape row.steps row.start

unfoldable pub at_base : Capacities → Shape
at_base c = record { measures = base_measures; capacities = c }

-- 1 till, 4 versions, 16 blocks per image
unfoldable pub box : ℕ → ℕ → Shape
box records cells = at_base (record { tills = 1; versions = 4; blocks = 16; records = records; cells = cells })
