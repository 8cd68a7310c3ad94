-- What the user may do goes before what the call may. Assumes nothing.
use Rattle.std.proofs.Common.{◌≡◌, ℕ, false, eqb, Result, Ok, Err, refl, ap, ◌∙◌}
use Rattle.std.specs.Result.{result_and}
use Rattle.refusals.specs.declared.Refusal.{Refusal}
use Rattle.refusals.specs.declared.Refusal.TheVariants.{Capacity, Lengths, NoSuchTill, ImageLength, ShortOutput, Unsound, TillFull, NumbersSpent, NoRecord, NoRun, NeverGiven, NoLongerHeld, OtherSegment, NoSegment, OverLimit, UnknownUser, NoRight, StreamSize, StreamLength, StreamBits, NoTurn, EarlierDay, NoneSoEarly, HighPrice}
use Rattle.refusals.specs.Refusals.{number_of, refusal_of}
use Rattle.trial_judge.specs.Judge.{first_refusal}

-- no reason has the number of an accepted call
some : (r : Refusal) → eqb (number_of r) 0 ≡ false
some Capacity = refl
some Lengths = refl
some NoSuchTill = refl
some ImageLength = refl
some ShortOutput = refl
some Unsound = refl
some TillFull = refl
some NumbersSpent = refl
some NoRecord = refl
some NoRun = refl
some NeverGiven = refl
some NoLongerHeld = refl
some OtherSegment = refl
some NoSegment = refl
some OverLimit = refl
some UnknownUser = refl
some NoRight = refl
some StreamSize = refl
some StreamLength = refl
some StreamBits = refl
some NoTurn = refl
some EarlierDay = refl
some NoneSoEarly = refl
some HighPrice = refl

first : {A B : Type 0} (may : Result A Refusal) (own : Result B Refusal) → refusal_of (result_and may own) ≡ first_refusal (refusal_of may) (refusal_of own)
unfolding first_refusal
first (Ok _) own = refl
first (Err r) own = rw (some r) refl

pub wanted_told :
    {A B : Type 0} (may : Result A Refusal) (own wanted : Result B Refusal) (u r : ℕ) → refusal_of may ≡ u → refusal_of own ≡ r → wanted ≡ result_and may own
    → refusal_of wanted ≡ first_refusal u r
wanted_told may own wanted u r e f g =
    ap refusal_of g ∙ (first may own ∙ (ap (λ (k : ℕ). first_refusal k (refusal_of own)) e ∙ ap (first_refusal u) f))
