-- The page's number of each reason, and the number that a call answers.
use Rattle.std.specs.Prelude.{ℕ, Result, Ok, Err}
use Rattle.refusals.specs.declared.Refusal.{Refusal}
use Rattle.refusals.specs.declared.Refusal.TheVariants.{Capacity, Lengths, NoSuchTill, ImageLength, ShortOutput, Unsound, TillFull, NumbersSpent, NoRecord, NoRun, NeverGiven, NoLongerHeld, OtherSegment, NoSegment, OverLimit, UnknownUser, NoRight, StreamSize, StreamLength, StreamBits, NoTurn, EarlierDay, NoneSoEarly, HighPrice}

abbrev pub number_of : Refusal → ℕ
number_of Capacity = 1
number_of Lengths = 2
number_of NoSuchTill = 3
number_of ImageLength = 4
number_of ShortOutput = 5
number_of Unsound = 10
number_of TillFull = 11
number_of NumbersSpent = 12
number_of NoRecord = 14
number_of NoRun = 16
number_of NeverGiven = 17
number_of NoLongerHeld = 18
number_of OtherSegment = 19
number_of NoSegment = 20
number_of OverLimit = 21
number_of UnknownUser = 22
number_of NoRight = 23
number_of StreamSize = 24
number_of StreamLength = 25
number_of StreamBits = 26
number_of NoTurn = 27
number_of EarlierDay = 28
number_of NoneSoEarly = 29
number_of HighPrice = 30

-- 0 where the call is accepted
abbrev pub refusal_of : {A : Type 0} → Result A Refusal → ℕ
refusal_of (Ok _) = 0
refusal_of (Err r) = number_of r
