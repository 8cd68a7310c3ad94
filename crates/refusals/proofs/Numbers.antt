-- No reason of a refusal has the number of an accepted call.
use Rattle.std.proofs.Common.{◌≡◌}
use Prim.Native.Nat.{◌<◌}
use native.Mathlib.Omega.{arith}
use lib.Dec.{lit<}
use Rattle.refusals.specs.declared.Refusal.{Refusal}
use Rattle.refusals.specs.declared.Refusal.TheVariants.{Capacity, Lengths, NoSuchTill, ImageLength, ShortOutput, Unsound, TillFull, NumbersSpent, NoRecord, NoRun, NeverGiven, NoLongerHeld, OtherSegment, NoSegment, OverLimit, UnknownUser, NoRight, StreamSize, StreamLength, StreamBits, NoTurn, EarlierDay, NoneSoEarly, HighPrice}
use Rattle.refusals.specs.Refusals.{number_of}

some_number : (r : Refusal) → 0 < number_of r
some_number Capacity = lit< tt
some_number Lengths = lit< tt
some_number NoSuchTill = lit< tt
some_number ImageLength = lit< tt
some_number ShortOutput = lit< tt
some_number Unsound = lit< tt
some_number TillFull = lit< tt
some_number NumbersSpent = lit< tt
some_number NoRecord = lit< tt
some_number NoRun = lit< tt
some_number NeverGiven = lit< tt
some_number NoLongerHeld = lit< tt
some_number OtherSegment = lit< tt
some_number NoSegment = lit< tt
some_number OverLimit = lit< tt
some_number UnknownUser = lit< tt
some_number NoRight = lit< tt
some_number StreamSize = lit< tt
some_number StreamLength = lit< tt
some_number StreamBits = lit< tt
some_number NoTurn = lit< tt
some_number EarlierDay = lit< tt
some_number NoneSoEarly = lit< tt
some_number HighPrice = lit< tt

pub not_accepted : (r : Refusal) → number_of r ≡ 0 → ⊥
not_accepted r e = omega (arith, some_number r, e)
