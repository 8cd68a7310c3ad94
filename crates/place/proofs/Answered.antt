-- What a placing answers: a refusal's number is not 0, and the record's number.
use Rattle.std.proofs.Common.{◌≡◌, ◌<◌, Option, None, Some, Ok, arith}
use Rattle.std.specs.Option.{unwrap_or}
use Rattle.numbers.specs.declared.RecordNumber.{RecordNumber}
use Rattle.place_segment.specs.Results.{placed_number}
use Rattle.refusals.specs.Refusals.{number_of}
use Rattle.refusals.specs.declared.Refusal.{Refusal}

pub number_positive : (r : Refusal) → 0 < number_of r
number_positive r = grind arith

-- 4096 where none is needed
pub number_of_record : (o : Option RecordNumber) (k : RecordNumber) → k ≡ unwrap_or o (record { 0 = 4096 }) → k.0 ≡ placed_number (Ok o)
number_of_record None k e = rw e
number_of_record (Some x) k e = rw e
