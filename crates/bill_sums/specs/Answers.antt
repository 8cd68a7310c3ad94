-- What the bill's answer says.
use Rattle.std.specs.Prelude.{ℕ, List, replicate, Result, Ok, Err}
use Rattle.bill.specs.Bill.{BillAnswer}
use Rattle.refusals.specs.declared.Refusal.{Refusal}
use Rattle.refusals.specs.Refusals.{number_of}

-- by till, or why there is no bill
abbrev pub bill_result : Result (List ℕ) Refusal → BillAnswer
bill_result (Ok sums) = record { refusal = 0; sums = sums }
bill_result (Err e) = record { refusal = number_of e; sums = replicate 16 0 }
