-- What the answer says, with the buffers after the call.
use Rattle.std.specs.Prelude.{ℕ, List, replicate, Result, Ok, Err}
use Rattle.closing.specs.Closing.{BackupAllAnswer}
use Rattle.refusals.specs.declared.Refusal.{Refusal}
use Rattle.refusals.specs.Refusals.{number_of}
use Rattle.closing_backup.specs.declared.Each.{Each}

-- of a call that is not refused whole
abbrev pub all_answered : List ℕ → List ℕ → List ℕ → List ℕ → BackupAllAnswer
all_answered refusals versions pool table = record { answer = record { refusal = 0; refusals = refusals; versions = versions }; pool = pool; table = table }

-- of any call
abbrev pub closing_result : Result Each Refusal → List ℕ → List ℕ → BackupAllAnswer
closing_result (Ok each) pool table = all_answered each.refusals each.versions pool table
closing_result (Err r) pool table = record { answer = record { refusal = number_of r; refusals = replicate 16 0; versions = replicate 16 0 }; pool = pool; table = table }
