-- What the answers say, as C has them, with the buffers after the call.
use Rattle.std.specs.Prelude.{ℕ, List}
use Rattle.model.specs.Calls as calls
use Rattle.stream.specs.Stream.{StreamAnswer}
use Rattle.closing.specs.Closing.{BackupAllAnswer}
use Rattle.bill.specs.Bill.{BillAnswer}
use Rattle.answers.specs.declared.TableLength.{TableLength}
use Rattle.answers.specs.declared.BackedUp.{BackedUp}
use Rattle.answers.specs.declared.Restored.{Restored}
use Rattle.answers.specs.declared.Retired.{Retired}
use Rattle.answers.specs.declared.Listing.{Listing}
use Rattle.answers.specs.declared.VersionFound.{VersionFound}
use Rattle.answers.specs.declared.Tally.{Tally}
use Rattle.answers.specs.declared.Bill.{Bill}
use Rattle.answers.specs.declared.StreamWritten.{StreamWritten}
use Rattle.answers.specs.declared.StreamRead.{StreamRead}
use Rattle.answers.specs.declared.AllBackedUp.{AllBackedUp}

-- the answer of table length
abbrev pub length_answer : TableLength → calls.LengthAnswer
length_answer r = record { refusal = r.refusal; words = r.words }

abbrev pub backed_up_answer : BackedUp → List ℕ → List ℕ → calls.BackupAnswer
backed_up_answer r pool table = record { refusal = r.refusal; version = r.version; pool = pool; table = table }

abbrev pub restore_answer : Restored → List ℕ → calls.RestoreAnswer
restore_answer r output = record { refusal = r.refusal; length = r.length; hops = r.hops; output = output }

abbrev pub retired_answer : Retired → List ℕ → List ℕ → calls.RetireAnswer
retired_answer r pool table = record { refusal = r.refusal; length = r.length; pool = pool; table = table }

abbrev pub listing_answer : Listing → calls.ListingAnswer
listing_answer r = record { refusal = r.refusal; oldest = r.oldest; newest = r.newest; last = r.last }

abbrev pub version_found : VersionFound → calls.VersionOnAnswer
version_found r = record { refusal = r.refusal; version = r.version }

abbrev pub tally_answer : Tally → calls.TallyAnswer
tally_answer r = record { refusal = r.refusal; cells = r.cells; records = r.records; counts = r.counts }

abbrev pub billed : Bill → BillAnswer
billed r = record { refusal = r.refusal; sums = r.sums }

abbrev pub stream_written : StreamWritten → List ℕ → StreamAnswer
stream_written r output = record { refusal = r.refusal; length = r.length; output = output }

abbrev pub stream_read : StreamRead → List ℕ → StreamAnswer
stream_read r output = record { refusal = r.refusal; length = r.length; output = output }

abbrev pub all_backed_up : AllBackedUp → List ℕ → List ℕ → BackupAllAnswer
all_backed_up r pool table = record { answer = record { refusal = r.refusal; refusals = r.refusals; versions = r.versions }; pool = pool; table = table }
