-- The calls with their arguments, the two buffers, and what a call answers. Users.antt has the calls with their users, and lists of them.
use Rattle.std.specs.Prelude.{ℕ, ◌≡◌, List}
use Rattle.std.proofs.Math.Option.{Option}
use Rattle.model.specs.Measures.{Shape}
use Rattle.model.specs.Image.{Era}
use Rattle.model.specs.State.{Rights}
use Rattle.model.specs.Calls.{layout_of, RestoreAnswer, ListingAnswer, VersionOnAnswer, TallyAnswer}
use Rattle.stream.specs.Stream.{StreamAnswer}
use Rattle.sent.specs.Sent.{OfferAnswer}
use Rattle.bill.specs.Bill.{BillAnswer}
use Rattle.closing.specs.Closing.{AllAnswer}

-- A call with its arguments, any of them; a backup was made before blank blocks were known, or with them, and brings a day (§13) or none. Table length
-- takes no buffer and is no call of the list.
pub data Call : Type 0 where
  call_layout : (capacities : Shape) → Call
  call_backup : (era : Era) (till : ℕ) (brought : Option ℕ) (image : List ℕ) → Call
  call_restore : (till version : ℕ) (output : List ℕ) → Call
  call_retire : (till version : ℕ) → Call
  call_listing : (till : ℕ) → Call
  call_version_on : (till day : ℕ) → Call
  call_tally : Call
  call_bill : (price : ℕ) → Call
  call_write_stream : (till version : ℕ) (output : List ℕ) → Call
  call_offer : (till : ℕ) (fingerprints marks : List ℕ) → Call
  call_backup_sent : (till bytes : ℕ) (fingerprints marks segments : List ℕ) → Call
  call_backup_all : (tills lengths images : List ℕ) → Call
  call_set_rights : (subject till : ℕ) (rights : Rights) → Call

-- the till that a call names, 0 for one that names none; the closing of §7 is on many, by the backups that it comes to
unfoldable pub till_named : Call → ℕ
till_named (call_layout c) = 0
till_named (call_backup era t d image) = t
till_named (call_restore t v output) = t
till_named (call_retire t v) = t
till_named (call_listing t) = t
till_named (call_version_on t day) = t
till_named call_tally = 0
till_named (call_bill price) = 0
till_named (call_write_stream t v output) = t
till_named (call_offer t fs ms) = t
till_named (call_backup_sent t n fs ms ss) = t
till_named (call_backup_all ts ns is) = 0
till_named (call_set_rights subject t r) = t

-- the two buffers
pub record Buffers : Type 0 where
  pub pool : List ℕ
  pub table : List ℕ

-- what a call answers; a restore's has the output too, and so has a stream's; an offer's has the marks
pub data Answer : Type 0 where
  laid_out : (refusal : ℕ) → Answer
  backed_up : (refusal version : ℕ) → Answer
  restored : (answer : RestoreAnswer) → Answer
  retired : (refusal length : ℕ) → Answer
  listed : (answer : ListingAnswer) → Answer
  found_on : (answer : VersionOnAnswer) → Answer
  tallied : (answer : TallyAnswer) → Answer
  billed : (answer : BillAnswer) → Answer
  streamed : (answer : StreamAnswer) → Answer
  offered : (answer : OfferAnswer) → Answer
  backed_up_all : (answer : AllAnswer) → Answer
  rights_set : (refusal : ℕ) → Answer

-- the number of the refusal that an answer carries, or 0
unfoldable pub refusal_in : Answer → ℕ
refusal_in (laid_out n) = n
refusal_in (backed_up n v) = n
refusal_in (restored a) = a.refusal
refusal_in (retired n l) = n
refusal_in (listed a) = a.refusal
refusal_in (found_on a) = a.refusal
refusal_in (tallied a) = a.refusal
refusal_in (billed a) = a.refusal
refusal_in (streamed a) = a.refusal
refusal_in (offered a) = a.refusal
refusal_in (backed_up_all a) = a.refusal
refusal_in (rights_set n) = n

-- a lay out is refused when it is made
abbrev pub refused_layout : Buffers → Call → Type 0
refused_layout b (call_layout c) = ¬ ((layout_of c b.pool b.table).refusal ≡ 0)
refused_layout b (call_backup era t d image) = Unit {0}
refused_layout b (call_restore t v output) = Unit {0}
refused_layout b (call_retire t v) = Unit {0}
refused_layout b (call_listing t) = Unit {0}
refused_layout b (call_version_on t day) = Unit {0}
refused_layout b call_tally = Unit {0}
refused_layout b (call_bill price) = Unit {0}
refused_layout b (call_write_stream t v output) = Unit {0}
refused_layout b (call_offer t fs ms) = Unit {0}
refused_layout b (call_backup_sent t n fs ms ss) = Unit {0}
refused_layout b (call_backup_all ts ns is) = Unit {0}
refused_layout b (call_set_rights subject t r) = Unit {0}
