-- Lists of calls with what they answer and leave, and the stores and images of the cases.
use Prim.Native.Nat.{ℕ, ◌+◌, ◌*◌}
use mathlib.Core.Bool.{Bool, true, ◌&&◌}
use mathlib.Core.List.{List, [], ◌∷◌, ◌++◌}
use mathlib.Core.Option.{none, some}
use lib.ListN.{set, take, drop, replicate}
use lib.Dec.{eqb}
use Rattle.lists.specs.Lists.{counted, same_numbers}
use Rattle.lists.specs.Rows.{rows}
use Rattle.model.specs.Measures.{Capacities, Shape, base_measures, table_words, pool_bytes, header_words, slot_words, till_words, record_words, records_at}
use Rattle.model.specs.Image.{before_blanks, with_blanks}
use Rattle.model.specs.Table.{record_to_words, version_to_words}
use Rattle.model.specs.State.{Pointer, direct, held, Segment, Version, Rights}
use Rattle.model.specs.Calls.{table_length_of, layout_of, VersionOnAnswer, LengthAnswer, LayoutAnswer, BackupAnswer, RestoreAnswer, RetireAnswer, ListingAnswer, TallyAnswer}
use Rattle.model.specs.Rights.{backup_as, restore_as, retire_as, listing_as, version_on_as, tally_as, RightsAnswer, set_rights_of}

-- A call with what it answers, or a fact of the buffers as the calls before it left them. Slots and records are read as words.
pub data Step : Type 0 where
  table_length : (capacities : Shape) (refusal words : ℕ) → Step
  layout : (capacities : Shape) (refusal : ℕ) → Step
  backup : (till : ℕ) (image : List ℕ) (refusal version : ℕ) → Step
  -- a backup from before blank blocks were known
  earlier : (till : ℕ) (image : List ℕ) (refusal version : ℕ) → Step
  -- a backup with a day, and lookup by day
  dated : (till day : ℕ) (image : List ℕ) (refusal version : ℕ) → Step
  version_on : (till day refusal version : ℕ) → Step
  restore : (till version : ℕ) (output : List ℕ) (refusal length hops : ℕ) (after : List ℕ) → Step
  retire : (till version refusal length : ℕ) → Step
  listing : (till refusal oldest newest last : ℕ) → Step
  tally : (refusal cells records counts : ℕ) → Step
  -- the calls after it are this user's; those at first are the owner's
  user : (number : ℕ) → Step
  set_rights : (subject till : ℕ) (rights : Rights) (refusal : ℕ) → Step
  -- the word of a till's rights
  rights_are : (till word : ℕ) → Step
  -- slot `i` of till 0
  slot_is : (i : ℕ) (version : Version) → Step
  record_is : (k : ℕ) (positions : Segment) → Step
  pool_is : (pool : List ℕ) → Step
  -- the header's last three words
  settings_are : (words : List ℕ) → Step
  -- a word of the table is overwritten, for stores that no call leaves
  overwrite : (at word : ℕ) → Step

-- a store's capacities, and the steps from its laying out
pub record Row : Type 0 where
  pub capacities : Shape
  pub steps : List Step

unfoldable pub till_at : Shape → ℕ → ℕ
till_at s t = header_words + t * till_words s.capacities.versions s.capacities.blocks

unfoldable pub slot_at : Shape → ℕ → ℕ
slot_at s i = header_words + 4 + i * slot_words s.capacities.blocks

unfoldable pub record_at : Shape → ℕ → ℕ
record_at s k = records_at s.capacities + k * record_words s.measures.segment_blocks

-- `n` elements from place `at` are those of the list
unfoldable pub is_at : List ℕ → ℕ → ℕ → List ℕ → Bool
is_at xs at n ys = same_numbers (take n (drop at xs)) ys

unfoldable pub holds_from : Shape → ℕ → List Step → List ℕ → List ℕ → Bool
holds_from s u [] pool table = true
holds_from s u (table_length d n w ∷ steps) pool table =
    let a : LengthAnswer = table_length_of d in
    eqb a.refusal n && eqb a.words w && holds_from s u steps pool table
holds_from s u (layout d n ∷ steps) pool table =
    let a : LayoutAnswer = layout_of d pool table in
    eqb a.refusal n && holds_from s u steps a.pool a.table
holds_from s u (backup t image n v ∷ steps) pool table =
    let a : BackupAnswer = backup_as with_blanks pool table u t none image in
    eqb a.refusal n && eqb a.version v && holds_from s u steps a.pool a.table
holds_from s u (earlier t image n v ∷ steps) pool table =
    let a : BackupAnswer = backup_as before_blanks pool table u t none image in
    eqb a.refusal n && eqb a.version v && holds_from s u steps a.pool a.table
holds_from s u (dated t day image n v ∷ steps) pool table =
    let a : BackupAnswer = backup_as with_blanks pool table u t (some day) image in
    eqb a.refusal n && eqb a.version v && holds_from s u steps a.pool a.table
holds_from s u (version_on t day n v ∷ steps) pool table =
    let a : VersionOnAnswer = version_on_as pool table u t day in
    eqb a.refusal n && eqb a.version v && holds_from s u steps pool table
holds_from s u (restore t v output n l h after ∷ steps) pool table =
    let a : RestoreAnswer = restore_as pool table u t v output in
    eqb a.refusal n && eqb a.length l && eqb a.hops h && same_numbers a.output after && holds_from s u steps pool table
holds_from s u (retire t v n l ∷ steps) pool table =
    let a : RetireAnswer = retire_as pool table u t v in
    eqb a.refusal n && eqb a.length l && holds_from s u steps a.pool a.table
holds_from s u (listing t r o n l ∷ steps) pool table =
    let a : ListingAnswer = listing_as pool table u t in
    eqb a.refusal r && eqb a.oldest o && eqb a.newest n && eqb a.last l && holds_from s u steps pool table
holds_from s u (tally r k i n ∷ steps) pool table =
    let a : TallyAnswer = tally_as pool table u in
    eqb a.refusal r && eqb a.cells k && eqb a.records i && eqb a.counts n && holds_from s u steps pool table
holds_from s u (user v ∷ steps) pool table = holds_from s v steps pool table
holds_from s u (set_rights subject t r n ∷ steps) pool table =
    let a : RightsAnswer = set_rights_of pool table u subject t r in
    eqb a.refusal n && holds_from s u steps pool a.table
holds_from s u (rights_are t word ∷ steps) pool table = is_at table (till_at s t + 2) 1 (word ∷ []) && holds_from s u steps pool table
holds_from s u (slot_is i v ∷ steps) pool table =
    is_at table (slot_at s i) (slot_words s.capacities.blocks) (version_to_words s.capacities.blocks v) && holds_from s u steps pool table
holds_from s u (record_is k seg ∷ steps) pool table =
    is_at table (record_at s k) (record_words s.measures.segment_blocks) (record_to_words seg) && holds_from s u steps pool table
holds_from s u (pool_is bytes ∷ steps) pool table = same_numbers pool bytes && holds_from s u steps pool table
holds_from s u (settings_are words ∷ steps) pool table = is_at table 5 3 words && holds_from s u steps pool table
holds_from s u (overwrite at word ∷ steps) pool table = holds_from s u steps pool (set table at word)

-- from buffers of ones, which an accepted lay out clears
unfoldable pub holds : Row → Bool
unfolding holds_from
holds row =
    let s : Shape = row.capacities in
    let a : LayoutAnswer = layout_of s (replicate (pool_bytes s) 1) (replicate (table_words s) 1) in
    eqb a.refusal 0 && holds_from row.capacities 0 row.steps a.pool a.table

-- ---- the stores and images of the cases

-- at the measures of the page
unfoldable pub at_base : Capacities → Shape
at_base c = record { measures = base_measures; capacities = c }

-- 1 till, 4 versions, 16 blocks per image, 8 records
unfoldable pub box : ℕ → Shape
box cells = at_base (record { tills = 1; versions = 4; blocks = 16; records = 8; cells = cells })

-- a letter is a block filled with it; 0 is a block of zeros
unfoldable pub blocks : List ℕ → List ℕ
blocks ls = rows (replicate 64) ls

unfoldable pub zeros : ℕ → List ℕ
zeros n = replicate n 0

-- `n` letters from one on
unfoldable pub letters : ℕ → ℕ → List ℕ
letters a n = counted (λ c. c) a n

unfoldable pub ABCDEFGH : List ℕ
ABCDEFGH = letters 65 8

unfoldable pub ABCDEFGZ : List ℕ
ABCDEFGZ = letters 65 7 ++ (90 ∷ [])

unfoldable pub AIJKLMNO : List ℕ
AIJKLMNO = 65 ∷ letters 73 7

unfoldable pub ABIJKLMN : List ℕ
ABIJKLMN = 65 ∷ 66 ∷ letters 73 6

unfoldable pub IJKLMNOP : List ℕ
IJKLMNOP = letters 73 8

unfoldable pub QRSTUVWX : List ℕ
QRSTUVWX = letters 81 8

-- position i of eight held in the cell c + i with count n
unfoldable pub run8 : ℕ → ℕ → Segment
run8 c n = counted (λ cell. held cell n) c 8

-- direct pointers to the eight positions of record k
unfoldable pub to8 : ℕ → List Pointer
to8 k = counted (direct k) 0 8

-- a version of 512 bytes
unfoldable pub v512 : ℕ → List Pointer → Version
v512 n ps = record { number = n; length = 512; day = 0; pointers = ps }
