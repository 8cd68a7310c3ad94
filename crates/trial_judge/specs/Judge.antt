-- What the judges leave of the trial's counters.
use Rattle.std.specs.Prelude.{cond, List, [], ◌∷◌, ℕ, eqb, leb}
use Rattle.trial_report.specs.Counts.{added, raised, expected, unaltered, answered_with}
use Rattle.trial_compare.specs.Bytes.{differing, others}
use Rattle.trial_keeper.specs.Notes.{user_refusal, backup_refusal, restore_refusal, retire_refusal}

-- the counters' places: accepted calls of each kind
abbrev pub backups : ℕ
backups = 42

abbrev pub restores : ℕ
restores = 43

abbrev pub retires : ℕ
retires = 44

abbrev pub listings : ℕ
listings = 45

abbrev pub tallies : ℕ
tallies = 46

abbrev pub rights_calls : ℕ
rights_calls = 62

-- versions restored, their bytes, the longest chain, and bytes that are wrong
abbrev pub versions_back : ℕ
versions_back = 48

abbrev pub bytes_back : ℕ
bytes_back = 49

abbrev pub longest_chain : ℕ
longest_chain = 50

abbrev pub bytes_wrong : ℕ
bytes_wrong = 51

-- versions retired that were not the oldest: the newest, or one between
abbrev pub newest_gone : ℕ
newest_gone = 54

abbrev pub between_gone : ℕ
between_gone = 55

-- each field that is not 0 is a wrong answer
unfoldable pub zeros : List ℕ → List ℕ → List ℕ
zeros counts [] = counts
zeros counts (f ∷ fs) = zeros (expected counts (eqb f 0)) fs

-- a refusal has its number, and its other fields are 0
unfoldable pub refused_as : List ℕ → ℕ → ℕ → ℕ → List ℕ → List ℕ
refused_as counts kind refusal wanted fields = zeros (answered_with counts kind refusal wanted) fields

-- of two refusals the first that is not 0
unfoldable pub first_refusal : ℕ → ℕ → ℕ
first_refusal a b = cond (eqb a 0) b a

-- the keeper's number for a user's call: what the user may do goes before what the call may
abbrev pub wanted_backup : ℕ → ℕ → ℕ → List ℕ → ℕ → ℕ → ℕ → ℕ
wanted_backup tills versions most notes user till bytes =
    first_refusal (user_refusal tills notes user till 1) (backup_refusal tills versions most notes till bytes)

abbrev pub wanted_restore : ℕ → List ℕ → ℕ → ℕ → ℕ → ℕ → ℕ
wanted_restore tills notes user till n room = first_refusal (user_refusal tills notes user till 2) (restore_refusal tills notes till n room)

abbrev pub wanted_retire : ℕ → List ℕ → ℕ → ℕ → ℕ → ℕ
wanted_retire tills notes user till n = first_refusal (user_refusal tills notes user till 3) (retire_refusal tills notes till n)

-- whether there is room, 14 and 16, is for the store to say
unfoldable pub or_full : ℕ → ℕ → ℕ
or_full wanted refusal = cond (eqb wanted 0) (cond (eqb refusal 14) 14 (cond (eqb refusal 16) 16 0)) wanted

-- pool and table have the bytes and words of their copies
unfoldable pub compared : List ℕ → List ℕ → List ℕ → List ℕ → List ℕ → List ℕ
compared counts bytes entries pool table = unaltered (unaltered counts (eqb (differing pool bytes) 0)) (eqb (differing table entries) 0)

-- an accepted backup answers with the last number given, a refused one with 0
unfoldable pub backup_version : List ℕ → ℕ → ℕ → ℕ → List ℕ
backup_version counts refusal version last = expected counts (eqb version (cond (eqb refusal 0) last 0))

-- the oldest is not counted
unfoldable pub count_retired : List ℕ → ℕ → ℕ → ℕ → List ℕ
count_retired counts oldest newest n = cond (eqb n oldest) counts (cond (eqb n newest) (added counts newest_gone 1) (added counts between_gone 1))

-- one more version, its bytes, and those that are wrong
unfoldable pub restored_bytes : List ℕ → ℕ → ℕ → List ℕ
restored_bytes counts length wrong = added (added (added counts versions_back 1) bytes_back length) bytes_wrong wrong

-- the length is the one kept, and the chain no longer than there are newer versions
unfoldable pub restored_chain : List ℕ → ℕ → ℕ → ℕ → ℕ → List ℕ
restored_chain counts length hops kept newer = expected (expected (raised counts longest_chain hops) (eqb length kept)) (leb hops newer)

-- the output is as it was marked, with 170
unfoldable pub not_restored : List ℕ → ℕ → ℕ → List ℕ → List ℕ
not_restored counts length hops output = unaltered (expected (expected counts (eqb length 0)) (eqb hops 0)) (eqb (others 170 output) 0)

-- the three numbers of a listing
unfoldable pub listed_as : List ℕ → ℕ → ℕ → ℕ → ℕ → ℕ → ℕ → List ℕ
listed_as counts oldest newest last oldest_kept newest_kept lastKept =
    expected (expected (expected counts (eqb oldest oldest_kept)) (eqb newest newest_kept)) (eqb last lastKept)
