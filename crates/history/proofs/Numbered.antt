-- No refusal carries number 0, and step 1 refuses with 14 or 16 only.
use mathlib.Core.Path.{◌≡◌, refl}
use mathlib.Core.Bool.{Bool, true, false, cond, ◌||◌}
use mathlib.Core.List.{List, [], ◌∷◌}
use mathlib.Core.Option.{Option, none, some}
use Prim.Native.Nat.{ℕ, ◌*◌, ◌<◌}
use native.Mathlib.Omega.{arith}
use lib.ListN.{length}
use lib.Dec.{eqb, leb, ltb, lit<}
use borrow.Author.Tests.{eqb-false}
use Rattle.lists.specs.Lists.{every, first_from}
use Rattle.lists.proofs.Tests.{by_test}
use Rattle.model.specs.Measures.{Shape}
use Rattle.model.specs.State.{Block, Storage, Version, Rights, staff, State, Outcome, refused, done}
use Rattle.model.specs.Image.{Era, is_bare, image_blocks, image_segments}
use Rattle.model.specs.Records.{is_free, equals}
use Rattle.model.specs.Runs.{Run, find_run}
use Rattle.model.specs.Place.{Placed, stored_blocks, write_run, write_record, share_or_write, place_segment, after_some, place_next, place_all}
use Rattle.laws.proofs.Tills.{not_held_some}
use Rattle.model.specs.Calls.{till_of, held_from, held_before, retire_from, newest_day, day_for, file_in, place_and_file, backup, retire, first_of, not_held, look_up, After}
use Rattle.model.specs.Rights.{unless, set_rights}

abbrev pub Numbered : {A : Type 0} → Outcome A → Type 0
Numbered (refused n) = 0 < n
Numbered (done a) = Unit {0}

pub unless_numbered : (n : ℕ) (o : Outcome After) → Numbered o → Numbered (unless n refused o)
unless_numbered n o h = go (eqb n 0) refl
  where
    go : (q : Bool) → eqb n 0 ≡ q → Numbered (cond q o (refused n))
    go true q = h
    go false q = let some : 0 < n = omega (arith, eqb-false n 0 q) in some

run_numbered : (era : Era) (a : Storage) (seg : List Block) (k : ℕ) (o : Option Run) → Numbered (write_run era a seg k o)
unfolding write_run
run_numbered era a seg k none = lit< tt
run_numbered era a seg k (some run) = tt

record_numbered : (era : Era) (a : Storage) (seg : List Block) (o : Option ℕ) → Numbered (write_record era a seg o)
unfolding write_record
record_numbered era a seg none = lit< tt
record_numbered era a seg (some k) = run_numbered era a seg k (find_run a (length (stored_blocks era seg)))

either_numbered : (era : Era) (a : Storage) (seg : List Block) (o : Option ℕ) → Numbered (share_or_write era a seg o)
unfolding share_or_write
either_numbered era a seg none = record_numbered era a seg (first_from is_free 0 a.records)
either_numbered era a seg (some k) = tt

segment_numbered : (era : Era) (a : Storage) (seg : List Block) → Numbered (place_segment era a seg)
unfolding place_segment
segment_numbered era a seg = by_test Numbered (every (is_bare era) seg) (λ e. tt) (λ e. either_numbered era a seg (first_from (equals era a seg) 0 a.records))

next_numbered : (era : Era) (o : Outcome Placed) (seg : List Block) → Numbered o → Numbered (place_next era o seg)
unfolding place_next after_some
next_numbered era (refused n) seg h = h
next_numbered era (done p) seg h = go (place_segment era p.storage seg) (segment_numbered era p.storage seg)
  where
    go : (o : Outcome Placed) → Numbered o → Numbered (after_some p.pointers o)
    go (refused n) h = h
    go (done q) h = tt

all_numbered : (era : Era) (o : Outcome Placed) (segs : List (List Block)) → Numbered o → Numbered (place_all era o segs)
unfolding place_all
all_numbered era o [] h = h
all_numbered era o (seg ∷ segs) h = all_numbered era (place_next era o seg) segs (next_numbered era o seg h)

pub backup_numbered : (era : Era) (s : Shape) (st : State) (t : ℕ) (d : Option ℕ) (image : List ℕ) → Numbered (backup era s st t d image)
unfolding backup place_and_file
backup_numbered era s st t d image =
    by_test Numbered (leb s.capacities.tills t) (λ e. lit< tt)
    (λ e. by_test Numbered (eqb (length image) 0 || ltb (s.measures.block_bytes * s.capacities.blocks) (length image)) (λ e. lit< tt)
    (λ e. by_test Numbered (leb s.capacities.versions (length (till_of st t).versions)) (λ e. lit< tt)
    (λ e. by_test Numbered (eqb (till_of st t).last 65535) (λ e. lit< tt)
    (λ e. by_test Numbered (ltb (day_for d (till_of st t).versions) (newest_day (till_of st t).versions)) (λ e. lit< tt)
    (λ e. go (day_for d (till_of st t).versions) (place_all era (done (record { storage = st.storage; pointers = [] })) (image_segments s.measures.block_bytes s.measures.segment_blocks image))
    (all_numbered era (done (record { storage = st.storage; pointers = [] })) (image_segments s.measures.block_bytes s.measures.segment_blocks image) tt))))))
  where
    go : (day : ℕ) (o : Outcome Placed) → Numbered o → Numbered (file_in era s st t day image (image_blocks s.measures.block_bytes image) (till_of st t) o)
    go day (refused n) h = unfold file_in in h
    go day (done p) h = unfold file_in in tt

pub retire_numbered : (s : Shape) (st : State) (t v : ℕ) → Numbered (retire s st t v)
unfolding retire look_up
retire_numbered s st t v = by_test Numbered (leb s.capacities.tills t) (λ e. lit< tt) (λ e. go (held_from v (till_of st t).versions))
  where
    go : (hs : List Version) → Numbered (retire_from s st t (till_of st t) (first_of (not_held (till_of st t).last v) (held_before v (till_of st t).versions) hs))
    go [] = unfold retire_from first_of in not_held_some (till_of st t).last v
    go (w ∷ ws) = unfold retire_from first_of in tt

pub rights_numbered : (s : Shape) (st : State) (u subject t : ℕ) (r : Rights) → Numbered (set_rights s st u subject t r)
unfolding set_rights
rights_numbered s st u subject t r =
    by_test Numbered (leb s.capacities.tills t) (λ e. lit< tt)
    (λ e. by_test Numbered (ltb staff u || (eqb subject 0 || ltb staff subject)) (λ e. lit< tt) (λ e. by_test Numbered (ltb 0 u) (λ e. lit< tt) (λ e. tt)))
