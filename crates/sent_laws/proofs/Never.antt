-- A backup is never refused with 19.
use mathlib.Core.Path.{◌≡◌}
use mathlib.Core.Bool.{◌||◌}
use mathlib.Core.List.{List, [], ◌∷◌}
use mathlib.Core.Option.{Option, none, some}
use Prim.Native.Nat.{ℕ, ◌*◌}
use native.Mathlib.Omega.{arith}
use lib.ListN.{length}
use lib.Dec.{eqb, ltb, leb}
use Rattle.lists.specs.Lists.{every, first_from}
use Rattle.lists.proofs.Tests.{by_test}
use Rattle.model.specs.Measures.{Shape}
use Rattle.model.specs.State.{Block, Storage, State, Outcome, refused, done}
use Rattle.model.specs.Image.{Era, is_bare, image_blocks, image_segments}
use Rattle.model.specs.Records.{is_free, equals}
use Rattle.model.specs.Runs.{Run, find_run}
use Rattle.model.specs.Place.{Placed, stored_blocks, write_run, write_record, share_or_write, place_segment, after_some, place_next, place_all}
use Rattle.model.specs.Calls.{newest_day, day_for, till_of, file_in, place_and_file, backup}

abbrev pub Never19 : {A : Type 0} → Outcome A → Type 0
Never19 (refused n) = ¬ (n ≡ 19)
Never19 (done a) = Unit {0}

module _ (era : Era) where
  place_one : (storage : Storage) (seg : List Block) → Never19 (place_segment era storage seg)
  unfolding place_segment
  place_one storage seg = by_test Never19 (every (is_bare era) seg) (λ e. tt) (λ e. found (first_from (equals era storage seg) 0 storage.records))
    where
      run : (k : ℕ) (o : Option Run) → Never19 (write_run era storage seg k o)
      run k none = unfold write_run in (λ e. absurd (omega (arith, e)))
      run k (some r) = unfold write_run in tt

      free : (o : Option ℕ) → Never19 (write_record era storage seg o)
      free none = unfold write_record in (λ e. absurd (omega (arith, e)))
      free (some k) = unfold write_record in run k (find_run storage (length (stored_blocks era seg)))

      found : (o : Option ℕ) → Never19 (share_or_write era storage seg o)
      found none = unfold share_or_write in free (first_from is_free 0 storage.records)
      found (some k) = unfold share_or_write in tt

  place_next_lem : (o : Outcome Placed) (seg : List Block) → Never19 o → Never19 (place_next era o seg)
  unfolding place_next
  place_next_lem (refused n) seg h = h
  place_next_lem (done p) seg h = go (place_segment era p.storage seg) (place_one p.storage seg)
    where
      go : (o : Outcome Placed) → Never19 o → Never19 (after_some p.pointers o)
      go (refused n) h = unfold after_some in h
      go (done q) h = unfold after_some in tt

  place_every : (segs : List (List Block)) (o : Outcome Placed) → Never19 o → Never19 (place_all era o segs)
  unfolding place_all
  place_every [] o h = h
  place_every (seg ∷ segs) o h = place_every segs (place_next era o seg) (place_next_lem o seg h)

  pub never_19 : (s : Shape) (st : State) (t : ℕ) (brought : Option ℕ) (image : List ℕ) → Never19 (backup era s st t brought image)
  unfolding backup
  never_19 s st t brought image =
      by_test Never19 (leb s.capacities.tills t) (λ e n. absurd (omega (arith, n))) (λ e.
      by_test Never19 (eqb (length image) 0 || ltb (s.measures.block_bytes * s.capacities.blocks) (length image)) (λ e n. absurd (omega (arith, n))) (λ e.
      by_test Never19 (leb s.capacities.versions (length (till_of st t).versions)) (λ e n. absurd (omega (arith, n))) (λ e.
      by_test Never19 (eqb (till_of st t).last 65535) (λ e n. absurd (omega (arith, n))) (λ e.
      by_test Never19 (ltb (day_for brought (till_of st t).versions) (newest_day (till_of st t).versions)) (λ e n. absurd (omega (arith, n))) (λ e. filed (day_for brought (till_of st t).versions))))))
    where
      file : (day : ℕ) (o : Outcome Placed) → Never19 o → Never19 (file_in era s st t day image (image_blocks s.measures.block_bytes image) (till_of st t) o)
      file day (refused n) h = unfold file_in in h
      file day (done p) h = unfold file_in in tt

      filed : (day : ℕ) → Never19 (place_and_file era s st t day image (till_of st t))
      filed day =
          unfold place_and_file in
          file day (place_all era (done (record { storage = st.storage; pointers = [] })) (image_segments s.measures.block_bytes s.measures.segment_blocks image))
          (place_every (image_segments s.measures.block_bytes s.measures.segment_blocks image) (done (record { storage = st.storage; pointers = [] })) tt)
