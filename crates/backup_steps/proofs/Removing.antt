-- Pointers let go, the cells left counted, and all of it taken back.
use mathlib.Core.Path.{◌≡◌, refl, sym, ap, ◌∙◌, subst}
use mathlib.Core.Bool.{Bool, true, false, not}
use mathlib.Core.List.{List, [], ◌∷◌, map}
use Prim.Native.Nat.{ℕ, zero, suc, ◌+◌, ◌<◌}
use native.Mathlib.Nat.{not-suc-le-zero, le_of_suc-le-suc}
use native.Mathlib.Omega.{arith}
use lib.ListN.{length, get_or, take}
use lib.Seq.{length-take-le}
use lib.Dec.{ltb}
use Rattle.lists.specs.Lists.{count, counted, is_in, total}
use Rattle.model.specs.Measures.{Measures}
use Rattle.model.specs.Records.{is_held}
use Rattle.model.specs.Runs.{free_cells}
use Rattle.model.specs.Sound.{leads_to}
use Rattle.model.specs.State.{Pointer, null_pointer, blank_pointer, direct, indirect, Segment, Storage}
use Rattle.model.specs.Sweep.{one_less, change_all, is_referenced, release, claim, sweep}
use Rattle.model.specs.Table.{records_in, storage_in, word_to_pointer}
use Rattle.laws.proofs.Counts.{falls, leads_itself, change_all_named}
use Rattle.laws.proofs.Remaining.{still_held, lowered_most, claimed_back, sweep_left}
use Rattle.place_undo.specs.Undo.{undo_upto}
use Rattle.storage.specs.Fits.{WithinRecords, NamesHeld}
use Rattle.storage.specs.Stored.{Stored, EncodesRecords, Encodes, position_in}
use Rattle.storage.proofs.Read.{records_of, records_read}
use Rattle.sweep.proofs.Released.{released, released_storage, encodes_as}
use Rattle.backup_steps.specs.Limit.{beyond, TakeBackPre, RemovePre, RemoveResult}

-- ---- what is let go is still held

word_among : (k i : ℕ) (ws : List ℕ) (j : ℕ) → j < length ws → leads_to k i (word_to_pointer (get_or ws j 0)) ≡ true → 0 < count (leads_to k i) (map word_to_pointer ws)
unfolding count
word_among k i [] j h e = absurd (not-suc-le-zero h)
word_among k i (w ∷ ws) zero h e = rw e (omega arith)
word_among k i (w ∷ ws) (suc j) h e = omega (arith, word_among k i ws j (le_of_suc-le-suc h) e)

names_by : (segs : List Segment) (p : Pointer) → ((k i : ℕ) → leads_to k i p ≡ true → is_held (position_in segs k i) ≡ true) → NamesHeld segs p
unfolding NamesHeld
names_by segs null_pointer h = tt
names_by segs blank_pointer h = tt
names_by segs (direct k i) h = h k i (leads_itself k i)
names_by segs (indirect n) h = tt

-- a count that falls frees no cell
released_free : (storage : Storage) (ps : List Pointer) → free_cells (release storage ps) ≡ free_cells storage
unfolding free_cells release
released_free storage ps =
    ap (λ (named : List ℕ). counted (λ c. not (is_in c named)) 0 (length storage.cells)) (change_all_named one_less falls ps storage.records)

-- ---- after the release

module _ {m : Measures} {pool ws out : List ℕ} {n : ℕ} {placed : List ℕ} {segments : ℕ} (s : RemovePre m pool ws out n placed segments) (ws' : List ℕ) (l : length ws' ≡ length ws)
    (r : EncodesRecords m.segment_blocks ws' (change_all one_less (records_in m.segment_blocks ws) (map word_to_pointer (take n out)))) where
  abbrev gone : List Pointer
  gone = map word_to_pointer (take n out)

  abbrev storage : Storage
  storage = storage_in m pool ws

  lowered : records_in m.segment_blocks ws' ≡ change_all one_less (records_in m.segment_blocks ws) gone
  lowered = records_read m.segment_blocks ws' _ r

  now_is : storage_in m pool ws' ≡ release storage gone
  now_is = released_storage m pool ws s.stored gone ws' l r

  pub let_stored : Stored m pool ws'
  let_stored = released m pool ws s.stored gone ws' l r

  pub let_free : (free : List Bool) → free ≡ free_cells storage → free ≡ free_cells (storage_in m pool ws')
  let_free free e = e ∙ sym (ap free_cells now_is ∙ released_free storage gone)

  pub let_backward : TakeBackPre m pool ws' (take n out) placed segments
  let_backward = record {
    stored = let_stored;
    resolves = λ i h. (
      subst (λ (x : ℕ). WithinRecords m.segment_blocks x (word_to_pointer (get_or (take n out) i 0))) (sym l) (s.resolves i h),
      rw lowered (names_by _ (word_to_pointer (get_or (take n out) i 0)) (λ k j e. still_held (records_in m.segment_blocks ws) gone s.suffices k j (word_among k j (take n out) i h e))),
    );
    room = λ k i. rw lowered (omega (arith, lowered_most (records_in m.segment_blocks ws) gone s.suffices k i, s.counts.below k i, s.few, length-take-le n out s.within));
    inside = s.inside;
  }

  -- the cells counted are those that the sweep would leave
  module _ (others most : ℕ) (over : Bool) (q : over ≡ ltb most (others + total (count is_referenced) (records_in m.segment_blocks ws'))) where
    over_is : over ≡ beyond others most m storage gone
    over_is =
        q ∙ ap (λ (c : ℕ). ltb most (others + c))
        (ap (total (count is_referenced)) (sym (records_of m pool ws')) ∙ ap (λ (x : Storage). total (count is_referenced) x.records) now_is ∙ sym (sweep_left m (release storage gone)))

    abbrev before : Storage
    before = undo_upto m placed segments storage

    pub settled_back : over ≡ true → (pool'' ws'' : List ℕ) → Encodes m pool'' ws'' (undo_upto m placed segments (claim (storage_in m pool ws') gone)) → RemoveResult (beyond others most m storage gone) m storage gone before 21 pool'' ws''
    settled_back t pool'' ws'' d =
        subst (λ (b : Bool). RemoveResult b m storage gone before 21 pool'' ws'') (sym t ∙ over_is)
        (refl, encodes_as (ap (undo_upto m placed segments) (sym (ap (λ (x : Storage). claim x gone) now_is ∙ claimed_back storage gone (rw (records_of m pool ws) s.suffices)))) d)

    pub settled_swept : over ≡ false → (pool'' ws'' : List ℕ) → Encodes m pool'' ws'' (sweep m (storage_in m pool ws')) → RemoveResult (beyond others most m storage gone) m storage gone before 0 pool'' ws''
    settled_swept t pool'' ws'' d = subst (λ (b : Bool). RemoveResult b m storage gone before 0 pool'' ws'') (sym t ∙ over_is) (refl, encodes_as (ap (sweep m) (sym now_is)) d)
