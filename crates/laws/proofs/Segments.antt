-- Placing one segment, and all segments of an image: step 1 of a backup.
use mathlib.Core.Path.{◌≡◌, refl, sym, ap, ap₂, ◌∙◌, subst}
use mathlib.Core.Logic.{◌⊎◌, inl, inr}
use mathlib.Core.Bool.{Bool, true, false, cond}
use mathlib.Core.List.{List, [], ◌∷◌, ◌++◌, map, append-nil, append_assoc}
use mathlib.Core.Option.{Option, none, some}
use Prim.Native.Nat.{ℕ, zero, suc, ◌+◌, ◌-◌, ◌<◌}
use native.Mathlib.Nat.{add-zero, not-suc-le-zero}
use native.Mathlib.Omega.{arith}
use lib.ListN.{length, get_or, length-map, length-append, get_or-append}
use lib.Seq.{get_or-append-add}
use lib.Dec.{ltb}
use borrow.Author.Tests.{ltb-true, ltb-false}
use Rattle.lists.specs.Lists.{every, count, first_from, all_zero}
use Rattle.lists.specs.Rows.{joined}
use Rattle.lists.specs.Each.{Each}
use Rattle.lists.proofs.Counts.{count_append}
use Rattle.lists.proofs.Each.{each_at}
use Rattle.lists.proofs.Puts.{first_found}
use Rattle.lists.proofs.Sets.{map_at}
use Rattle.lists.proofs.Tests.{by_test, every_at}
use Rattle.model.specs.Measures.{Measures}
use Rattle.model.specs.State.{Block, Pointer, null_pointer, blank_pointer, direct, indirect, Storage, Outcome, refused, done}
use Rattle.model.specs.Image.{Era, is_bare}
use Rattle.model.specs.Records.{is_free, cell_at, position_at, equals}
use Rattle.model.specs.Runs.{Run, find_run}
use Rattle.model.specs.Place.{Placed, bare_pointer, stored_blocks, share, write, write_run, write_record, share_or_write, place_segment, after_some, place_next, place_all}
use Rattle.model.specs.Trace.{block_at}
use Rattle.model.specs.Sound.{is_null, leads_to}
use Rattle.laws.proofs.Runs.{RunOk, FoundOk, Free, find_ok}
use Rattle.laws.proofs.Sweep.{count_in, block_in}
use Rattle.laws.specs.Storage.{Exact, StorageFits}
use Rattle.laws.proofs.Clean.{HasBytes}
use Rattle.laws.proofs.Bare.{bare_eq, is_indirect, is_bare_pointer, bare_leads, bare_plain, bare_bare, bare_null}
use Rattle.laws.proofs.Place.{PlacedOk, share_ok, fill_ok}
use Rattle.laws.proofs.Counts.{leads_itself, pointer_counted}

-- ---- the cases of placing one segment

-- what is placed, if it is
abbrev pub IfDone : (Placed → Type 0) → Outcome Placed → Type 0
IfDone P (refused n) = Unit {0}
IfDone P (done p) = P p

-- what holds where no record is needed, where one serves and where a free one is filled holds of what is placed
module _ (era : Era) (P : Placed → Type 0) (a : Storage) (seg : List Block)
    (bare : every (is_bare era) seg ≡ true → P (record { storage = a; pointers = map bare_pointer seg }))
    (shared : every (is_bare era) seg ≡ false → (k : ℕ) → first_from (equals era a seg) 0 a.records ≡ some k → P (share era a seg k))
    (filled : every (is_bare era) seg ≡ false → (k : ℕ) → first_from is_free 0 a.records ≡ some k → (run : Run) → find_run a (length (stored_blocks era seg)) ≡ some run → P (write era a seg k run)) where
  module _ (ne : every (is_bare era) seg ≡ false) where
    by_run : (k : ℕ) → first_from is_free 0 a.records ≡ some k → (o : Option Run) → find_run a (length (stored_blocks era seg)) ≡ o → IfDone P (write_run era a seg k o)
    unfolding write_run
    by_run k e none q = tt
    by_run k e (some run) q = filled ne k e run q

    by_record : (o : Option ℕ) → first_from is_free 0 a.records ≡ o → IfDone P (write_record era a seg o)
    unfolding write_record
    by_record none e = tt
    by_record (some k) e = by_run k e (find_run a (length (stored_blocks era seg))) refl

    by_match : (o : Option ℕ) → first_from (equals era a seg) 0 a.records ≡ o → IfDone P (share_or_write era a seg o)
    unfolding share_or_write
    by_match none e = by_record (first_from is_free 0 a.records) refl
    by_match (some k) e = shared ne k e

  pub segment_cases : IfDone P (place_segment era a seg)
  unfolding place_segment
  segment_cases = by_test (IfDone P) (every (is_bare era) seg) bare (λ ne. by_match ne (first_from (equals era a seg) 0 a.records) refl)

-- a run that is found is free and long enough
pub run_found : (a : Storage) (need : ℕ) (run : Run) → find_run a need ≡ some run → RunOk (Free a) need run
run_found a need run e = subst (FoundOk (Free a) need) e (find_ok a need)

-- ---- one segment

bare_count : (k i : ℕ) (bs : List Block) → count (leads_to k i) (map bare_pointer bs) ≡ 0
unfolding count
bare_count k i [] = refl
bare_count k i (b ∷ bs) = ap₂ (λ (t : Bool) (n : ℕ). cond t 1 0 + n) (bare_leads b k i) (bare_count k i bs)

abbrev pub PlaceOk : (era : Era) (m : Measures) (a : Storage) (seg : List Block) → Outcome Placed → Type 0
PlaceOk era m a seg = IfDone (λ p. PlacedOk era m a p.storage seg p.pointers)

module _ (era : Era) (m : Measures) (a : Storage) (f : StorageFits m a) (x : Exact a) (seg : List Block) (w : Each (HasBytes m) seg) (sz : length seg ≡ m.segment_blocks) where
  bare_ok : every (is_bare era) seg ≡ true → PlacedOk era m a a seg (map bare_pointer seg)
  bare_ok z = record {
    fits = f;
    exact = x;
    counts = λ k i. sym (ap (λ (n : ℕ). count_in a k i + n) (bare_count k i seg) ∙ add-zero (count_in a k i));
    blocks = λ k i p. refl;
    traced = λ j h. ap (block_at m.block_bytes a) (bare_at j h) ∙ bare_eq era m a (get_or seg j []) (here j h) (each_at (HasBytes m) [] seg w j h);
    nulls = λ j h. ap is_null (bare_at j h) ∙ bare_null (get_or seg j []);
    bares = λ j h. ap is_bare_pointer (bare_at j h) ∙ bare_bare (get_or seg j []) ∙ sym (here j h);
    plain = plain seg;
    size = length-map seg bare_pointer;
    record_count = refl;
    cell_count = refl;
  }
    where
      bare_at : (j : ℕ) → j < length seg → get_or (map bare_pointer seg) j null_pointer ≡ bare_pointer (get_or seg j [])
      bare_at j h = map_at bare_pointer seg j [] null_pointer h

      here : (j : ℕ) → j < length seg → is_bare era (get_or seg j []) ≡ true
      here j h = every_at (is_bare era) [] seg z j h

      plain : (bs : List Block) (j : ℕ) → is_indirect (get_or (map bare_pointer bs) j null_pointer) ≡ false
      plain [] j = refl
      plain (b ∷ bs) zero = bare_plain b
      plain (b ∷ bs) (suc j) = plain bs j

  pub segment_ok : PlaceOk era m a seg (place_segment era a seg)
  segment_ok =
      segment_cases era (λ p. PlacedOk era m a p.storage seg p.pointers) a seg bare_ok
      (λ ne k e. let (hk, q) = first_found [] (equals era a seg) a.records k e in share_ok era m a f x seg w k hk q)
      (λ ne k e run r.
      let (hk, fr) = first_found [] is_free a.records k e in fill_ok era m a f x seg w sz k hk fr ne run (run_found a (length (stored_blocks era seg)) run r))

-- ---- all segments

pub block_kept : (m : Measures) (a b : Storage) (p : Pointer) → ((k i : ℕ) → leads_to k i p ≡ true → block_in b k i ≡ block_in a k i) → block_at m.block_bytes b p ≡ block_at m.block_bytes a p
unfolding block_at cell_at position_at
block_kept m a b null_pointer h = refl
block_kept m a b blank_pointer h = refl
block_kept m a b (direct k i) h = h k i (leads_itself k i)
block_kept m a b (indirect n) h = refl

both_plain : (ps qs : List Pointer) → ((j : ℕ) → is_indirect (get_or ps j null_pointer) ≡ false) → ((j : ℕ) → is_indirect (get_or qs j null_pointer) ≡ false)
    → (j : ℕ) → is_indirect (get_or (ps ++ qs) j null_pointer) ≡ false
both_plain [] qs f g j = g j
both_plain (p ∷ ps) qs f g zero = f 0
both_plain (p ∷ ps) qs f g (suc j) = both_plain ps qs (λ i. f (suc i)) g j

module _ (era : Era) (m : Measures) (a b c : Storage) (bs cs : List Block) (ps qs : List Pointer) (f : PlacedOk era m a b bs ps) (g : PlacedOk era m b c cs qs) where
  split : (j : ℕ) → j < length (bs ++ cs) → (j < length bs) ⊎ ((i : ℕ) × (j ≡ length bs + i) × (i < length cs))
  split j h = go (ltb j (length bs)) refl
    where
      go : (t : Bool) → ltb j (length bs) ≡ t → (j < length bs) ⊎ ((i : ℕ) × (j ≡ length bs + i) × (i < length cs))
      go true e = inl (ltb-true j (length bs) e)
      go false e = inr (j - length bs, omega (arith, ltb-false j (length bs) e), omega (arith, ltb-false j (length bs) e, h, length-append bs cs))

  first : (j : ℕ) → j < length bs → (get_or (ps ++ qs) j null_pointer ≡ get_or ps j null_pointer) × (get_or (bs ++ cs) j [] ≡ get_or bs j [])
  first j h = (get_or-append ps qs null_pointer j (omega (arith, h, f.size)), get_or-append bs cs [] j h)

  second : (i : ℕ) → (get_or (ps ++ qs) (length bs + i) null_pointer ≡ get_or qs i null_pointer) × (get_or (bs ++ cs) (length bs + i) [] ≡ get_or cs i [])
  second i = (
    ap (λ (n : ℕ). get_or (ps ++ qs) (n + i) null_pointer) (sym f.size) ∙ get_or-append-add ps qs i null_pointer,
    get_or-append-add bs cs i [],
  )

  both_traced : (j : ℕ) → j < length (bs ++ cs) → block_at m.block_bytes c (get_or (ps ++ qs) j null_pointer) ≡ get_or (bs ++ cs) j []
  both_traced j h = go (split j h)
    where
      go : (j < length bs) ⊎ ((i : ℕ) × (j ≡ length bs + i) × (i < length cs)) → block_at m.block_bytes c (get_or (ps ++ qs) j null_pointer) ≡ get_or (bs ++ cs) j []
      go (inl l) =
          ap (block_at m.block_bytes c) (first j l).0
          ∙ block_kept m b c (get_or ps j null_pointer) (λ k i e. g.blocks k i (omega (arith, f.counts k i, pointer_counted k i ps j e)))
          ∙ f.traced j l ∙ sym (first j l).1
      go (inr t) = rw t.1 (ap (block_at m.block_bytes c) (second t.0).0 ∙ g.traced t.0 t.2 ∙ sym (second t.0).1)

  both_nulls : (j : ℕ) → j < length (bs ++ cs) → is_null (get_or (ps ++ qs) j null_pointer) ≡ all_zero (get_or (bs ++ cs) j [])
  both_nulls j h = go (split j h)
    where
      go : (j < length bs) ⊎ ((i : ℕ) × (j ≡ length bs + i) × (i < length cs)) → is_null (get_or (ps ++ qs) j null_pointer) ≡ all_zero (get_or (bs ++ cs) j [])
      go (inl l) = ap is_null (first j l).0 ∙ f.nulls j l ∙ ap all_zero (sym (first j l).1)
      go (inr t) = rw t.1 (ap is_null (second t.0).0 ∙ g.nulls t.0 t.2 ∙ ap all_zero (sym (second t.0).1))

  both_bares : (j : ℕ) → j < length (bs ++ cs) → is_bare_pointer (get_or (ps ++ qs) j null_pointer) ≡ is_bare era (get_or (bs ++ cs) j [])
  both_bares j h = go (split j h)
    where
      go : (j < length bs) ⊎ ((i : ℕ) × (j ≡ length bs + i) × (i < length cs)) → is_bare_pointer (get_or (ps ++ qs) j null_pointer) ≡ is_bare era (get_or (bs ++ cs) j [])
      go (inl l) = ap is_bare_pointer (first j l).0 ∙ f.bares j l ∙ ap (is_bare era) (sym (first j l).1)
      go (inr t) = rw t.1 (ap is_bare_pointer (second t.0).0 ∙ g.bares t.0 t.2 ∙ ap (is_bare era) (sym (second t.0).1))

  pub placed_both : PlacedOk era m a c (bs ++ cs) (ps ++ qs)
  placed_both = record {
    fits = g.fits;
    exact = g.exact;
    counts = λ k i. omega (arith, f.counts k i, g.counts k i, count_append (leads_to k i) ps qs);
    blocks = λ k i p. g.blocks k i (omega (arith, f.counts k i, p)) ∙ f.blocks k i p;
    traced = both_traced;
    nulls = both_nulls;
    bares = both_bares;
    plain = both_plain ps qs f.plain g.plain;
    size = length-append ps qs ∙ ap₂ ◌+◌ f.size g.size ∙ sym (length-append bs cs);
    record_count = g.record_count ∙ f.record_count;
    cell_count = g.cell_count ∙ f.cell_count;
  }

-- segments of whole blocks
pub record SegmentOk (m : Measures) (seg : List Block) : Type 0 where
  pub whole : Each (HasBytes m) seg
  pub size : length seg ≡ m.segment_blocks

next_ok : (era : Era) (m : Measures) (a : Storage) (bs seg : List Block) → SegmentOk m seg → (o : Outcome Placed) → PlaceOk era m a bs o → PlaceOk era m a (bs ++ seg) (place_next era o seg)
unfolding place_next
next_ok era m a bs seg w (refused n) h = tt
next_ok era m a bs seg w (done p) h =
    go (place_segment era p.storage seg) (segment_ok era m p.storage h.fits h.exact seg w.whole w.size)
  where
    go : (o : Outcome Placed) → PlaceOk era m p.storage seg o → PlaceOk era m a (bs ++ seg) (after_some p.pointers o)
    go (refused n) g = unfold after_some in tt
    go (done q) g = unfold after_some in placed_both era m a p.storage q.storage bs seg p.pointers q.pointers h g

all_ok : (era : Era) (m : Measures) (a : Storage) (segs : List (List Block)) (bs : List Block) → Each (SegmentOk m) segs → (o : Outcome Placed) → PlaceOk era m a bs o
    → PlaceOk era m a (bs ++ joined segs) (place_all era o segs)
unfolding place_all joined
all_ok era m a [] bs w o h = subst (λ (l : List Block). PlaceOk era m a l o) (sym (append-nil bs)) h
all_ok era m a (seg ∷ segs) bs w o h =
    subst (λ (l : List Block). PlaceOk era m a l (place_all era (place_next era o seg) segs)) (append_assoc bs seg (joined segs))
    (all_ok era m a segs (bs ++ seg) w.1 (place_next era o seg) (next_ok era m a bs seg w.0 o h))

-- Step 1 of a backup.
pub place_ok : (era : Era) (m : Measures) (a : Storage) (segs : List (List Block)) → StorageFits m a → Exact a → Each (SegmentOk m) segs
    → PlaceOk era m a (joined segs) (place_all era (done (record { storage = a; pointers = [] })) segs)
place_ok era m a segs f x w = all_ok era m a segs [] w (done (record { storage = a; pointers = [] })) start
  where
    start : PlacedOk era m a a [] []
    start = record {
      fits = f;
      exact = x;
      counts = λ k i. unfold count in sym (add-zero (count_in a k i));
      blocks = λ k i p. refl;
      traced = λ j h. absurd (not-suc-le-zero h);
      nulls = λ j h. absurd (not-suc-le-zero h);
      bares = λ j h. absurd (not-suc-le-zero h);
      plain = λ j. refl;
      size = refl;
      record_count = refl;
      cell_count = refl;
    }
