-- Placing a segment can be undone.
use mathlib.Core.Path.{◌∙◌, ◌≡◌, ap, refl, sym}
use mathlib.Core.Bool.{Bool, cond, false, false≢true, not, true}
use mathlib.Core.List.{List, [], ◌∷◌, map}
use Prim.Native.Nat.{◌+◌, ◌-◌, ◌<◌, ◌≤◌, suc, zero, ℕ}
use native.Mathlib.Omega.{arith}
use lib.ListN.{get_or, length, length-set, replicate, set}
use lib.Seq.{ext_get_or, get_or-set_other, get_or-set_same, length-sets, set-get_or, set-set, sets}
use lib.Dec.{eqb}
use borrow.Author.Tests.{eqb-false, eqb-true, ne_eqb}
use Rattle.lists.specs.Each.{Each}
use Rattle.lists.specs.Lists.{all_zero, every, is_in, keep}
use Rattle.lists.specs.Masks.{mask_of}
use Rattle.lists.proofs.Each.{each_at}
use Rattle.lists.proofs.Tests.{cond_true}
use Rattle.model.specs.Image.{is_bare, is_blank, with_blanks, zero_block}
use Rattle.model.specs.Measures.{Measures}
use Rattle.model.specs.Place.{bare_position, new_positions, one_more, share, stored_blocks, write}
use Rattle.model.specs.Records.{cells_of, count_of, equals, free_segment, is_free, is_held}
use Rattle.model.specs.Runs.{Run}
use Rattle.model.specs.State.{Block, Position, Segment, Storage, held, null_position, blank_position, removed}
use Rattle.model.specs.Sweep.{clear_cells, free_record, one_less}
use Rattle.laws.proofs.Bare.{blank_bare, by_bare_position, null_bare}
use Rattle.laws.proofs.Runs.{Free, RunOk}
use Rattle.laws.specs.Storage.{Exact}
use Rattle.storage.proofs.Inside.{unnamed_zero}
use Rattle.place_undo.specs.Undo.{undo_in, undo_record}
use Rattle.place_undo.proofs.Undoing.{less_cells}
use Rattle.place_words.specs.Marks.{stored_bit, stored_mask}
use Rattle.place_words.proofs.Marks.{kept_count}

-- ---- a record that serves again

pub more_cells : (ps : Segment) → cells_of (map one_more ps) ≡ cells_of ps
unfolding cells_of
more_cells [] = refl
more_cells (null_position ∷ ps) = more_cells ps
more_cells (blank_position ∷ ps) = more_cells ps
more_cells (held c n ∷ ps) = ap (λ (l : List ℕ). c ∷ l) (more_cells ps)
more_cells (removed ∷ ps) = more_cells ps

less_more : (ps : Segment) → map one_less (map one_more ps) ≡ ps
less_more [] = refl
less_more (null_position ∷ ps) = ap (λ (l : Segment). null_position ∷ l) (less_more ps)
less_more (blank_position ∷ ps) = ap (λ (l : Segment). blank_position ∷ l) (less_more ps)
less_more (held c n ∷ ps) = ap (λ (l : Segment). held c n ∷ l) (less_more ps)
less_more (removed ∷ ps) = ap (λ (l : Segment). removed ∷ l) (less_more ps)

unmarked : (b : Block) → is_bare with_blanks b ≡ true → stored_bit b ≡ 0
unmarked b e = ap {B = ℕ} (λ (t : Bool). cond (not t) 1 0) e

some_count : (s : Storage) (bs : List Block) (ps : Segment) → ((i : ℕ) → is_held (get_or ps i null_position) ≡ true → 0 < count_of (get_or ps i null_position))
    → equals with_blanks s bs ps ≡ true → (stored_mask bs ≡ 0 → ⊥) → all_zero (map count_of ps) ≡ false
unfolding equals mask_of all_zero every
some_count s [] ps f q h = absurd (h refl)
some_count s (x ∷ bs) [] f q h = absurd (false≢true q)
some_count s (x ∷ bs) (null_position ∷ ps) f q h =
    let (z, r) = cond_true (all_zero x) (equals with_blanks s bs ps) q in
    some_count s bs ps (λ i. f (suc i)) r (λ n. h (let y : stored_bit x ≡ 0 = unmarked x (null_bare with_blanks x z) in omega arith))
some_count s (x ∷ bs) (blank_position ∷ ps) f q h =
    let (z, r) = cond_true (is_blank with_blanks x) (equals with_blanks s bs ps) q in
    some_count s bs ps (λ i. f (suc i)) r (λ n. h (let y : stored_bit x ≡ 0 = unmarked x (blank_bare with_blanks x z) in omega arith))
some_count s (x ∷ bs) (held c n ∷ ps) f q h = rw (ne_eqb n 0 (λ z. omega (arith, f 0 refl)))
some_count s (x ∷ bs) (removed ∷ ps) f q h = absurd (false≢true q)

pub undo_share : (m : Measures) (s : Storage) (seg : List Block) (k : ℕ) → k < length s.records → equals with_blanks s seg (get_or s.records k []) ≡ true → (stored_mask seg ≡ 0 → ⊥)
    → ((i : ℕ) → is_held (get_or (get_or s.records k []) i null_position) ≡ true → 0 < count_of (get_or (get_or s.records k []) i null_position)) → undo_record m (share with_blanks s seg k).storage k ≡ s
unfolding undo_record undo_in share
undo_share m s seg k h q n f =
    let rec : Segment = get_or s.records k [] in
    let back : map one_less (get_or (set s.records k (map one_more rec)) k []) ≡ rec = rw (get_or-set_same s.records k (map one_more rec) [] h) (less_more rec) in
    rw (back, some_count s seg rec f q n, set-set s.records k (map one_more rec) rec, set-get_or s.records k [])

-- ---- a free record that is filled

pub free_none : (ps : Segment) → is_free ps ≡ true → cells_of ps ≡ []
unfolding is_free every cells_of
free_none [] h = refl
free_none (null_position ∷ ps) h = free_none ps h
free_none (blank_position ∷ ps) h = absurd (false≢true h)
free_none (held c n ∷ ps) h = absurd (false≢true h)
free_none (removed ∷ ps) h = absurd (false≢true h)

free_replicate : (ps : Segment) (n : ℕ) → length ps ≡ n → is_free ps ≡ true → ps ≡ replicate n null_position
unfolding is_free every
free_replicate [] zero e h = refl
free_replicate [] (suc n) e h = absurd (omega arith)
free_replicate (p ∷ ps) zero e h = absurd (omega arith)
free_replicate (null_position ∷ ps) (suc n) e h = ap (λ (l : Segment). null_position ∷ l) (free_replicate ps n (omega arith) h)
free_replicate (blank_position ∷ ps) (suc n) e h = absurd (false≢true h)
free_replicate (held c k ∷ ps) (suc n) e h = absurd (false≢true h)
free_replicate (removed ∷ ps) (suc n) e h = absurd (false≢true h)

bare_cells : (b : Block) (ps : Segment) → cells_of (bare_position b ∷ ps) ≡ cells_of ps
unfolding cells_of
bare_cells b ps = by_bare_position b (λ (p : Position). cells_of (p ∷ ps) ≡ cells_of ps) refl refl

-- a cell that the new positions do not name stays
pub sets_other : (cells : List Block) (c : ℕ) (seg : List Block) (x : ℕ) → is_in x (cells_of (new_positions with_blanks c seg)) ≡ false → get_or (sets cells c (stored_blocks with_blanks seg)) x [] ≡ get_or cells x []
unfolding new_positions cells_of stored_blocks keep
sets_other cells c [] x h = refl
sets_other cells c (b ∷ seg) x h = go (is_bare with_blanks b) (λ l d q. sets_other l d seg x q) h
  where
    go : (t : Bool) → ((l : List Block) (d : ℕ) → is_in x (cells_of (new_positions with_blanks d seg)) ≡ false → get_or (sets l d (stored_blocks with_blanks seg)) x [] ≡ get_or l x [])
        → is_in x (cells_of (cond t (bare_position b) (held c 1) ∷ new_positions with_blanks (cond t c (suc c)) seg)) ≡ false
        → get_or (sets cells c (cond (not t) (b ∷ stored_blocks with_blanks seg) (stored_blocks with_blanks seg))) x [] ≡ get_or cells x []
    go true r h = r cells c (rw (bare_cells b (new_positions with_blanks c seg)) at h)
    go false r h = step (eqb x c) refl (unfold is_in in h)
      where
        step : (t : Bool) → eqb x c ≡ t → cond (eqb x c) true (is_in x (cells_of (new_positions with_blanks (suc c) seg))) ≡ false → get_or (sets (set cells c b) (suc c) (stored_blocks with_blanks seg)) x [] ≡ get_or cells x []
        step true e q = absurd (false≢true (sym (rw e at q)))
        step false e q = r (set cells c b) (suc c) (rw e at q) ∙ get_or-set_other cells c x b [] (eqb-false x c e)

-- a cell that they name is one of the run's
new_within : (c : ℕ) (seg : List Block) (x : ℕ) → is_in x (cells_of (new_positions with_blanks c seg)) ≡ true → (c ≤ x) × (x < c + length (stored_blocks with_blanks seg))
unfolding new_positions cells_of is_in
new_within c [] x h = absurd (false≢true h)
new_within c (b ∷ seg) x h = go (is_bare with_blanks b) refl (λ d q. new_within d seg x q) h
  where
    go : (t : Bool) → is_bare with_blanks b ≡ t → ((d : ℕ) → is_in x (cells_of (new_positions with_blanks d seg)) ≡ true → (d ≤ x) × (x < d + length (stored_blocks with_blanks seg)))
        → is_in x (cells_of (cond t (bare_position b) (held c 1) ∷ new_positions with_blanks (cond t c (suc c)) seg)) ≡ true → (c ≤ x) × (x < c + length (stored_blocks with_blanks (b ∷ seg)))
    go true e r h =
        let z : stored_bit b ≡ 0 = ap {B = ℕ} (λ (t : Bool). cond (not t) 1 0) e in
        let q = r c (rw (bare_cells b (new_positions with_blanks c seg)) at h) in (q.0, omega (arith, q.1, kept_count b seg))
    go false e r h = step (eqb x c) refl h
      where
        z : stored_bit b ≡ 1
        z = ap {B = ℕ} (λ (t : Bool). cond (not t) 1 0) e

        step : (t : Bool) → eqb x c ≡ t → cond (eqb x c) true (is_in x (cells_of (new_positions with_blanks (suc c) seg))) ≡ true → (c ≤ x) × (x < c + length (stored_blocks with_blanks (b ∷ seg)))
        step true q h = let y : x ≡ c = eqb-true x c q in (omega arith, omega (arith, z, kept_count b seg))
        step false q h = let w = r (suc c) (rw q at h) in (omega (arith, w.0), omega (arith, w.1, z, kept_count b seg))

length_clear : (bytes : ℕ) (cells : List Block) (cs : List ℕ) → length (clear_cells bytes cells cs) ≡ length cells
unfolding clear_cells
length_clear bytes cells [] = refl
length_clear bytes cells (c ∷ cs) = length_clear bytes (set cells c (zero_block bytes)) cs ∙ length-set cells c (zero_block bytes)

clear_at : (bytes : ℕ) (cells : List Block) (cs : List ℕ) (x : ℕ) → x < length cells → get_or (clear_cells bytes cells cs) x [] ≡ cond (is_in x cs) (zero_block bytes) (get_or cells x [])
unfolding clear_cells is_in
clear_at bytes cells [] x h = refl
clear_at bytes cells (c ∷ cs) x h = clear_at bytes (set cells c (zero_block bytes)) cs x (rw (length-set cells c (zero_block bytes)) h) ∙ go (eqb x c) refl (is_in x cs)
  where
    go : (t : Bool) → eqb x c ≡ t → (u : Bool) → cond u (zero_block bytes) (get_or (set cells c (zero_block bytes)) x []) ≡ cond (cond (eqb x c) true u) (zero_block bytes) (get_or cells x [])
    go true e true = rw e
    go true e false = rw (e, ← eqb-true x c e) (get_or-set_same cells x (zero_block bytes) [] h)
    go false e true = rw e
    go false e false = rw e (get_or-set_other cells c x (zero_block bytes) [] (eqb-false x c e))

new_zero : (c : ℕ) (bs : List Block) → all_zero (map count_of (map one_less (new_positions with_blanks c bs))) ≡ true
unfolding new_positions all_zero every
new_zero c [] = refl
new_zero c (x ∷ bs) = go (is_bare with_blanks x) (λ d. new_zero d bs)
  where
    go : (t : Bool) → ((d : ℕ) → all_zero (map count_of (map one_less (new_positions with_blanks d bs))) ≡ true)
        → all_zero (map count_of (map one_less (cond t (bare_position x) (held c 1) ∷ new_positions with_blanks (cond t c (suc c)) bs))) ≡ true
    go true r = by_bare_position x (λ (p : Position). all_zero (map count_of (map one_less (p ∷ new_positions with_blanks c bs))) ≡ true) (r c) (r c)
    go false r = r (suc c)

module _ (m : Measures) (s : Storage) (x₀ : Exact s) (whole : Each (λ (b : Block). length b ≡ m.block_bytes) s.cells) (seg : List Block)
    (run : Run) (ok : RunOk (Free s) (length (stored_blocks with_blanks seg)) run) where
  abbrev bytes : ℕ
  bytes = m.block_bytes

  pub room : 0 < length (stored_blocks with_blanks seg) → run.start + length (stored_blocks with_blanks seg) ≤ length s.cells
  room z = let f = ok.free (length (stored_blocks with_blanks seg) - 1) (omega (arith, ok.enough)) in omega (arith, f.inside)

  cleared : (clear_cells bytes) (sets s.cells run.start (stored_blocks with_blanks seg)) (cells_of (new_positions with_blanks run.start seg)) ≡ s.cells
  cleared =
      let new : List ℕ = cells_of (new_positions with_blanks run.start seg) in
      let n : length (clear_cells bytes (sets s.cells run.start (stored_blocks with_blanks seg)) new) ≡ length s.cells = length_clear bytes (sets s.cells run.start (stored_blocks with_blanks seg)) new ∙ length-sets s.cells run.start (stored_blocks with_blanks seg) in
      ext_get_or [] (clear_cells bytes (sets s.cells run.start (stored_blocks with_blanks seg)) new) s.cells n
      (λ x h.
      let hx : x < length s.cells = omega (arith, n) in
      clear_at bytes (sets s.cells run.start (stored_blocks with_blanks seg)) new x (omega (arith, length-sets s.cells run.start (stored_blocks with_blanks seg))) ∙ go x hx (is_in x new) refl)
    where
      go : (x : ℕ) → x < length s.cells → (t : Bool) → is_in x (cells_of (new_positions with_blanks run.start seg)) ≡ t
          → cond t (zero_block bytes) (get_or (sets s.cells run.start (stored_blocks with_blanks seg)) x []) ≡ get_or s.cells x []
      go x hx true e =
          let w = new_within run.start seg x e in
          let f = ok.free (x - run.start) (omega (arith, w.0, w.1, ok.enough)) in
          let y : run.start + (x - run.start) ≡ x = omega (arith, w.0) in
          sym (unnamed_zero s x₀ m x (each_at (λ (b : Block). length b ≡ bytes) [] s.cells whole x hx) (rw y at f.unnamed))
      go x hx false e = sets_other s.cells run.start seg x e

  pub undo_write : (k : ℕ) → k < length s.records → length (get_or s.records k []) ≡ m.segment_blocks → is_free (get_or s.records k []) ≡ true → undo_record m (write with_blanks s seg k run).storage k ≡ s
  unfolding undo_record undo_in write free_record free_segment
  undo_write k h sized fr =
      let new : Segment = new_positions with_blanks run.start seg in
      let old : replicate m.segment_blocks null_position ≡ get_or s.records k [] = sym (free_replicate (get_or s.records k []) m.segment_blocks sized fr) in
      rw (get_or-set_same s.records k new [] h, new_zero run.start seg, less_cells new, cleared, set-set s.records k new (replicate m.segment_blocks null_position), old, set-get_or s.records k [])
