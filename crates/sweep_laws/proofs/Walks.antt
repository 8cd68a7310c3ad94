-- The walks over a record's cells, on the cells of a storage.
use mathlib.Core.Path.{◌≡◌, refl, sym, ap, ◌∙◌}
use mathlib.Core.Bool.{Bool, true, false, cond, not}
use mathlib.Core.List.{List, [], ◌∷◌, ◌++◌, map}
use Prim.Native.Nat.{ℕ, zero, suc, ◌+◌, ◌*◌, ◌/◌, ◌%◌, ◌≤◌, ◌<◌}
use native.Mathlib.Nat.{add-zero}
use native.Mathlib.Numerals.{add-one}
use native.Mathlib.Omega.{arith}
use lib.ListN.{length, get_or, set, take, drop, replicate, length-set, length-replicate}
use lib.Seq.{sets, drop-drop, get_or-set_other}
use Rattle.lists.specs.Each.{Each}
use Rattle.lists.specs.Lists.{keep, count, all_zero}
use Rattle.lists.specs.Masks.{mask_of}
use Rattle.lists.specs.Rows.{joined}
use Rattle.lists.proofs.Each.{each_at, each_set}
use Rattle.lists.proofs.Masks.{mask_odd, mask_half}
use Rattle.lists.proofs.Rows.{fill_zeros, zeros_fill}
use Rattle.lists.proofs.Sets.{map_set}
use Rattle.model.specs.Image.{zero_block}
use Rattle.model.specs.Records.{is_held, cell_of, cells_of}
use Rattle.model.specs.State.{Block, Position, null_position, blank_position, held, removed, Segment}
use Rattle.model.specs.Sound.{is_filled}
use Rattle.model.specs.Sweep.{is_unreferenced, is_referenced, clear_cells}
use Rattle.pool.specs.Pool.{copy_to, clear_at, take_at, free_at, choose, along}
use Rattle.lists.proofs.Joins.{row_joined, paste_joined}

-- the cells of the positions that pass a test
unfoldable pub picked : (Position → Bool) → Segment → List ℕ
picked f [] = []
picked f (p ∷ ps) = cond (f p) (cell_of p ∷ picked f ps) (picked f ps)

-- a step for each cell of a list, with numbers from `at` on
unfoldable pub fold : {S : Type 0} → (S → ℕ → ℕ → S) → ℕ → List ℕ → S → S
fold step at [] s = s
fold step at (c ∷ cs) s = fold step (at + 1) cs (step s c at)

along_next : {S : Type 0} (step : S → ℕ → ℕ → S) (m q b at c : ℕ) (cs : List ℕ) (s : S) → m % 2 ≡ b → m / 2 ≡ q
    → along step m at (c ∷ cs) s ≡ along step q (at + b) cs (choose b s (step s c at))
unfolding along
along_next step m q b at c cs s e f = rw (e, f)

pub along_picked : {S : Type 0} (step : S → ℕ → ℕ → S) (f : Position → Bool) (seg : Segment) (at : ℕ) (s : S)
    → along step (mask_of f seg) at (map cell_of seg) s ≡ fold step at (picked f seg) s
unfolding along picked fold
along_picked step f [] at s = refl
along_picked {S} step f (p ∷ ps) at s =
    along_next step (mask_of f (p ∷ ps)) (mask_of f ps) (cond (f p) 1 0) at (cell_of p) (map cell_of ps) s (mask_odd f p ps) (mask_half f p ps) ∙ (go (f p) (λ at s. along_picked step f ps at s))
  where
    go : (b : Bool) → ((at : ℕ) (s : S) → along step (mask_of f ps) at (map cell_of ps) s ≡ fold step at (picked f ps) s)
        → along step (mask_of f ps) (at + cond b 1 0) (map cell_of ps) (choose (cond b 1 0) s (step s (cell_of p) at)) ≡ fold step at (cond b (cell_of p ∷ picked f ps) (picked f ps)) s
    go true e = e (at + 1) (step s (cell_of p) at)
    go false e = rw (add-zero at) (e at s)

pub held_picked : (seg : Segment) → cells_of seg ≡ picked is_held seg
unfolding cells_of picked
held_picked [] = refl
held_picked (null_position ∷ ps) = held_picked ps
held_picked (blank_position ∷ ps) = held_picked ps
held_picked (held c n ∷ ps) = rw (held_picked ps)
held_picked (removed ∷ ps) = held_picked ps

pub unreferenced_picked : (seg : Segment) → cells_of (keep is_unreferenced seg) ≡ picked is_unreferenced seg
unfolding cells_of picked keep
unreferenced_picked [] = refl
unreferenced_picked (null_position ∷ ps) = unreferenced_picked ps
unreferenced_picked (blank_position ∷ ps) = unreferenced_picked ps
unreferenced_picked (held c zero ∷ ps) = rw (unreferenced_picked ps)
unreferenced_picked (held c (suc n) ∷ ps) = unreferenced_picked ps
unreferenced_picked (removed ∷ ps) = unreferenced_picked ps

pub referenced_picked : (seg : Segment) → cells_of (keep is_referenced seg) ≡ picked is_referenced seg
unfolding cells_of picked keep
referenced_picked [] = refl
referenced_picked (null_position ∷ ps) = referenced_picked ps
referenced_picked (blank_position ∷ ps) = referenced_picked ps
referenced_picked (held c zero ∷ ps) = referenced_picked ps
referenced_picked (held c (suc n) ∷ ps) = rw (referenced_picked ps)
referenced_picked (removed ∷ ps) = referenced_picked ps

-- as many as pass the test
pub length_picked : (f : Position → Bool) (seg : Segment) → length (picked f seg) ≡ count f seg
unfolding picked count
length_picked f [] = refl
length_picked f (p ∷ ps) = go (f p) (length_picked f ps)
  where
    go : (b : Bool) → length (picked f ps) ≡ count f ps → length (cond b (cell_of p ∷ picked f ps) (picked f ps)) ≡ cond b 1 0 + count f ps
    go true e = omega arith
    go false e = omega arith

-- ---- on the cells

abbrev pub Sized : ℕ → List Block → Type 0
Sized size cells = Each (λ (b : Block). length b ≡ size) cells

abbrev pub bytes : List Block → List ℕ
bytes cells = joined cells

zero_size : (size : ℕ) → length (zero_block size) ≡ size
unfolding zero_block
zero_size size = length-replicate size 0

zero_filled : (size : ℕ) → is_filled (zero_block size) ≡ false
unfolding zero_block
zero_filled size = ap not (ap all_zero (sym (fill_zeros size)) ∙ zeros_fill size)

put_cell : (size : ℕ) (cells : List Block) → Sized size cells → (c : ℕ) (b : Block) → c < length cells
    → take (c * size) (bytes cells) ++ (b ++ drop (c * size + size) (bytes cells)) ≡ bytes (set cells c b)
put_cell size cells e c b h = rw (← drop-drop size (c * size) (bytes cells)) (paste_joined size cells e c b h)

clear_one : (size : ℕ) (cells : List Block) → Sized size cells → (c at : ℕ) → c < length cells → clear_at size (bytes cells) c at ≡ bytes (set cells c (zero_block size))
unfolding clear_at zero_block
clear_one size cells e c at h = put_cell size cells e c (replicate size 0) h

copy_one : (size : ℕ) (cells : List Block) → Sized size cells → (c at : ℕ) → c < length cells → at < length cells
    → copy_to size (bytes cells) c at ≡ bytes (set cells at (get_or cells c []))
unfolding copy_to
copy_one size cells e c at h h' = rw (row_joined size cells e c h) (put_cell size cells e at (get_or cells c []) h')

pub sized_set : (size : ℕ) (cells : List Block) → Sized size cells → (c : ℕ) (b : Block) → length b ≡ size → Sized size (set cells c b)
sized_set size cells e c b h = each_set (λ (x : Block). length x ≡ size) cells c b e h

pub fold_clear : (size : ℕ) (n : ℕ) (cs : List ℕ) (cells : List Block) (at : ℕ) → length cells ≡ n → Sized size cells → Each (λ (c : ℕ). c < n) cs
    → fold (clear_at size) at cs (bytes cells) ≡ bytes (clear_cells size cells cs)
unfolding fold clear_cells
fold_clear size n [] cells at l e p = refl
fold_clear size n (c ∷ cs) cells at l e p =
    rw (clear_one size cells e c at (omega (arith, p.0)))
    (fold_clear size n cs (set cells c (zero_block size)) (at + 1) (length-set cells c _ ∙ l) (sized_set size cells e c (zero_block size) (zero_size size)) p.1)

pub sized_clear : (size : ℕ) (cs : List ℕ) (cells : List Block) → Sized size cells → Sized size (clear_cells size cells cs)
unfolding clear_cells
sized_clear size [] cells e = e
sized_clear size (c ∷ cs) cells e = sized_clear size cs (set cells c (zero_block size)) (sized_set size cells e c (zero_block size) (zero_size size))

pub fold_free : (size : ℕ) (cs : List ℕ) (cells : List Block) (at : ℕ) → fold free_at at cs (map is_filled cells) ≡ map is_filled (clear_cells size cells cs)
unfolding fold clear_cells
fold_free size [] cells at = refl
fold_free size (c ∷ cs) cells at =
    let e : set (map is_filled cells) c false ≡ map is_filled (set cells c (zero_block size)) =
    sym (map_set is_filled cells c (zero_block size) ∙ ap (set (map is_filled cells) c) (zero_filled size)) in
    rw e (fold_free size cs (set cells c (zero_block size)) (at + 1))

-- a cell to copy: it is there, holds what it held at first, and is none of the n cells from `at` on
pub record Source (first cells : List Block) (at n c : ℕ) : Type 0 where
  pub inside : c < length cells
  pub same : get_or cells c [] ≡ get_or first c []
  pub apart : (j : ℕ) → j < n → c ≡ at + j → ⊥

source_next : (first cells : List Block) (at n : ℕ) (b : Block) (c : ℕ) → Source first cells at (suc n) c → Source first (set cells at b) (at + 1) n c
source_next first cells at n b c s = record {
  inside = omega (arith, s.inside, length-set cells at b);
  same = get_or-set_other cells at c b [] (λ e. s.apart 0 (omega arith) (e ∙ sym (add-zero at))) ∙ s.same;
  apart = λ j h e. s.apart (suc j) (omega arith) (omega arith);
}

sources_next : (first cells : List Block) (at n : ℕ) (b : Block) (cs : List ℕ) → Each (Source first cells at (suc n)) cs → Each (Source first (set cells at b) (at + 1) n) cs
sources_next first cells at n b [] e = tt
sources_next first cells at n b (c ∷ cs) e = (source_next first cells at n b c e.0, sources_next first cells at n b cs e.1)

pub fold_copy : (size : ℕ) (first : List Block) (cs : List ℕ) (cells : List Block) (at : ℕ) → Sized size cells → Each (Source first cells at (length cs)) cs → at + length cs ≤ length cells
    → fold (copy_to size) at cs (bytes cells) ≡ bytes (sets cells at (map (λ c. get_or first c []) cs))
unfolding fold
fold_copy size first [] cells at e p l = refl
fold_copy size first (c ∷ cs) cells at e p l =
    let b : Block = get_or first c [] in
    let k : get_or cells c [] ≡ b = p.0.same in
    let lb : length b ≡ size = sym (ap length k) ∙ each_at (λ (x : Block). length x ≡ size) [] cells e c p.0.inside in
    rw (copy_one size cells e c at p.0.inside (omega arith), k)
    (fold_copy size first cs (set cells at b) (at + 1) (sized_set size cells e at b lb) (sources_next first cells at (length cs) b cs p.1) (omega (arith, length-set cells at b))
    ∙ rw (add-one at))

pub sized_sets : (size : ℕ) (bs cells : List Block) (at : ℕ) → Sized size cells → Sized size bs → Sized size (sets cells at bs)
sized_sets size [] cells at e f = e
sized_sets size (b ∷ bs) cells at e f = sized_sets size bs (set cells at b) (suc at) (sized_set size cells e at b f.0) f.1

pub fold_take : (cs : List ℕ) (bs cells : List Block) (at : ℕ) → length bs ≡ length cs → Each (λ (b : Block). is_filled b ≡ true) bs
    → fold take_at at cs (map is_filled cells) ≡ map is_filled (sets cells at bs)
unfolding fold
fold_take [] [] cells at l e = refl
fold_take [] (b ∷ bs) cells at l e = absurd (omega arith)
fold_take (c ∷ cs) [] cells at l e = absurd (omega arith)
fold_take (c ∷ cs) (b ∷ bs) cells at l e =
    let q : set (map is_filled cells) at true ≡ map is_filled (set cells at b) = sym (map_set is_filled cells at b ∙ ap (set (map is_filled cells) at) e.0) in
    rw q (fold_take cs bs (set cells at b) (at + 1) (omega arith) e.1 ∙ rw (add-one at))
