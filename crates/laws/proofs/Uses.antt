-- How often a cell is named, as a number: the invariants on cells become equations that `omega` adds up.
use mathlib.Core.Path.{◌≡◌, refl, sym, ap, ◌∙◌, subst}
use mathlib.Core.Bool.{Bool, true, false, cond, not}
use mathlib.Core.List.{List, [], ◌∷◌, map}
use Prim.Native.Nat.{ℕ, zero, suc, ◌+◌, ◌<◌}
use native.Mathlib.Nat.{not-suc-le-zero, le_of_suc-le-suc, suc-ne-zero}
use native.Mathlib.Omega.{arith}
use lib.ListN.{length, get_or, set}
use lib.Seq.{get_or-set_other}
use lib.Dec.{eqb}
use borrow.Author.Tests.{eqb-true, eqb-false}
use Rattle.lists.specs.Lists.{counted, every, keep, count, all_zero, uses}
use Rattle.lists.specs.Rows.{joined}
use Rattle.model.specs.Measures.{Measures}
use Rattle.model.specs.State.{Block, null_position, blank_position, held, removed, Segment}
use Rattle.model.specs.Image.{zero_block}
use Rattle.laws.specs.Storage.{filled_bit}
use Rattle.model.specs.Records.{cells_of, named_cells, is_held}
use Rattle.model.specs.Sweep.{clear_cells, is_unreferenced, is_referenced, struck, moved}
use Rattle.lists.proofs.Uses.{numbers, uses_append, uses_here, uses_other}
use Rattle.lists.proofs.Same.{zeros_zero}

-- a record in another's place: what it names comes, what the other named goes
pub named_set : (c : ℕ) (segs : List Segment) (k : ℕ) (seg : Segment) → k < length segs
    → uses c (named_cells (set segs k seg)) + uses c (cells_of (get_or segs k [])) ≡ uses c (named_cells segs) + uses c (cells_of seg)
unfolding named_cells joined
named_set c [] k seg h = absurd (not-suc-le-zero h)
named_set c (s ∷ segs) zero seg h =
    omega (arith, uses_append c (cells_of seg) (joined (map cells_of segs)), uses_append c (cells_of s) (joined (map cells_of segs)))
named_set c (s ∷ segs) (suc k) seg h =
    omega (arith, named_set c segs k seg (le_of_suc-le-suc h), uses_append c (cells_of s) (joined (map cells_of (set segs k seg))), uses_append c (cells_of s) (joined (map cells_of segs)))

-- ---- cells that are cleared

zero_bit : (m : Measures) → filled_bit (zero_block m.block_bytes) ≡ 0
unfolding filled_bit zero_block
zero_bit m = ap (λ (b : Bool). cond (not b) 1 0) (zeros_zero m.block_bytes)

pub nothing_bit : filled_bit [] ≡ 0
unfolding filled_bit all_zero every
nothing_bit = refl

-- a store of zeros leaves a zero cell zero
set_zero : (m : Measures) (cells : List Block) (x c : ℕ) → filled_bit (get_or cells c []) ≡ 0 → filled_bit (get_or (set cells x (zero_block m.block_bytes)) c []) ≡ 0
set_zero m [] x c h = h
set_zero m (b ∷ cells) zero zero h = zero_bit m
set_zero m (b ∷ cells) zero (suc c) h = h
set_zero m (b ∷ cells) (suc x) zero h = h
set_zero m (b ∷ cells) (suc x) (suc c) h = set_zero m cells x c h

set_same_zero : (m : Measures) (cells : List Block) (c : ℕ) → filled_bit (get_or (set cells c (zero_block m.block_bytes)) c []) ≡ 0
set_same_zero m [] c = nothing_bit
set_same_zero m (b ∷ cells) zero = zero_bit m
set_same_zero m (b ∷ cells) (suc c) = set_same_zero m cells c

clear_zero : (m : Measures) (cs : List ℕ) (cells : List Block) (c : ℕ) → filled_bit (get_or cells c []) ≡ 0 → filled_bit (get_or (clear_cells m.block_bytes cells cs) c []) ≡ 0
unfolding clear_cells
clear_zero m [] cells c h = h
clear_zero m (x ∷ cs) cells c h = clear_zero m cs (set cells x (zero_block m.block_bytes)) c (set_zero m cells x c h)

-- a cell of the list is zero afterwards, and any other is as it was
pub clear_in : (m : Measures) (cs : List ℕ) (cells : List Block) (c : ℕ) → 0 < uses c cs → filled_bit (get_or (clear_cells m.block_bytes cells cs) c []) ≡ 0
unfolding clear_cells uses count
clear_in m [] cells c h = absurd (not-suc-le-zero h)
clear_in m (x ∷ cs) cells c h = go (eqb c x) refl (λ b. clear_in m cs (set cells x (zero_block m.block_bytes)) c b)
  where
    go : (b : Bool) → eqb c x ≡ b → (0 < uses c cs → filled_bit (get_or (clear_cells m.block_bytes (set cells x (zero_block m.block_bytes)) cs) c []) ≡ 0)
        → filled_bit (get_or (clear_cells m.block_bytes (set cells x (zero_block m.block_bytes)) cs) c []) ≡ 0
    go true e r =
        clear_zero m cs (set cells x (zero_block m.block_bytes)) c
        (subst (λ (y : ℕ). filled_bit (get_or (set cells y (zero_block m.block_bytes)) c []) ≡ 0) (eqb-true c x e) (set_same_zero m cells c))
    go false e r = r (subst (λ (n : ℕ). 0 < n) (uses_other c x cs (eqb-false c x e)) h)

pub clear_out : (m : Measures) (cs : List ℕ) (cells : List Block) (c : ℕ) → uses c cs ≡ 0 → get_or (clear_cells m.block_bytes cells cs) c [] ≡ get_or cells c []
unfolding clear_cells uses count
clear_out m [] cells c h = refl
clear_out m (x ∷ cs) cells c h = go (eqb c x) refl (λ e. clear_out m cs (set cells x (zero_block m.block_bytes)) c e)
  where
    go : (b : Bool) → eqb c x ≡ b → (uses c cs ≡ 0 → get_or (clear_cells m.block_bytes (set cells x (zero_block m.block_bytes)) cs) c [] ≡ get_or (set cells x (zero_block m.block_bytes)) c [])
        → get_or (clear_cells m.block_bytes (set cells x (zero_block m.block_bytes)) cs) c [] ≡ get_or cells c []
    go true e r = absurd (suc-ne-zero (uses c cs) (omega (arith, h, ap (λ (y : ℕ). uses c (y ∷ cs)) (eqb-true c x e), uses_here c cs)))
    go false e r = r (sym (uses_other c x cs (eqb-false c x e)) ∙ h) ∙ get_or-set_other cells x c (zero_block m.block_bytes) [] (eqb-false c x e)

-- ---- a run of stores

-- ---- consecutive numbers

-- ---- the cells of a record that go and that stay

unfoldable pub referenced : Segment → List ℕ
referenced seg = cells_of (keep is_referenced seg)

unfoldable pub unreferenced : Segment → List ℕ
unreferenced seg = cells_of (keep is_unreferenced seg)

pub uses_split : (c : ℕ) (seg : Segment) → uses c (cells_of seg) ≡ uses c (unreferenced seg) + uses c (referenced seg)
unfolding uses count referenced unreferenced cells_of keep
uses_split c [] = refl
uses_split c (null_position ∷ seg) = uses_split c seg
uses_split c (blank_position ∷ seg) = uses_split c seg
uses_split c (held b zero ∷ seg) = omega (arith, uses_split c seg)
uses_split c (held b (suc n) ∷ seg) = omega (arith, uses_split c seg)
uses_split c (removed ∷ seg) = uses_split c seg

pub struck_cells : (seg : Segment) → cells_of (map struck seg) ≡ referenced seg
unfolding referenced cells_of keep
struck_cells [] = refl
struck_cells (null_position ∷ seg) = struck_cells seg
struck_cells (blank_position ∷ seg) = struck_cells seg
struck_cells (held b zero ∷ seg) = struck_cells seg
struck_cells (held b (suc n) ∷ seg) = ap {B = List ℕ} (λ r. b ∷ r) (struck_cells seg)
struck_cells (removed ∷ seg) = struck_cells seg

pub moved_cells : (seg : Segment) (at : ℕ) → cells_of (moved at seg) ≡ numbers at (length (referenced seg))
unfolding referenced cells_of keep moved numbers counted
moved_cells [] at = refl
moved_cells (null_position ∷ seg) at = moved_cells seg at
moved_cells (blank_position ∷ seg) at = moved_cells seg at
moved_cells (held b zero ∷ seg) at = moved_cells seg at
moved_cells (held b (suc n) ∷ seg) at = ap {B = List ℕ} (λ r. at ∷ r) (moved_cells seg (suc at))
moved_cells (removed ∷ seg) at = moved_cells seg at

pub referenced_count : (seg : Segment) → count is_unreferenced seg + length (referenced seg) ≡ count is_held seg
unfolding referenced cells_of keep count
referenced_count [] = refl
referenced_count (null_position ∷ seg) = omega (arith, referenced_count seg)
referenced_count (blank_position ∷ seg) = omega (arith, referenced_count seg)
referenced_count (held b zero ∷ seg) = omega (arith, referenced_count seg)
referenced_count (held b (suc n) ∷ seg) = omega (arith, referenced_count seg)
referenced_count (removed ∷ seg) = omega (arith, referenced_count seg)
