-- The free cells, the run for a need, and the cells that a record names.
use mathlib.Core.Path.{◌≡◌, refl, sym, ap, ◌∙◌}
use mathlib.Core.Bool.{Bool, true, false, cond, not}
use mathlib.Core.List.{List, [], ◌∷◌, map}
use mathlib.Core.Option.{Option, none}
use Prim.Native.Nat.{ℕ, zero, suc, ◌≤◌, ◌<◌}
use native.Mathlib.Nat.{zero-add}
use native.Mathlib.Omega.{arith}
use lib.ListN.{length, get_or, length-map}
use Rattle.lists.specs.Each.{Each}
use Rattle.lists.specs.Lists.{is_in, counted, uses}
use Rattle.lists.proofs.Counted.{counted_is}
use Rattle.lists.proofs.Sets.{map_at}
use Rattle.lists.proofs.Uses.{in_uses, not_in, uses_in}
use Rattle.model.specs.Records.{named_cells, cells_of, cell_of}
use Rattle.model.specs.Runs.{free_cells, Run, scan, find_run}
use Rattle.model.specs.State.{Block, Segment, null_position, blank_position, held, removed, Storage}
use Rattle.model.specs.Sound.{is_filled}
use Rattle.laws.proofs.Named.{inside_any}
use Rattle.laws.proofs.Sweep.{named_one}
use Rattle.laws.specs.Storage.{Exact, filled_bit}

-- ---- the free cells

-- a cell that is named once if it is filled, and not at all if not
pub in_filled : (c : ℕ) (xs : List ℕ) (b : Block) → uses c xs ≡ filled_bit b → is_in c xs ≡ is_filled b
unfolding filled_bit
in_filled c xs b e = go (is_in c xs) refl (is_filled b) e
  where
    go : (i : Bool) → is_in c xs ≡ i → (f : Bool) → uses c xs ≡ cond f 1 0 → i ≡ f
    go true p true q = refl
    go true p false q = absurd (omega (arith, in_uses c xs p))
    go false p true q = absurd (omega (arith, not_in c xs p))
    go false p false q = refl

map_map : (xs : List Block) → map (λ b. not (is_filled b)) xs ≡ map not (map is_filled xs)
map_map [] = refl
map_map (y ∷ xs) = ap (λ (l : List Bool). not (is_filled y) ∷ l) (map_map xs)

pub free_marks : (storage : Storage) → Exact storage → free_cells storage ≡ map not (map is_filled storage.cells)
unfolding free_cells
free_marks storage x =
    let cells : List Block = storage.cells in
    let named : List ℕ = named_cells storage.records in
    ap (counted (λ c. not (is_in c named)) 0) (sym (length-map cells (λ b. not (is_filled b))))
    ∙ counted_is (λ c. not (is_in c named)) false 0 (map (λ b. not (is_filled b)) cells)
    (λ j h. ap (λ (c : ℕ). not (is_in c named)) (zero-add j) ∙ ap not (in_filled j named (get_or cells j []) (x j))
    ∙ sym (map_at (λ b. not (is_filled b)) cells j [] false (omega (arith, length-map cells (λ b. not (is_filled b))))))
    ∙ map_map cells

-- the run that the code finds among the marks is the model's
pub find_same : (storage : Storage) → Exact storage → (need : ℕ) (marks : List Bool) → marks ≡ map is_filled storage.cells → (o : Option Run) → o ≡ scan need (map not marks) 0 0 none
    → find_run storage need ≡ o
unfolding find_run
find_same storage x need marks em o e =
    ap (λ (l : List Bool). scan need l 0 0 none) (free_marks storage x ∙ ap (map not) (sym em)) ∙ sym e

-- ---- the cells that a record names

pub record Named (storage : Storage) (c : ℕ) : Type 0 where
  pub inside : c < length storage.cells
  pub full : is_filled (get_or storage.cells c []) ≡ true
  pub used : 0 < uses c (named_cells storage.records)

pub named_cell : (storage : Storage) → Exact storage → (k c : ℕ) → 0 < uses c (cells_of (get_or storage.records k [])) → Named storage c
named_cell storage x k c h = record { inside = inside_any storage x c used; full = full; used = used }
  where
    used : 0 < uses c (named_cells storage.records)
    used = omega (arith, named_one c storage.records k)

    full : is_filled (get_or storage.cells c []) ≡ true
    full = sym (in_filled c (named_cells storage.records) (get_or storage.cells c []) (x c)) ∙ uses_in c (named_cells storage.records) used

pub cell_range : (n : ℕ) → 1 ≤ n → (seg : Segment) → Each (λ (c : ℕ). c < n) (cells_of seg) → (j : ℕ) → get_or (map cell_of seg) j 0 < n
unfolding cells_of
cell_range n h [] e j = omega arith
cell_range n h (null_position ∷ ps) e zero = omega arith
cell_range n h (blank_position ∷ ps) e zero = omega arith
cell_range n h (null_position ∷ ps) e (suc j) = cell_range n h ps e j
cell_range n h (blank_position ∷ ps) e (suc j) = cell_range n h ps e j
cell_range n h (held c m ∷ ps) e zero = e.0
cell_range n h (held c m ∷ ps) e (suc j) = cell_range n h ps e.1 j
cell_range n h (removed ∷ ps) e zero = omega arith
cell_range n h (removed ∷ ps) e (suc j) = cell_range n h ps e j
