-- Which cells are named, and which are free.
use mathlib.Core.Path.{◌∙◌, ◌≡◌, ap, refl, sym}
use mathlib.Core.Bool.{Bool, cond, false, not, true}
use mathlib.Core.List.{List, [], ◌++◌, ◌∷◌}
use Prim.Native.Nat.{◌<◌, suc, zero, ℕ}
use native.Mathlib.Nat.{le_of_suc-le-suc, not-suc-le-zero, zero-add}
use native.Mathlib.Omega.{arith}
use lib.ListN.{get_or, get_or-replicate, length, length-replicate, replicate, set}
use lib.Seq.{ext_get_or}
use lib.Dec.{eqb}
use Rattle.lists.specs.Lists.{is_in}
use Rattle.lists.specs.Rows.{joined}
use Rattle.lists.proofs.Counted.{counted_at, length_counted}
use Rattle.lists.proofs.Appends.{in_append}
use Rattle.lists.proofs.Sets.{set_false}
use Rattle.model.specs.Records.{cells_of, named_cells}
use Rattle.model.specs.Runs.{free_cells}
use Rattle.model.specs.State.{Block, Segment, Storage}
use Rattle.place_free.specs.Free.{without_cells}
use Rattle.place_free.proofs.Searches.{length_taken}

-- ---- named

-- a record that named no cell is replaced
pub named_new : (c : ℕ) (rs : List Segment) (k : ℕ) (new : Segment) → k < length rs → cells_of (get_or rs k []) ≡ []
    → is_in c (named_cells (set rs k new)) ≡ cond (is_in c (cells_of new)) true (is_in c (named_cells rs))
unfolding named_cells joined
named_new c [] k new h e = absurd (not-suc-le-zero h)
named_new c (r ∷ rs) zero new h e = in_append c (cells_of new) (named_cells rs) ∙ rw e
named_new c (r ∷ rs) (suc k) new h e =
    in_append c (cells_of r) (named_cells (set rs k new))
    ∙ rw (named_new c rs k new (le_of_suc-le-suc h) e) (go (is_in c (cells_of r)) (is_in c (cells_of new)) ∙ ap (λ (t : Bool). cond (is_in c (cells_of new)) true t) (sym (in_append c (cells_of r) (named_cells rs))))
  where
    go : (t u : Bool) → cond t true (cond u true (is_in c (named_cells rs))) ≡ cond u true (cond t true (is_in c (named_cells rs)))
    go true true = refl
    go true false = refl
    go false true = refl
    go false false = refl

-- a record is replaced by one that names the same cells
pub named_same : (rs : List Segment) (k : ℕ) (new : Segment) → cells_of new ≡ cells_of (get_or rs k []) → named_cells (set rs k new) ≡ named_cells rs
unfolding named_cells joined
named_same [] k new e = refl
named_same (r ∷ rs) zero new e = rw e
named_same (r ∷ rs) (suc k) new e = ap (λ (l : List ℕ). cells_of r ++ l) (named_same rs k new e)

-- ---- which cells are free

pub free_at_lem : (s : Storage) (c : ℕ) → c < length s.cells → get_or (free_cells s) c false ≡ not (is_in c (named_cells s.records))
unfolding free_cells
free_at_lem s c h = counted_at (λ j. not (is_in j (named_cells s.records))) 0 (length s.cells) c false h ∙ ap (λ (j : ℕ). not (is_in j (named_cells s.records))) (zero-add c)

pub length_free : (s : Storage) → length (free_cells s) ≡ length s.cells
unfolding free_cells
length_free s = length_counted (λ j. not (is_in j (named_cells s.records))) 0 (length s.cells)

taken_at : (cs : List ℕ) (fs : List Bool) (c : ℕ) → get_or (without_cells cs fs) c false ≡ cond (is_in c cs) false (get_or fs c false)
unfolding without_cells is_in
taken_at [] fs c = refl
taken_at (x ∷ cs) fs c = taken_at cs (set fs x false) c ∙ rw (set_false fs x c) (go (eqb c x) (is_in c cs))
  where
    go : (t u : Bool) → cond u false (cond t false (get_or fs c false)) ≡ cond (cond t true u) false (get_or fs c false)
    go true true = refl
    go true false = refl
    go false true = refl
    go false false = refl

-- all cells are free, then those named are taken
pub free_start : (s : Storage) → without_cells (named_cells s.records) (replicate (length s.cells) true) ≡ free_cells s
free_start s =
    let n : ℕ = length s.cells in
    let l : length (without_cells (named_cells s.records) (replicate n true)) ≡ n = length_taken (named_cells s.records) (replicate n true) ∙ length-replicate n true in
    ext_get_or false (without_cells (named_cells s.records) (replicate n true)) (free_cells s) (l ∙ sym (length_free s))
    (λ c h.
    taken_at (named_cells s.records) (replicate n true) c
    ∙ ap (λ (t : Bool). cond (is_in c (named_cells s.records)) false t) (get_or-replicate n c true false (omega (arith, l)))
    ∙ go (is_in c (named_cells s.records))
    ∙ sym (free_at_lem s c (omega (arith, l))))
  where
    go : (t : Bool) → cond t false true ≡ not t
    go true = refl
    go false = refl

-- a new record's cells are taken
pub free_new : (s : Storage) (k : ℕ) (new : Segment) (cells : List Block) → k < length s.records → cells_of (get_or s.records k []) ≡ [] → length cells ≡ length s.cells
    → without_cells (cells_of new) (free_cells s) ≡ free_cells (record { records = set s.records k new; cells = cells })
free_new s k new cells h e n =
    let t : Storage = record { records = set s.records k new; cells = cells } in
    let l : length (without_cells (cells_of new) (free_cells s)) ≡ length s.cells = length_taken (cells_of new) (free_cells s) ∙ length_free s in
    ext_get_or false (without_cells (cells_of new) (free_cells s)) (free_cells t) (l ∙ sym n ∙ sym (length_free t))
    (λ c q.
    taken_at (cells_of new) (free_cells s) c
    ∙ ap (λ (b : Bool). cond (is_in c (cells_of new)) false b) (free_at_lem s c (omega (arith, l)))
    ∙ go (is_in c (cells_of new)) (is_in c (named_cells s.records))
    ∙ ap not (sym (named_new c s.records k new h e))
    ∙ sym (free_at_lem t c (omega (arith, l))))
  where
    go : (t u : Bool) → cond t false (not u) ≡ not (cond t true u)
    go true u = refl
    go false u = refl

-- the records name what they named
pub free_same : (s : Storage) (rs : List Segment) → named_cells rs ≡ named_cells s.records → free_cells s ≡ free_cells (record { records = rs; cells = s.cells })
unfolding free_cells
free_same s rs e = rw e
