-- The occupied cells of a sound state: not zero, inside the pool, each named once.
use mathlib.Core.Path.{◌≡◌, refl, sym, ap, ◌∙◌, subst}
use mathlib.Core.Logic.{◌↔◌}
use mathlib.Core.Bool.{Bool, true, false}
use mathlib.Core.List.{List, [], ◌∷◌, map}
use Prim.Native.Nat.{ℕ, suc, ◌<◌}
use native.Mathlib.Nat.{not-suc-le-zero, zero-lt-suc}
use native.Mathlib.Omega.{arith}
use lib.ListN.{length, get_or, get_or-eq_default}
use lib.Dec.{eqb, ltb}
use borrow.Author.Tests.{eqb-true, ltb-true, ltb-false}
use Rattle.lists.specs.Lists.{count, counted, is_in, all_zero, uses}
use Rattle.lists.specs.Rows.{joined}
use Rattle.lists.proofs.Uses.{uses_append, count_total, in_uses, total_uses, uses_in}
use Rattle.model.specs.Measures.{Shape}
use Rattle.model.specs.State.{null_position, blank_position, held, removed, Segment, Storage, State}
use Rattle.model.specs.Records.{is_held, cell_of, cells_of, cell_at, named_cells}
use Rattle.model.specs.Sound.{is_sound}
use Rattle.laws.proofs.Uses.{nothing_bit}
use Rattle.laws.specs.Storage.{filled_bit, Exact}
use Rattle.laws.proofs.Sweep.{bit_most}
use Rattle.laws.proofs.Serves.{Valid, sound_valid}
use Rattle.laws.proofs.Place.{bit_one}

pub named_full : (a : Storage) → Exact a → (c : ℕ) → (is_in c (named_cells a.records) ≡ true) ↔ (all_zero (cell_at a c) ≡ false)
unfolding cell_at
named_full a x c = (
  λ h. bit_one (get_or a.cells c []) (subst (λ (n : ℕ). 0 < n) (x c) (in_uses c (named_cells a.records) h)),
  λ h. uses_in c (named_cells a.records) (subst (λ (n : ℕ). 0 < n) (sym (x c)) (unfold filled_bit in rw h (zero-lt-suc 0))),
)

pub inside_any : (a : Storage) → Exact a → (c : ℕ) → 0 < uses c (named_cells a.records) → c < length a.cells
inside_any a x c h = go (ltb c (length a.cells)) refl
  where
    go : (t : Bool) → ltb c (length a.cells) ≡ t → c < length a.cells
    go true e = ltb-true c (length a.cells) e
    go false e =
        absurd (not-suc-le-zero (subst (λ (n : ℕ). 0 < n)
        (x c ∙ ap filled_bit (get_or-eq_default a.cells [] (ltb-false c (length a.cells) e)) ∙ nothing_bit) h))

pub named_inside : (s : Shape) (st : State) → is_sound s st ≡ true → (c : ℕ) → is_in c (named_cells st.storage.records) ≡ true → c < s.capacities.cells
named_inside s st h c e =
    let valid : Valid s st = sound_valid s st h in
    subst (λ (n : ℕ). c < n) valid.cell_count (inside_any st.storage valid.exact c (in_uses c (named_cells st.storage.records) e))

-- each occupied cell is named once
pub named_count : (s : Shape) (st : State) → is_sound s st ≡ true
    → length (named_cells st.storage.records) ≡ count (λ c. is_in c (named_cells st.storage.records)) (counted (λ c. c) 0 s.capacities.cells)
named_count s st h =
    let v : Valid s st = sound_valid s st h in
    let named : List ℕ = named_cells st.storage.records in
    sym (count_total named (λ c. omega (arith, v.exact c, bit_most (get_or st.storage.cells c []))) (counted (λ c. c) 0 s.capacities.cells)
    ∙ total_uses s.capacities.cells named (λ c u. named_inside s st h c (uses_in c named u)))

-- ---- what names a cell

-- the record and the position that name a cell
pub record_of : (c : ℕ) (segs : List Segment) → 0 < uses c (named_cells segs) → (k : ℕ) × (0 < uses c (cells_of (get_or segs k [])))
unfolding named_cells joined
record_of c [] h = unfold uses count in absurd (not-suc-le-zero h)
record_of c (seg ∷ segs) h = go (ltb 0 (uses c (cells_of seg))) refl (λ l. record_of c segs l)
  where
    go : (t : Bool) → ltb 0 (uses c (cells_of seg)) ≡ t → (0 < uses c (named_cells segs) → (k : ℕ) × (0 < uses c (cells_of (get_or segs k []))))
        → (k : ℕ) × (0 < uses c (cells_of (get_or (seg ∷ segs) k [])))
    go true e r = (0, ltb-true 0 _ e)
    go false e r =
        let z = r (unfold named_cells in omega (arith, h, ltb-false 0 (uses c (cells_of seg)) e, uses_append c (cells_of seg) (joined (map cells_of segs)))) in
        (suc z.0, z.1)

pub position_of_lem : (c : ℕ) (seg : Segment) → 0 < uses c (cells_of seg)
    → (i : ℕ) × (is_held (get_or seg i null_position) ≡ true) × (cell_of (get_or seg i null_position) ≡ c)
unfolding cells_of uses count
position_of_lem c [] h = absurd (not-suc-le-zero h)
position_of_lem c (null_position ∷ seg) h = let z = position_of_lem c seg h in (suc z.0, z.1, z.2)
position_of_lem c (blank_position ∷ seg) h = let z = position_of_lem c seg h in (suc z.0, z.1, z.2)
position_of_lem c (held d n ∷ seg) h = go (eqb c d) refl (λ l. position_of_lem c seg l)
  where
    go : (t : Bool) → eqb c d ≡ t
        → (0 < uses c (cells_of seg) → (i : ℕ) × (is_held (get_or seg i null_position) ≡ true) × (cell_of (get_or seg i null_position) ≡ c))
        → (i : ℕ) × (is_held (get_or (held d n ∷ seg) i null_position) ≡ true) × (cell_of (get_or (held d n ∷ seg) i null_position) ≡ c)
    go true e r = (0, refl, sym (eqb-true c d e))
    go false e r = let z = r (omega (arith, rw e at h)) in (suc z.0, z.1, z.2)
position_of_lem c (removed ∷ seg) h = let z = position_of_lem c seg h in (suc z.0, z.1, z.2)
