-- Soundness, which is a test, in the equations that the proofs use, and back.
use mathlib.Core.Path.{◌≡◌, refl, sym, ap, ◌∙◌, subst}
use mathlib.Core.Bool.{Bool, true, false, beq}
use mathlib.Core.List.{List, [], ◌∷◌}
use Prim.Native.Nat.{ℕ, zero, suc, ◌+◌, ◌≤◌, ◌<◌, suc-le-suc}
use native.Mathlib.Nat.{zero-add, add-zero, suc-add, add-suc, not-suc-le-zero, le_of_suc-le-suc, zero-lt-suc}
use native.Mathlib.Omega.{arith}
use lib.ListN.{length, get_or, get_or-eq_default}
use lib.Dec.{ltb}
use borrow.Author.Tests.{ltb-true, ltb-false}
use Rattle.lists.specs.Lists.{is_in, uses}
use Rattle.model.specs.State.{Block, Storage}
use Rattle.model.specs.Records.{named_cells}
use Rattle.model.specs.Sound.{has_cells, is_filled, are_filled}
use Rattle.laws.proofs.Uses.{nothing_bit}
use Rattle.laws.specs.Storage.{filled_bit, Exact}
use Rattle.laws.proofs.Sweep.{bit_most}
use Rattle.lists.proofs.Tests.{all_true, clause}
use Rattle.lists.proofs.Uses.{all_below, below_all, beq_by, distinct_most, exact_at, in_uses, most_distinct, not_in, uses_in, uses_not_in}

-- ---- membership as a number

filled_at : (named : List ℕ) (i : ℕ) (cells : List Block) → are_filled named i cells ≡ true → (j : ℕ) → j < length cells
    → beq (is_in (i + j) named) (is_filled (get_or cells j [])) ≡ true
unfolding are_filled
filled_at named i [] h j b = absurd (not-suc-le-zero b)
filled_at named i (x ∷ cells) h zero b = ap (λ (n : ℕ). beq (is_in n named) (is_filled x)) (add-zero i) ∙ clause _ 0 h
filled_at named i (x ∷ cells) h (suc j) b =
    ap (λ (n : ℕ). beq (is_in n named) (is_filled (get_or cells j []))) (add-suc i j ∙ sym (suc-add i j))
    ∙ filled_at named (suc i) cells (clause _ 1 h) j (le_of_suc-le-suc b)

at_filled : (named : List ℕ) (i : ℕ) (cells : List Block)
    → ((j : ℕ) → j < length cells → beq (is_in (i + j) named) (is_filled (get_or cells j [])) ≡ true) → are_filled named i cells ≡ true
unfolding are_filled
at_filled named i [] h = refl
at_filled named i (x ∷ cells) h =
    all_true _ (
      ap (λ (n : ℕ). beq (is_in n named) (is_filled x)) (sym (add-zero i)) ∙ h 0 (zero-lt-suc (length cells)),
      (
        at_filled named (suc i) cells (λ j b.
            ap (λ (n : ℕ). beq (is_in n named) (is_filled (get_or cells j []))) (suc-add i j ∙ sym (add-suc i j)) ∙ h (suc j) (suc-le-suc b)),
        tt,
      ),
    )

-- ---- the cells are exact

pub sound_exact : (storage : Storage) → has_cells storage ≡ true → are_filled (named_cells storage.records) 0 storage.cells ≡ true → Exact storage
unfolding has_cells filled_bit
sound_exact storage h g c = go (ltb c (length storage.cells)) refl
  where
    named : List ℕ
    named = named_cells storage.records

    go : (t : Bool) → ltb c (length storage.cells) ≡ t → uses c named ≡ filled_bit (get_or storage.cells c [])
    go true e =
        exact_at (uses c named) (is_in c named) (is_filled (get_or storage.cells c [])) (in_uses c named) (not_in c named) (distinct_most c named (clause _ 1 h))
        (ap (λ (n : ℕ). beq (is_in n named) (is_filled (get_or storage.cells c []))) (sym (zero-add c))
        ∙ filled_at named 0 storage.cells g c (ltb-true c (length storage.cells) e))
    go false e =
        (let z : uses c named ≡ 0 = none (ltb 0 (uses c named)) refl in z)
        ∙ sym (ap filled_bit (get_or-eq_default storage.cells [] (ltb-false c (length storage.cells) e)) ∙ nothing_bit)
      where
        none : (t : Bool) → ltb 0 (uses c named) ≡ t → uses c named ≡ 0
        none true q = absurd (not-suc-le-zero (let z : 1 ≤ 0 = omega (arith, below_all (length storage.cells) named (clause _ 0 h) c (ltb-true 0 (uses c named) q), ltb-false c (length storage.cells) e) in z))
        none false q = omega (arith, ltb-false 0 (uses c named) q)

pub exact_sound : (storage : Storage) → Exact storage → (has_cells storage ≡ true) × (are_filled (named_cells storage.records) 0 storage.cells ≡ true)
unfolding has_cells filled_bit
exact_sound storage x = (
  all_true _ (all_below n named inside, (most_distinct named (λ c. omega (arith, x c, bit_most (get_or storage.cells c []))), tt)),
  at_filled named 0 storage.cells (λ j b.
      ap (λ (k : ℕ). beq (is_in k named) (is_filled (get_or storage.cells j []))) (zero-add j)
      ∙ beq_by (uses j named) (is_in j named) (is_filled (get_or storage.cells j [])) (uses_in j named) (uses_not_in j named) (x j)),
)
  where
    n : ℕ
    n = length storage.cells

    named : List ℕ
    named = named_cells storage.records

    inside : (c : ℕ) → 0 < uses c named → c < n
    inside c u = go (ltb c n) refl
      where
        go : (t : Bool) → ltb c n ≡ t → c < n
        go true e = ltb-true c n e
        go false e =
            absurd (not-suc-le-zero (subst (λ (k : ℕ). 0 < k) (x c ∙ ap filled_bit (get_or-eq_default storage.cells [] (ltb-false c n e)) ∙ nothing_bit) u))
