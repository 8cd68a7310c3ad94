-- A walk over the stores of a chain: whether all are sound, and the cells of all but one.
use mathlib.Core.Path.{◌≡◌, refl, sym, ap, ◌∙◌}
use mathlib.Core.Bool.{Bool, true, false, cond}
use mathlib.Core.List.{List, [], ◌∷◌}
use Prim.Native.Nat.{ℕ, suc, ◌+◌, ◌-◌, ◌≤◌, ◌<◌}
use native.Mathlib.Numerals.{add-one}
use native.Mathlib.Omega.{arith}
use lib.Dec.{eqb}
use borrow.Author.Tests.{eq-eqb, ne_eqb}
use Rattle.lists.specs.Lists.{counted, every, total}
use Rattle.chain.specs.Chain.{Chain, store_count, pool_at, table_at}
use Rattle.chain.specs.Limit.{occupied, other_cells}

-- the stores from `i` on
abbrev pub later : ℕ → ℕ → List ℕ
later i n = counted (λ k. k) i (n - i)

later_next : (i n : ℕ) → i < n → later i n ≡ i ∷ later (i + 1) n
unfolding counted
later_next i n h = let e : n - i ≡ suc (n - (i + 1)) = omega arith in rw (e, add-one i)

later_none : (i n : ℕ) → n ≤ i → later i n ≡ []
unfolding counted
later_none i n h = let e : n - i ≡ 0 = omega arith in rw e

pub later_all : (n : ℕ) → later 0 n ≡ counted (λ k. k) 0 n
later_all n = let e : n - 0 ≡ n = omega arith in rw e

module _ (p : ℕ → Bool) (i n : ℕ) (all : Bool) (g : every p (later i n) ≡ all) where
  module _ (h : i < n) where
    step : cond (p i) (every p (later (i + 1) n)) false ≡ all
    unfolding every
    step = sym (ap (every p) (later_next i n h)) ∙ g

    pub one_unsound : p i ≡ false → false ≡ all
    one_unsound e = rw e at step

    pub one_sound : p i ≡ true → every p (later (i + 1) n) ≡ all
    one_sound e = rw e at step

  pub all_sound : n ≤ i → true ≡ all
  unfolding every
  all_sound h = sym (ap (every p) (later_none i n h)) ∙ g

-- ---- the cells of the others

-- of store `j`, where store `i` is the one that is named
abbrev pub beside_store : Chain → ℕ → ℕ → ℕ
beside_store c i j = cond (eqb j i) 0 (occupied (pool_at c j) (table_at c j))

pub itself : (c : Chain) (i j : ℕ) → j ≡ i → 0 ≡ beside_store c i j
itself c i j e = rw (eq-eqb j i e)

pub another : (c : Chain) (i j : ℕ) → ¬ (j ≡ i) → (n : ℕ) → n ≡ occupied (pool_at c j) (table_at c j) → n ≡ beside_store c i j
another c i j d n e = rw (ne_eqb j i d) e

module _ (c : Chain) (i : ℕ) where
  pub others_first : 0 + total (beside_store c i) (later 0 (store_count c)) ≡ other_cells c i
  unfolding other_cells
  others_first = omega (arith, ap (total (beside_store c i)) (later_all (store_count c)))

  module _ (j cells : ℕ) (g : cells + total (beside_store c i) (later j (store_count c)) ≡ other_cells c i) where
    pub others_next : j < store_count c → (n : ℕ) → n ≡ beside_store c i j → (cells + n) + total (beside_store c i) (later (j + 1) (store_count c)) ≡ other_cells c i
    unfolding total
    others_next h n e = omega (arith, g, e, ap (total (beside_store c i)) (later_next j (store_count c) h))

    pub others_all : store_count c ≤ j → cells ≡ other_cells c i
    unfolding total
    others_all h = omega (arith, g, ap (total (beside_store c i)) (later_none j (store_count c) h))
