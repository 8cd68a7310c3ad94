-- The five places of a till gone through from the last to the first. Assumes nothing.
use mir.Val.{bool_byte}
use Rattle.std.proofs.Common.{◌≡◌, ℕ, zero, suc, ◌+◌, ◌-◌, ◌<◌, ◌≤◌, max, eq-eqb, ne_eqb, Bool, true, false, cond, eqb, ltb, List, ◌∷◌, sym, refl, ap, ◌∙◌, subst, arith, ltb-false, ltb-true, eqb-true}
use borrow.Author.Tests.{eqb-false}
use Rattle.lists.specs.Lists.{counted, count, largest}
use Rattle.lists.proofs.Tests.{by_test}
use Rattle.trial_keeper.specs.Notes.{lesser_held, least_held, first_place}

-- the numbers from place `i` on
abbrev pub from : (ℕ → ℕ) → ℕ → List ℕ
from f i = counted f i (5 - i)

pub step : (f : ℕ → ℕ) (i : ℕ) → i < 5 → from f i ≡ f i ∷ from f (suc i)
unfolding counted
step f zero l = refl
step f (suc zero) l = refl
step f (suc (suc zero)) l = refl
step f (suc (suc (suc zero))) l = refl
step f (suc (suc (suc (suc zero)))) l = refl
step f (suc (suc (suc (suc (suc i))))) l = absurd (omega arith)

-- `x` stands at place `i`, and `j` is the next
pub steps : (f : ℕ → ℕ) (i j x : ℕ) → j ≡ suc i → i < 5 → x ≡ f i → from f i ≡ x ∷ from f j
steps f i j x e l h = subst (λ k. from f i ≡ x ∷ from f k) (sym e) (subst (λ y. from f i ≡ y ∷ from f (suc i)) (sym h) (step f i l))

as_one : (t : Bool) → bool_byte t ≡ cond t 1 0
as_one true = refl
as_one false = refl

pub count_more :
    (f : ℕ → ℕ) (v i j x n r : ℕ) → j ≡ suc i → i < 5 → x ≡ f i → n ≡ count (ltb v) (from f j) → r ≡ bool_byte (ltb v x) → n + r ≡ count (ltb v) (from f i)
unfolding count
count_more f v i j x n r e l g h b =
    let a : count (ltb v) (from f i) ≡ cond (ltb v x) 1 0 + count (ltb v) (from f j) = ap (count (ltb v)) (steps f i j x e l g) in
    omega (arith, a, as_one (ltb v x))

pub largest_more : (f : ℕ → ℕ) (i j x n r : ℕ) → j ≡ suc i → i < 5 → x ≡ f i → n ≡ largest (from f j) → r ≡ max x n → r ≡ largest (from f i)
unfolding largest
largest_more f i j x n r e l g h m = rw (m, h) (sym (ap largest (steps f i j x e l g)))

pub least_more :
    (f : ℕ → ℕ) (i j x n r : ℕ) → j ≡ suc i → i < 5 → x ≡ f i → n ≡ least_held (from f j)
    → (x ≡ 0 → r ≡ n) → (0 < x → n ≡ 0 → r ≡ x) → (0 < x → 0 < n → x ≤ n → r ≡ x) → (0 < x → 0 < n → n < x → r ≡ n)
    → r ≡ least_held (from f i)
unfolding least_held lesser_held
least_more f i j x n r e l g h a b c d =
    sym (ap least_held (steps f i j x e l g) ∙ (ap (lesser_held x) (sym h)
    ∙ by_test (λ k. k ≡ r) (eqb x 0) (λ t. sym (a (eqb-true x 0 t)))
    (λ s. by_test (λ k. k ≡ r) (eqb n 0) (λ t. sym (b (some x s) (eqb-true n 0 t)))
    (λ u. by_test (λ k. k ≡ r) (ltb n x) (λ t. sym (d (some x s) (some n u) (ltb-true n x t)))
    (λ t. sym (c (some x s) (some n u) (ltb-false n x t)))))))
  where
    some : (m : ℕ) → eqb m 0 ≡ false → 0 < m
    some m s = omega (arith, eqb-false m 0 s)

module _ (f : ℕ → ℕ) (y i j x : ℕ) (e : j ≡ suc i) (l : i < 5) (g : x ≡ f i) where
  pub first_here : x ≡ y → i ≡ first_place y i (from f i)
  unfolding first_place
  first_here h = rw (steps f i j x e l g, eq-eqb x y h)

  pub first_later : (n : ℕ) → (x ≡ y → ⊥) → n ≡ first_place y j (from f j) → n ≡ first_place y i (from f i)
  unfolding first_place
  first_later n h k = rw (steps f i j x e l g, ne_eqb x y h, ← e) k
