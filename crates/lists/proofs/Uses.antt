-- How often a number stands in a list: membership and distinctness as equations that `omega` adds up.
use mathlib.Core.Path.{◌≡◌, refl, sym, ap, ap₂, ◌∙◌, subst}
use mathlib.Core.Bool.{Bool, true, false, cond, false≢true, beq}
use mathlib.Core.List.{List, [], ◌∷◌, ◌++◌}
use Prim.Native.Nat.{ℕ, zero, suc, ◌+◌, ◌≤◌, ◌<◌, zero-le}
use native.Mathlib.Nat.{zero-add, add-zero, suc-add, add-suc, not-suc-le-zero, le_of_suc-le-suc, suc-ne-zero}
use native.Mathlib.Omega.{arith}
use lib.ListN.{length, get_or}
use lib.Dec.{eqb, ltb}
use borrow.Author.Tests.{eqb-true, eq-eqb, ne_eqb, lt-ltb, ltb-true}
use Rattle.lists.specs.Lists.{counted, every, count, total, is_in, uses, distinct}
use Rattle.lists.proofs.Tests.{every_head, every_tail}
use Rattle.lists.proofs.Counts.{count_append, total_sum, total_zero, hit, one_hit}
use Rattle.lists.specs.Each.{Each}

pub uses_append : (c : ℕ) (xs ys : List ℕ) → uses c (xs ++ ys) ≡ uses c xs + uses c ys
unfolding uses
uses_append c xs ys = count_append (eqb c) xs ys

pub uses_here : (c : ℕ) (xs : List ℕ) → uses c (c ∷ xs) ≡ 1 + uses c xs
unfolding uses count
uses_here c xs = rw (eq-eqb c c refl) refl

pub uses_other : (c x : ℕ) (xs : List ℕ) → (c ≡ x → ⊥) → uses c (x ∷ xs) ≡ uses c xs
unfolding uses count
uses_other c x xs h = rw (ne_eqb c x h) (zero-add (uses c xs))

-- every cell that stays, at its place
pub uses_at : (c : ℕ) (xs : List ℕ) (j : ℕ) → j < length xs → get_or xs j 0 ≡ c → 0 < uses c xs
unfolding uses count
uses_at c [] j h e = absurd (not-suc-le-zero h)
uses_at c (x ∷ xs) zero h e = omega (arith, ap (λ (y : ℕ). uses c (y ∷ xs)) e, uses_here c xs)
uses_at c (x ∷ xs) (suc j) h e = omega (arith, uses_at c xs j (le_of_suc-le-suc h) e)

pub no_uses : (c : ℕ) (xs : List ℕ) → length xs ≡ 0 → uses c xs ≡ 0
unfolding uses count
no_uses c [] e = refl
no_uses c (x ∷ xs) e = absurd (suc-ne-zero (length xs) e)

-- ---- membership

pub not_in : (c : ℕ) (xs : List ℕ) → is_in c xs ≡ false → uses c xs ≡ 0
unfolding is_in uses count
not_in c [] h = refl
not_in c (x ∷ xs) h = go (eqb c x) refl (λ e. not_in c xs e)
  where
    go : (b : Bool) → eqb c x ≡ b → (is_in c xs ≡ false → uses c xs ≡ 0) → cond (eqb c x) 1 0 + uses c xs ≡ 0
    go true e r = absurd (false≢true (sym (rw e at h)))
    go false e r = rw e (zero-add (uses c xs) ∙ r (rw e at h))

pub in_uses : (c : ℕ) (xs : List ℕ) → is_in c xs ≡ true → 0 < uses c xs
unfolding is_in uses count
in_uses c [] h = absurd (false≢true h)
in_uses c (x ∷ xs) h = go (eqb c x) refl (λ e. in_uses c xs e)
  where
    go : (b : Bool) → eqb c x ≡ b → (is_in c xs ≡ true → 0 < uses c xs) → 0 < cond (eqb c x) 1 0 + uses c xs
    go true e r = rw e (omega arith)
    go false e r = rw e (omega (arith, r (rw e at h)))

pub uses_in : (c : ℕ) (xs : List ℕ) → 0 < uses c xs → is_in c xs ≡ true
uses_in c xs h = go (is_in c xs) refl
  where
    go : (b : Bool) → is_in c xs ≡ b → is_in c xs ≡ true
    go true e = e
    go false e = absurd (not-suc-le-zero (subst (λ (n : ℕ). 0 < n) (not_in c xs e) h))

pub uses_not_in : (c : ℕ) (xs : List ℕ) → uses c xs ≡ 0 → is_in c xs ≡ false
uses_not_in c xs h = go (is_in c xs) refl
  where
    go : (b : Bool) → is_in c xs ≡ b → is_in c xs ≡ false
    go true e = absurd (not-suc-le-zero (subst (λ (n : ℕ). 0 < n) h (in_uses c xs e)))
    go false e = e

-- ---- distinct, and below a bound

pub distinct_parts : (a b : Bool) → cond a false b ≡ true → (a ≡ false) × (b ≡ true)
distinct_parts true b e = absurd (false≢true e)
distinct_parts false b e = (refl, e)

pub distinct_most : (c : ℕ) (xs : List ℕ) → distinct xs ≡ true → uses c xs ≤ 1
unfolding distinct uses count
distinct_most c [] h = zero-le
distinct_most c (x ∷ xs) h = go (eqb c x) refl (distinct_most c xs (distinct_parts (is_in x xs) (distinct xs) h).1)
  where
    go : (b : Bool) → eqb c x ≡ b → uses c xs ≤ 1 → cond (eqb c x) 1 0 + uses c xs ≤ 1
    go true e r =
        rw e (omega (arith, ap (λ (y : ℕ). uses y xs) (eqb-true c x e), not_in x xs (distinct_parts (is_in x xs) (distinct xs) h).0))
    go false e r = rw e (omega (arith, r))

pub most_distinct : (xs : List ℕ) → ((c : ℕ) → uses c xs ≤ 1) → distinct xs ≡ true
unfolding distinct uses count
most_distinct [] h = refl
most_distinct (x ∷ xs) h =
    rw (uses_not_in x xs (omega (arith, h x, uses_here x xs))) (most_distinct xs (λ c. omega (arith, h c)))

pub below_all : (n : ℕ) (xs : List ℕ) → every (λ c. ltb c n) xs ≡ true → (c : ℕ) → 0 < uses c xs → c < n
unfolding uses count
below_all n [] h c u = absurd (not-suc-le-zero u)
below_all n (x ∷ xs) h c u = go (eqb c x) refl (λ q. below_all n xs (every_tail _ x xs h) c q)
  where
    go : (b : Bool) → eqb c x ≡ b → (0 < uses c xs → c < n) → c < n
    go true e r = subst (λ (y : ℕ). y < n) (sym (eqb-true c x e)) (ltb-true x n (every_head (λ c. ltb c n) x xs h))
    go false e r = r (omega (arith, rw e at u))

pub all_below : (n : ℕ) (xs : List ℕ) → ((c : ℕ) → 0 < uses c xs → c < n) → every (λ c. ltb c n) xs ≡ true
unfolding every uses count
all_below n [] h = refl
all_below n (x ∷ xs) h = rw (lt-ltb x n (h x (omega (arith, uses_here x xs)))) (all_below n xs (λ c u. h c (omega (arith, u))))

pub exact_at : (u : ℕ) (a b : Bool) → (a ≡ true → 0 < u) → (a ≡ false → u ≡ 0) → u ≤ 1 → beq a b ≡ true → u ≡ cond b 1 0
exact_at u true true p q m e = omega (arith, p refl, m)
exact_at u true false p q m e = absurd (false≢true e)
exact_at u false true p q m e = absurd (false≢true e)
exact_at u false false p q m e = q refl

pub beq_by : (u : ℕ) (a b : Bool) → (0 < u → a ≡ true) → (u ≡ 0 → a ≡ false) → u ≡ cond b 1 0 → beq a b ≡ true
beq_by u a true p q e = rw (p (omega (arith, e))) refl
beq_by u a false p q e = rw (q e) refl

-- ---- consecutive numbers

unfoldable pub numbers : ℕ → ℕ → List ℕ
numbers at n = counted (λ c. c) at n

pub uses_low : (n at c : ℕ) → c < at → uses c (numbers at n) ≡ 0
unfolding numbers counted uses count
uses_low zero at c h = refl
uses_low (suc n) at c h = uses_other c at (counted (λ x. x) (suc at) n) (λ e. omega (arith, h, e)) ∙ uses_low n (suc at) c (omega (arith, h))

pub uses_high : (n at c : ℕ) → at + n ≤ c → uses c (numbers at n) ≡ 0
unfolding numbers counted uses count
uses_high zero at c h = refl
uses_high (suc n) at c h = uses_other c at (counted (λ x. x) (suc at) n) (λ e. omega (arith, h, e)) ∙ uses_high n (suc at) c (omega (arith, h))

pub uses_within : (n at j : ℕ) → j < n → uses (at + j) (numbers at n) ≡ 1
unfolding numbers counted uses count
uses_within zero at j h = absurd (not-suc-le-zero h)
uses_within (suc n) at zero h =
    ap (λ (x : ℕ). uses x (at ∷ counted (λ x. x) (suc at) n)) (add-zero at) ∙ uses_here at (counted (λ x. x) (suc at) n)
    ∙ ap (λ (x : ℕ). 1 + x) (uses_low n (suc at) at (omega arith))
uses_within (suc n) at (suc j) h =
    uses_other (at + suc j) at (counted (λ x. x) (suc at) n) (λ e. omega (arith, e))
    ∙ ap (λ (x : ℕ). uses x (counted (λ x. x) (suc at) n)) (add-suc at j ∙ sym (suc-add at j)) ∙ uses_within n (suc at) j (le_of_suc-le-suc h)

-- ---- how many numbers

pub total_uses : (n : ℕ) (xs : List ℕ) → ((c : ℕ) → 0 < uses c xs → c < n) → total (λ c. uses c xs) (counted (λ c. c) 0 n) ≡ length xs
total_uses n [] h = unfold uses count in total_zero (counted (λ c. c) 0 n)
total_uses n (x ∷ xs) h =
    split
    ∙ ap₂ ◌+◌ (one_hit x 0 n zero-le (subst (λ (k : ℕ). x < k) (sym (zero-add n)) (h x (omega (arith, uses_here x xs)))))
    (total_uses n xs (λ c u. h c (unfold uses count in omega (arith, u))))
    ∙ (let z : 1 + length xs ≡ suc (length xs) = omega arith in z)
  where
    split : total (λ c. uses c (x ∷ xs)) (counted (λ c. c) 0 n) ≡ total (hit x) (counted (λ c. c) 0 n) + total (λ c. uses c xs) (counted (λ c. c) 0 n)
    split = unfold uses count hit in total_sum (λ c. cond (eqb c x) 1 0) (λ c. uses c xs) (counted (λ c. c) 0 n)

pub count_total : (named : List ℕ) → ((c : ℕ) → uses c named ≤ 1) → (xs : List ℕ) → count (λ c. is_in c named) xs ≡ total (λ c. uses c named) xs
unfolding count total
count_total named h [] = refl
count_total named h (x ∷ xs) = ap₂ ◌+◌ (one (is_in x named) refl) (count_total named h xs)
  where
    one : (t : Bool) → is_in x named ≡ t → cond (is_in x named) 1 0 ≡ uses x named
    one true e = rw e (let z : 1 ≡ uses x named = omega (arith, h x, in_uses x named e) in z)
    one false e = rw e (sym (not_in x named e))

pub each_used : (P : ℕ → Type 0) (xs : List ℕ) → ((c : ℕ) → 0 < uses c xs → P c) → Each P xs
unfolding uses count
each_used P [] f = tt
each_used P (x ∷ xs) f = (f x (omega (arith, uses_here x xs)), each_used P xs (λ c h. f c (omega arith)))
