-- Laws of `count` and `total`.
use mathlib.Core.Path.{◌≡◌, refl, sym, ap, ap₂, ◌∙◌}
use mathlib.Core.Bool.{Bool, true, false, cond}
use mathlib.Core.List.{List, [], ◌∷◌, ◌++◌, map}
use Prim.Native.Nat.{ℕ, zero, suc, ◌+◌, ◌≤◌, ◌<◌, zero-le}
use native.Mathlib.Nat.{zero-add, add-zero, add_assoc, not-suc-le-zero}
use native.Mathlib.Omega.{arith}
use lib.ListN.{length, get_or, drop}
use lib.Dec.{eqb}
use borrow.Author.Tests.{eqb-true, eqb-false, ne_eqb}
use Rattle.lists.specs.Lists.{counted, keep, count, total}
use Rattle.lists.proofs.Slices.{drop_next, drop_end}

-- ---- count

pub count_append {ℓ} : {A : Type ℓ} (f : A → Bool) (xs ys : List A) → count f (xs ++ ys) ≡ count f xs + count f ys
unfolding count
count_append f [] ys = sym (zero-add (count f ys))
count_append f (x ∷ xs) ys = ap (λ (n : ℕ). cond (f x) 1 0 + n) (count_append f xs ys) ∙ sym (add_assoc (cond (f x) 1 0) (count f xs) (count f ys))

pub count_most : {A : Type 0} (f : A → Bool) (xs : List A) → count f xs ≤ length xs
unfolding count
count_most f [] = zero-le
count_most f (x ∷ xs) = one (f x) (count_most f xs)
  where
    one : (b : Bool) → count f xs ≤ length xs → cond b 1 0 + count f xs ≤ suc (length xs)
    one true h = omega (arith, h)
    one false h = omega (arith, h)

-- as many are kept as pass
pub length_keep {ℓ} : {A : Type ℓ} (f : A → Bool) (xs : List A) → length (keep f xs) ≡ count f xs
unfolding keep count
length_keep f [] = refl
length_keep f (x ∷ xs) = go (f x) (length_keep f xs)
  where
    go : (b : Bool) → length (keep f xs) ≡ count f xs → length (cond b (x ∷ keep f xs) (keep f xs)) ≡ cond b 1 0 + count f xs
    go true e = omega (arith, e)
    go false e = omega (arith, e)

-- ---- total

pub total_same : (f g : ℕ → ℕ) → ((n : ℕ) → f n ≡ g n) → (xs : List ℕ) → total f xs ≡ total g xs
unfolding total
total_same f g h [] = refl
total_same f g h (x ∷ xs) = ap₂ ◌+◌ (h x) (total_same f g h xs)

pub total_at : {A : Type 0} (f : A → ℕ) (d : A) (xs : List A) (i : ℕ) (g : ℕ → ℕ) → ((j : ℕ) → j < length xs → g (i + j) ≡ f (get_or xs j d))
    → total g (counted (λ x. x) i (length xs)) ≡ total f xs
unfolding total counted
total_at f d [] i g h = refl
total_at f d (x ∷ xs) i g h =
    ap₂ ◌+◌ (ap g (sym (add-zero i)) ∙ h 0 (omega arith))
    (total_at f d xs (suc i) g (λ j l. ap g (let z : suc i + j ≡ i + suc j = omega arith in z) ∙ h (suc j) (omega (arith, l))))

pub total_sum : (f g : ℕ → ℕ) (xs : List ℕ) → total (λ c. f c + g c) xs ≡ total f xs + total g xs
unfolding total
total_sum f g [] = refl
total_sum f g (x ∷ xs) = omega (arith, total_sum f g xs)

pub total_zero : (xs : List ℕ) → total (λ c. 0) xs ≡ 0
unfolding total
total_zero [] = refl
total_zero (x ∷ xs) = zero-add _ ∙ total_zero xs

-- one number among consecutive ones
unfoldable pub hit : ℕ → ℕ → ℕ
hit x c = cond (eqb c x) 1 0

pub no_hit : (x i n : ℕ) → x < i → total (hit x) (counted (λ c. c) i n) ≡ 0
unfolding total counted hit
no_hit x i zero l = refl
no_hit x i (suc n) l = rw (ne_eqb i x (λ e. omega (arith, e, l))) (zero-add _ ∙ no_hit x (suc i) n (omega (arith, l)))

pub one_hit : (x i n : ℕ) → i ≤ x → x < i + n → total (hit x) (counted (λ c. c) i n) ≡ 1
unfolding total counted hit
one_hit x i zero l h = absurd (not-suc-le-zero (let z : 1 ≤ 0 = omega (arith, l, h) in z))
one_hit x i (suc n) l h = go (eqb i x) refl (λ q. one_hit x (suc i) n q (omega (arith, h)))
  where
    go : (t : Bool) → eqb i x ≡ t → (suc i ≤ x → total (hit x) (counted (λ c. c) (suc i) n) ≡ 1) → cond (eqb i x) 1 0 + total (hit x) (counted (λ c. c) (suc i) n) ≡ 1
    go true e r = rw e (ap (λ (k : ℕ). 1 + k) (no_hit x (suc i) n (omega (arith, eqb-true i x e))))
    go false e r = rw e (zero-add _ ∙ r (omega (arith, l, eqb-false i x e)))

-- ---- a sum, one after the other

pub sum_next : (ws : List ℕ) (i n : ℕ) → i < length ws → n + total (λ n. n) (drop i ws) ≡ total (λ n. n) ws → (n + get_or ws i 0) + total (λ n. n) (drop (i + 1) ws) ≡ total (λ n. n) ws
unfolding total
sum_next ws i n h e = let d : total (λ n. n) (drop i ws) ≡ get_or ws i 0 + total (λ n. n) (drop (i + 1) ws) = ap (total (λ (n : ℕ). n)) (drop_next ws i 0 h) in omega (arith, d, e)

pub sum_end : (ws : List ℕ) (i n : ℕ) → length ws ≤ i → n + total (λ n. n) (drop i ws) ≡ total (λ n. n) ws → n ≡ total (λ n. n) ws
unfolding total
sum_end ws i n h e = let d : total (λ n. n) (drop i ws) ≡ 0 = ap (total (λ (n : ℕ). n)) (drop_end ws i h) in omega (arith, d, e)

pub sum_map : {A : Type 0} (f : A → ℕ) (xs : List A) → total (λ n. n) (map f xs) ≡ total f xs
unfolding total
sum_map f [] = refl
sum_map f (x ∷ xs) = ap (λ (n : ℕ). f x + n) (sum_map f xs)

-- a sum in which one number is another
sum_before : (f g : ℕ → ℕ) (i : ℕ) → ((j : ℕ) → (j ≡ i → ⊥) → f j ≡ g j) → (a n : ℕ) → i < a
    → total f (counted (λ j. j) a n) ≡ total (λ j. cond (eqb j i) 0 (g j)) (counted (λ j. j) a n)
unfolding total counted
sum_before f g i e a zero h = refl
sum_before f g i e a (suc n) h =
    let m : a ≡ i → ⊥ = λ q. omega (arith, q, h) in
    rw (ne_eqb a i m) (ap₂ (λ (x y : ℕ). x + y) (e a m) (sum_before f g i e (suc a) n (omega arith)))

pub sum_with : (f g : ℕ → ℕ) (i : ℕ) → ((j : ℕ) → (j ≡ i → ⊥) → f j ≡ g j) → (a n : ℕ) → a ≤ i → i < a + n
    → total f (counted (λ j. j) a n) ≡ total (λ j. cond (eqb j i) 0 (g j)) (counted (λ j. j) a n) + f i
unfolding total counted
sum_with f g i e a zero h k = absurd (omega (arith, h, k))
sum_with f g i e a (suc n) h k = go (eqb a i) refl (sum_with f g i e (suc a) n)
  where
    go : (t : Bool) → eqb a i ≡ t → (suc a ≤ i → i < suc a + n → total f (counted (λ j. j) (suc a) n) ≡ total (λ j. cond (eqb j i) 0 (g j)) (counted (λ j. j) (suc a) n) + f i)
        → f a + total f (counted (λ j. j) (suc a) n) ≡ (cond (eqb a i) 0 (g a) + total (λ j. cond (eqb j i) 0 (g j)) (counted (λ j. j) (suc a) n)) + f i
    go true q later = let is : a ≡ i = eqb-true a i q in rw q (omega (arith, sum_before f g i e (suc a) n (omega (arith, is)), ap f is))
    go false q later = let m : a ≡ i → ⊥ = eqb-false a i q in rw q (omega (arith, later (omega (arith, m)) (omega arith), e a m))
