-- Laws of `counted` and `largest`.
use mathlib.Core.Path.{◌≡◌, refl, sym, ap, ap₂, ◌∙◌}
use mathlib.Core.Bool.{Bool, true}
use mathlib.Core.List.{List, [], ◌∷◌, ◌++◌}
use Prim.Native.Nat.{ℕ, zero, suc, ◌+◌, ◌≤◌, ◌<◌, zero-le}
use native.Mathlib.Nat.{add-zero, suc-add, add-suc, not-suc-le-zero, le_of_suc-le-suc}
use native.Mathlib.Omega.{arith}
use lib.ListN.{length, get_or}
use Rattle.lists.specs.Lists.{counted, every, largest}

pub length_counted {ℓ} : {A : Type ℓ} (f : ℕ → A) (i n : ℕ) → length (counted f i n) ≡ n
unfolding counted
length_counted f i zero = refl
length_counted f i (suc n) = ap suc (length_counted f (suc i) n)

pub counted_at {ℓ} : {A : Type ℓ} (f : ℕ → A) (i n j : ℕ) (d : A) → j < n → get_or (counted f i n) j d ≡ f (i + j)
unfolding counted
counted_at f i zero j d h = absurd (not-suc-le-zero h)
counted_at f i (suc n) zero d h = ap f (sym (add-zero i))
counted_at f i (suc n) (suc j) d h = counted_at f (suc i) n j d (le_of_suc-le-suc h) ∙ ap f (suc-add i j ∙ sym (add-suc i j))

pub counted_same {ℓ} : {A : Type ℓ} (f g : ℕ → A) → ((j : ℕ) → f j ≡ g j) → (i n : ℕ) → counted f i n ≡ counted g i n
unfolding counted
counted_same f g h i zero = refl
counted_same f g h i (suc n) = ap₂ ◌∷◌ (h i) (counted_same f g h (suc i) n)

-- a counted list is this one if each element is read right
pub counted_is {ℓ} : {A : Type ℓ} (f : ℕ → A) (d : A) (i : ℕ) (xs : List A) → ((j : ℕ) → j < length xs → f (i + j) ≡ get_or xs j d) → counted f i (length xs) ≡ xs
unfolding counted
counted_is f d i [] h = refl
counted_is f d i (x ∷ xs) h =
    ap₂ ◌∷◌ (ap f (sym (add-zero i)) ∙ h 0 (omega arith))
    (counted_is f d (suc i) xs (λ j b. ap f (suc-add i j ∙ sym (add-suc i j)) ∙ h (suc j) (omega arith)))

pub counted_snoc : (a n : ℕ) → counted (λ x. x) a (suc n) ≡ counted (λ x. x) a n ++ ((a + n) ∷ [])
unfolding counted
counted_snoc a zero = ap {B = List ℕ} (λ y. y ∷ []) (sym (add-zero a))
counted_snoc a (suc n) =
    ap {B = List ℕ} (λ l. a ∷ l) (counted_snoc (suc a) n ∙ ap {B = List ℕ} (λ y. counted (λ x. x) (suc a) n ++ (y ∷ [])) (suc-add a n ∙ sym (add-suc a n)))

pub largest_most : (m : ℕ) (f : ℕ → ℕ) → ((j : ℕ) → f j ≤ m) → (i n : ℕ) → largest (counted f i n) ≤ m
unfolding largest counted
largest_most m f h i zero = zero-le
largest_most m f h i (suc n) = omega (arith, h i, largest_most m f h (suc i) n)

pub every_counted : (f : ℕ → Bool) (i n : ℕ) → ((j : ℕ) → i ≤ j → j < i + n → f j ≡ true) → every f (counted (λ j. j) i n) ≡ true
unfolding every counted
every_counted f i zero h = refl
every_counted f i (suc n) h = rw (h i (omega arith) (omega arith)) (every_counted f (suc i) n (λ j p q. h j (omega arith) (omega arith)))
