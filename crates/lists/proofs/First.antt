-- Laws of `first_from`: the first that passes.
use mathlib.Core.Path.{◌≡◌, refl, sym, ap, ◌∙◌}
use mathlib.Core.Bool.{Bool, true, false, cond}
use mathlib.Core.List.{List, [], ◌∷◌}
use mathlib.Core.Option.{Option, none, some}
use Prim.Native.Nat.{ℕ, zero, suc, ◌+◌, ◌<◌, suc-le-suc}
use native.Mathlib.Omega.{arith}
use native.Mathlib.Nat.{add-zero, suc-add, add-suc, not-suc-le-zero, le_of_suc-le-suc, zero-lt-suc}
use lib.ListN.{length, get_or}
use Rattle.lists.specs.Lists.{is_some, first_from}
use Rattle.lists.proofs.Tests.{by_test}

-- it passes, and none before it does; nothing is found only where none passes
abbrev pub Lowest : {A : Type 0} → (A → Bool) → A → ℕ → List A → Option ℕ → Type 0
Lowest f d i xs none = (j : ℕ) → j < length xs → f (get_or xs j d) ≡ false
Lowest f d i xs (some n) = (k : ℕ) × (n ≡ i + k) × (k < length xs) × (f (get_or xs k d) ≡ true) × ((j : ℕ) → j < k → f (get_or xs j d) ≡ false)

pub first_lowest : {A : Type 0} (f : A → Bool) (d : A) (i : ℕ) (xs : List A) → Lowest f d i xs (first_from f i xs)
unfolding first_from
first_lowest f d i [] = λ j l. absurd (not-suc-le-zero l)
first_lowest f d i (x ∷ xs) =
    by_test (Lowest f d i (x ∷ xs)) (f x) (λ e. (0, sym (add-zero i), zero-lt-suc (length xs), e, λ j l. absurd (not-suc-le-zero l)))
    (λ e. later (first_from f (suc i) xs) (first_lowest f d (suc i) xs) e)
  where
    none_before : (f x ≡ false) → (k : ℕ) → ((j : ℕ) → j < k → f (get_or xs j d) ≡ false) → (j : ℕ) → j < suc k → f (get_or (x ∷ xs) j d) ≡ false
    none_before e k h zero l = e
    none_before e k h (suc j) l = h j (le_of_suc-le-suc l)

    later : (o : Option ℕ) → Lowest f d (suc i) xs o → f x ≡ false → Lowest f d i (x ∷ xs) o
    later none h e = none_before e (length xs) h
    later (some n) h e = (suc h.0, h.1 ∙ (suc-add i h.0 ∙ sym (add-suc i h.0)), suc-le-suc h.2, h.3, none_before e h.0 h.4)

-- where one passes, something is found
pub first_some : {A : Type 0} (f : A → Bool) (d : A) (xs : List A) (j i : ℕ) → i < length xs → f (get_or xs i d) ≡ true → is_some (first_from f j xs) ≡ true
unfolding first_from is_some
first_some f d [] j i l h = absurd (not-suc-le-zero l)
first_some f d (x ∷ xs) j zero l h = ap (λ (t : Bool). is_some (cond t (some j) (first_from f (suc j) xs))) h
first_some f d (x ∷ xs) j (suc i) l h =
    by_test (λ (o : Option ℕ). is_some o ≡ true) (f x) (λ e. refl) (λ e. first_some f d xs (suc j) i (le_of_suc-le-suc l) h)

-- two searches that answer alike at each place
pub first_alike : {A B : Type 0} (f : A → Bool) (g : B → Bool) (d : A) (e : B) (i : ℕ) (xs : List A) (ys : List B) → length xs ≡ length ys
    → ((j : ℕ) → j < length xs → f (get_or xs j d) ≡ g (get_or ys j e)) → first_from f i xs ≡ first_from g i ys
unfolding first_from
first_alike f g d e i [] [] l h = refl
first_alike f g d e i [] (y ∷ ys) l h = absurd (omega (arith, l))
first_alike f g d e i (x ∷ xs) [] l h = absurd (omega (arith, l))
first_alike f g d e i (x ∷ xs) (y ∷ ys) l h =
    rw (h 0 (omega arith), first_alike f g d e (suc i) xs ys (omega (arith, l)) (λ j k. h (suc j) (omega (arith, k))))
