-- Tests on lists that are appended.
use mathlib.Core.Path.{◌≡◌, refl, sym, ap}
use mathlib.Core.Bool.{Bool, true, false, cond}
use mathlib.Core.List.{List, [], ◌∷◌, ◌++◌}
use Prim.Native.Nat.{ℕ, suc}
use native.Mathlib.Nat.{suc_inj, suc-ne-zero}
use lib.Dec.{eqb}
use lib.ListN.{length}
use Rattle.lists.specs.Lists.{every, same_numbers, is_in}

-- ---- tests of a list in two pieces

pub cond_nested : (t u v : Bool) → cond t (cond u v false) false ≡ cond (cond t u false) v false
cond_nested true u v = refl
cond_nested false u v = refl

pub every_append {ℓ} : {A : Type ℓ} (f : A → Bool) (xs ys : List A) → every f (xs ++ ys) ≡ cond (every f xs) (every f ys) false
unfolding every
every_append f [] ys = refl
every_append f (x ∷ xs) ys = rw (every_append f xs ys) (cond_nested (f x) (every f xs) (every f ys))

pub same_append : (xs ys us vs : List ℕ) → length xs ≡ length us → same_numbers (xs ++ ys) (us ++ vs) ≡ cond (same_numbers xs us) (same_numbers ys vs) false
unfolding same_numbers
same_append [] ys [] vs e = refl
same_append [] ys (u ∷ us) vs e = absurd (suc-ne-zero (length us) (sym e))
same_append (x ∷ xs) ys [] vs e = absurd (suc-ne-zero (length xs) e)
same_append (x ∷ xs) ys (u ∷ us) vs e = rw (same_append xs ys us vs (suc_inj e)) (cond_nested (eqb x u) (same_numbers xs us) (same_numbers ys vs))

pub same_lengths : (a b : List ℕ) → (length a ≡ length b → ⊥) → same_numbers a b ≡ false
unfolding same_numbers
same_lengths [] [] h = absurd (h refl)
same_lengths [] (y ∷ b) h = refl
same_lengths (x ∷ a) [] h = refl
same_lengths (x ∷ a) (y ∷ b) h = rw (same_lengths a b (λ e. h (ap suc e))) (go (eqb x y))
  where
    go : (t : Bool) → cond t false false ≡ false
    go true = refl
    go false = refl

pub in_append : (c : ℕ) (xs ys : List ℕ) → is_in c (xs ++ ys) ≡ cond (is_in c xs) true (is_in c ys)
unfolding is_in
in_append c [] ys = refl
in_append c (x ∷ xs) ys = rw (in_append c xs ys) (go (eqb c x))
  where
    go : (t : Bool) → cond t true (cond (is_in c xs) true (is_in c ys)) ≡ cond (cond t true (is_in c xs)) true (is_in c ys)
    go true = refl
    go false = refl
