-- Elements that are kept: the last of some, and those that are kept by one of their numbers, with another one of each.
use mathlib.Core.Path.{◌≡◌, refl, sym, ap, ap₂, ◌∙◌}
use mathlib.Core.Bool.{Bool, true, false, cond, false≢true}
use mathlib.Core.List.{List, [], ◌∷◌, ◌++◌, map, append-nil}
use Prim.Native.Nat.{ℕ}
use native.Mathlib.Nat.{suc-ne-zero}
use lib.ListN.{length, get_or, drop}
use Rattle.lists.specs.Lists.{keep}

module _ {A : Type 0} (f : A → Bool) where
  keep_append : (xs ys : List A) → keep f (xs ++ ys) ≡ keep f xs ++ keep f ys
  unfolding keep
  keep_append [] ys = refl
  keep_append (x ∷ xs) ys = go (f x) (keep_append xs ys)
    where
      go : (b : Bool) → keep f (xs ++ ys) ≡ keep f xs ++ keep f ys → cond b (x ∷ keep f (xs ++ ys)) (keep f (xs ++ ys)) ≡ cond b (x ∷ keep f xs) (keep f xs) ++ keep f ys
      go true e = ap {B = List A} (λ l. x ∷ l) e
      go false e = e

  -- the last of some elements is not kept, or it is the last that is
  pub keep_not_last : (xs : List A) (x : A) → f x ≡ false → keep f (xs ++ (x ∷ [])) ≡ keep f xs
  keep_not_last xs x e =
      let none : keep f (x ∷ []) ≡ [] = unfold keep in ap (λ (b : Bool). cond b (x ∷ []) []) e in
      keep_append xs (x ∷ []) ∙ ap (λ (l : List A). keep f xs ++ l) none ∙ append-nil (keep f xs)

  pub keep_last : (xs : List A) (x : A) → f x ≡ true → keep f (xs ++ (x ∷ [])) ≡ keep f xs ++ (x ∷ [])
  keep_last xs x e =
      let one : keep f (x ∷ []) ≡ x ∷ [] = unfold keep in ap (λ (b : Bool). cond b (x ∷ []) []) e in
      keep_append xs (x ∷ []) ∙ ap (λ (l : List A). keep f xs ++ l) one

-- they are the same for lists of any elements with the same numbers
pub keep_same : {A B : Type 0} (f : ℕ → Bool) (by number : A → ℕ) (by' number' : B → ℕ) (xs : List A) (ys : List B) → map by xs ≡ map by' ys → map number xs ≡ map number' ys
    → map number (keep (λ (x : A). f (by x)) xs) ≡ map number' (keep (λ (y : B). f (by' y)) ys)
unfolding keep
keep_same f by number by' number' [] [] p q = refl
keep_same f by number by' number' [] (y ∷ ys) p q = absurd (suc-ne-zero _ (sym (ap length p)))
keep_same f by number by' number' (x ∷ xs) [] p q = absurd (suc-ne-zero _ (ap length p))
keep_same {A} {B} f by number by' number' (x ∷ xs) (y ∷ ys) p q =
    go (f (by x)) (f (by' y)) (ap f (ap (λ (l : List ℕ). get_or l 0 0) p)) (keep_same f by number by' number' xs ys (ap (drop 1) p) (ap (drop 1) q))
  where
    go : (b b' : Bool) → b ≡ b' → map number (keep (λ (x : A). f (by x)) xs) ≡ map number' (keep (λ (y : B). f (by' y)) ys)
        → map number (cond b (x ∷ keep (λ (x : A). f (by x)) xs) (keep (λ (x : A). f (by x)) xs)) ≡ map number' (cond b' (y ∷ keep (λ (y : B). f (by' y)) ys) (keep (λ (y : B). f (by' y)) ys))
    go true true e r = ap₂ ◌∷◌ (ap (λ (l : List ℕ). get_or l 0 0) q) r
    go true false e r = absurd (false≢true (sym e))
    go false true e r = absurd (false≢true e)
    go false false e r = r
