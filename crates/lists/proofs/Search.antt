-- Laws of `first_that`, and where in a counted list it finds the first that passes.
use mathlib.Core.Path.{◌≡◌, refl, sym, ap, ◌∙◌}
use mathlib.Core.Bool.{Bool, true, false, cond, false≢true}
use mathlib.Core.List.{List, [], ◌∷◌}
use mathlib.Core.Option.{none, some}
use Prim.Native.Nat.{ℕ, zero, suc, ◌+◌, ◌≤◌, ◌<◌}
use native.Mathlib.Nat.{add-zero}
use native.Mathlib.Omega.{arith}
use Rattle.lists.specs.Lists.{counted}
use Rattle.lists.specs.Search.{first_that}

-- what is found passes
pub found_passes : {A : Type 0} (f : A → Bool) (xs : List A) (x : A) → first_that f xs ≡ some x → f x ≡ true
unfolding first_that
found_passes f [] x e = let z : ◌≡◌ {A = ℕ} 0 1 = cc in absurd (omega arith)
found_passes f (y ∷ ys) x e = go (f y) refl e (found_passes f ys x)
  where
    go : (b : Bool) → f y ≡ b → cond b (some y) (first_that f ys) ≡ some x → (first_that f ys ≡ some x → f x ≡ true) → f x ≡ true
    go true h k rec = let i : y ≡ x = cc in rw i at h
    go false h k rec = rec k

module _ {A : Type 0} (f : A → Bool) (g : ℕ → A) where
  next : (k j : ℕ) → g (suc k + j) ≡ g (k + suc j)
  next k j = let e : suc k + j ≡ k + suc j = omega arith in ap g e

  -- found at i: it passes, and none before it does
  pub found_at : (k n i : ℕ) → i < n → ((j : ℕ) → j < i → f (g (k + j)) ≡ false) → f (g (k + i)) ≡ true → first_that f (counted g k n) ≡ some (g (k + i))
  unfolding first_that counted
  found_at k zero i l h e = absurd (omega arith)
  found_at k (suc n) zero l h e =
      let a : f (g k) ≡ true = rw (add-zero k) at e in
      rw (a, add-zero k)
  found_at k (suc n) (suc i) l h e =
      let a : f (g k) ≡ false = rw (add-zero k) at (h 0 (omega arith)) in
      rw a (found_at (suc k) n i (omega arith) (λ j b. ap f (next k j) ∙ h (suc j) (omega arith)) (ap f (next k i) ∙ e) ∙ ap some (next k i))

  -- found nowhere: none passes
  pub found_none : (k n : ℕ) → ((j : ℕ) → j < n → f (g (k + j)) ≡ false) → first_that f (counted g k n) ≡ none
  unfolding first_that counted
  found_none k zero h = refl
  found_none k (suc n) h =
      let a : f (g k) ≡ false = rw (add-zero k) at (h 0 (omega arith)) in
      rw a (found_none (suc k) n (λ j b. ap f (next k j) ∙ h (suc j) (omega arith)))

  -- one that passes at j: the first is found at j or before it
  pub record Found (k n j : ℕ) : Type 0 where
    pub at : ℕ
    pub before : at ≤ j
    pub is : first_that f (counted g k n) ≡ some (g (k + at))

  pub found : (k n j : ℕ) → j < n → f (g (k + j)) ≡ true → Found k n j
  unfolding first_that counted
  found k zero j l e = absurd (omega arith)
  found k (suc n) j l e = go (f (g k)) refl j l e (λ i b h. found (suc k) n i b h)
    where
      go : (b : Bool) → f (g k) ≡ b → (j : ℕ) → j < suc n → f (g (k + j)) ≡ true
          → ((i : ℕ) → i < n → f (g (suc k + i)) ≡ true → Found (suc k) n i) → Found k (suc n) j
      go true h j l e rec = record { at = 0; before = omega arith; is = rw (h, add-zero k) }
      go false h zero l e rec = let z : false ≡ true = sym h ∙ (rw (add-zero k) at e) in absurd (false≢true z)
      go false h (suc j) l e rec =
          let w : Found (suc k) n j = rec j (omega arith) (ap f (next k j) ∙ e) in
          record { at = suc w.at; before = omega (arith, w.before); is = rw h (w.is ∙ ap some (next k w.at)) }
