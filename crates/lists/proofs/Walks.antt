-- Laws of `walk`: what a loop that rewrites a list along a mask needs.
use mathlib.Core.Path.{◌≡◌, refl, sym, ap, ◌∙◌}
use mathlib.Core.Bool.{Bool, cond}
use mathlib.Core.List.{List, [], ◌∷◌, ◌++◌, map, append_assoc, append-nil}
use Prim.Native.Nat.{ℕ, suc, ◌+◌, ◌/◌, ◌%◌, ◌≤◌, ◌<◌}
use native.Mathlib.Omega.{arith}
use lib.ListN.{length, get_or, set, take, drop, length-set}
use lib.Seq.{set_at, get_or_at, length-take-le, take_all}
use Rattle.lists.specs.Walk.{walk}
use Rattle.lists.specs.Masks.{mask_of}
use Rattle.lists.proofs.Masks.{mask_half, mask_odd}
use Rattle.lists.proofs.Slices.{drop_next, drop_end, take_next}

-- ---- walk

module _ {ℓ κ} {A : Type ℓ} {S : Type κ} (out : ℕ → S → A → A) (next : ℕ → S → S) where
  pub length_walk : (m : ℕ) (a : S) (xs : List A) → length (walk out next m a xs) ≡ length xs
  unfolding walk
  length_walk m a [] = refl
  length_walk m a (x ∷ xs) = ap suc (length_walk (m / 2) (next (m % 2) a) xs)

  -- where the old elements do not matter
  pub walk_any : ((b : ℕ) (a : S) (x y : A) → out b a x ≡ out b a y) → (m : ℕ) (a : S) (xs ys : List A) → length xs ≡ length ys
      → walk out next m a xs ≡ walk out next m a ys
  unfolding walk
  walk_any f m a [] [] e = refl
  walk_any f m a [] (y ∷ ys) e = absurd (omega arith)
  walk_any f m a (x ∷ xs) [] e = absurd (omega arith)
  walk_any f m a (x ∷ xs) (y ∷ ys) e = rw (f (m % 2) a x y, walk_any f (m / 2) (next (m % 2) a) xs ys (omega arith))

-- along a mask of a list beside it, where the state stays
pub walk_map {ℓ κ μ} : {A : Type ℓ} {S : Type κ} {B : Type μ} (out : ℕ → S → A → A) (a : S) (f : B → Bool) (g : B → A) (ps : List B)
    → walk out (λ b s. s) (mask_of f ps) a (map g ps) ≡ map (λ p. out (cond (f p) 1 0) a (g p)) ps
unfolding walk
walk_map out a f g [] = refl
walk_map out a f g (p ∷ ps) = rw (mask_odd f p ps, mask_half f p ps, walk_map out a f g ps)

-- ---- a mask beside its list, from element i on

module _ {ℓ} {A : Type ℓ} (f : A → Bool) (xs : List A) (i : ℕ) (d : A) (h : i < length xs) where
  pub mask_here : mask_of f (drop i xs) % 2 ≡ cond (f (get_or xs i d)) 1 0
  mask_here = rw (drop_next xs i d h) (mask_odd f (get_or xs i d) (drop (i + 1) xs))

  pub mask_after : mask_of f (drop i xs) / 2 ≡ mask_of f (drop (i + 1) xs)
  mask_after = rw (drop_next xs i d h) (mask_half f (get_or xs i d) (drop (i + 1) xs))

-- ---- Walked

cons_head {ℓ} : {A : Type ℓ} (d : A) {x y : A} {xs ys : List A} → x ∷ xs ≡ y ∷ ys → x ≡ y
cons_head d e = ap (λ l. get_or l 0 d) e

cons_tail {ℓ} : {A : Type ℓ} {x y : A} {xs ys : List A} → x ∷ xs ≡ y ∷ ys → xs ≡ ys
cons_tail e = ap (λ l. drop 1 l) e

module _ {A S : Type 0} (out : ℕ → S → A → A) (next : ℕ → S → S) where
  -- i elements are done
  pub record Walked (m₀ : ℕ) (a₀ : S) (xs : List A) (m : ℕ) (a : S) (i : ℕ) (ys : List A) : Type 0 where
    pub within : i ≤ length xs
    pub same : length ys ≡ length xs
    pub done : ys ≡ take i (walk out next m₀ a₀ xs) ++ drop i xs
    pub left : drop i (walk out next m₀ a₀ xs) ≡ walk out next m a (drop i xs)

  pub walk_start : (m : ℕ) (a : S) (xs : List A) → Walked m a xs m a 0 xs
  walk_start m a xs = record { within = omega arith; same = refl; done = refl; left = refl }

  module _ {m₀ : ℕ} {a₀ : S} {xs : List A} {m : ℕ} {a : S} {i : ℕ} {ys : List A} (w : Walked m₀ a₀ xs m a i ys) (d : A) (h : i < length xs) where
    all : List A
    all = walk out next m₀ a₀ xs

    inside : i < length all
    unfolding all
    inside = omega (arith, length_walk out next m₀ a₀ xs)

    split : get_or all i d ∷ drop (i + 1) all ≡ out (m % 2) a (get_or xs i d) ∷ walk out next (m / 2) (next (m % 2) a) (drop (i + 1) xs)
    unfolding all walk
    split = sym (drop_next all i d inside) ∙ w.left ∙ ap (walk out next m a) (drop_next xs i d h)

    seam : ys ≡ take i all ++ (get_or xs i d ∷ drop (i + 1) xs)
    unfolding all
    seam = w.done ∙ ap (λ (l : List A). take i all ++ l) (drop_next xs i d h)

    before : length (take i all) ≡ i
    before = length-take-le i all (omega (arith, inside))

    pub walk_read : get_or ys i d ≡ get_or xs i d
    walk_read = ap (λ (l : List A). get_or l i d) seam ∙ get_or_at (take i all) (get_or xs i d) (drop (i + 1) xs) d i before

    pub walk_step : {v : A} {m' : ℕ} {a' : S} → v ≡ out (m % 2) a (get_or xs i d) → m' ≡ m / 2 → a' ≡ next (m % 2) a → Walked m₀ a₀ xs m' a' (i + 1) (set ys i v)
    unfolding all
    walk_step {v} {m'} {a'} e em ea =
        let here : v ≡ get_or all i d = e ∙ sym (cons_head d split) in
        let written : set ys i v ≡ take i all ++ (v ∷ drop (i + 1) xs) =
        ap (λ (l : List A). set l i v) seam ∙ set_at (take i all) (get_or xs i d) (drop (i + 1) xs) v i before in
        record {
          within = omega arith;
          same = length-set ys i v ∙ w.same;
          done = written ∙ rw (here, take_next all i d inside, append_assoc);
          left = cons_tail split ∙ rw (em, ea);
        }

  pub walk_end : {m₀ : ℕ} {a₀ : S} {xs : List A} {m : ℕ} {a : S} {i : ℕ} {ys : List A} → Walked m₀ a₀ xs m a i ys → length xs ≤ i → ys ≡ walk out next m₀ a₀ xs
  walk_end {m₀} {a₀} {xs} {m} {a} {i} {ys} w h =
      w.done ∙ rw (take_all i (walk out next m₀ a₀ xs) (omega (arith, length_walk out next m₀ a₀ xs)), drop_end xs i h) (append-nil _)
