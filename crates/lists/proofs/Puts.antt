-- A part put among parts, and the first found.
use mathlib.Core.Path.{◌≡◌, ap, refl, subst, sym, ◌∙◌}
use mathlib.Core.Bool.{Bool, true, false, cond}
use mathlib.Core.List.{List, [], ◌++◌, ◌∷◌, append_assoc, map}
use mathlib.Core.Option.{none, some}
use Prim.Native.Nat.{◌*◌, ◌+◌, ◌-◌, ◌<◌, ◌≤◌, suc, zero, ℕ}
use native.Mathlib.Nat.{le_of_suc-le-suc, not-suc-le-zero, suc-mul, zero-mul}
use native.Mathlib.Numerals.{add-one}
use native.Mathlib.Omega.{arith}
use lib.ListN.{drop, get_or, length, length-drop, set, take}
use lib.Seq.{drop_at, drop-drop, length-take-le, take-add, take_at}
use borrow.Author.Tests.{le-ltb, lt-ltb}
use Rattle.lists.specs.Lists.{first_from}
use Rattle.lists.specs.Rows.{parts}
use Rattle.lists.specs.Search.{as_option}
use Rattle.lists.proofs.First.{Lowest, first_lowest}
use Rattle.lists.proofs.Slices.{drop_next, drop_end}

pub get_d_any {ℓ} : {A : Type ℓ} (l : List A) (k : ℕ) (d e : A) → k < length l → get_or l k d ≡ get_or l k e
get_d_any [] k d e h = absurd (not-suc-le-zero h)
get_d_any (x ∷ l) zero d e h = refl
get_d_any (x ∷ l) (suc k) d e h = get_d_any l k d e (le_of_suc-le-suc h)

-- part i replaced by another of as many elements
pub parts_put {ℓ} : {A : Type ℓ} (k n i : ℕ) (ws b : List A) → i < n → n * k ≤ length ws → length b ≡ k
    → parts k n (take (i * k) ws ++ (b ++ drop k (drop (i * k) ws))) ≡ set (parts k n ws) i b
unfolding parts
parts_put k zero i ws b h l e = absurd (not-suc-le-zero h)
parts_put k (suc n) zero ws b h l e = rw (zero-mul, take_at b (drop k ws) k e, drop_at b (drop k ws) k e)
parts_put {A = A} k (suc n) (suc i) ws b h l e =
    let p : suc i * k ≡ k + i * k = omega (arith, suc-mul i k) in
    let lt : length (take k ws) ≡ k = length-take-le k ws (omega (arith, suc-mul n k)) in
    let tail : List A = take (i * k) (drop k ws) ++ (b ++ drop k (drop (i * k) (drop k ws))) in
    let whole : take (suc i * k) ws ++ (b ++ drop k (drop (suc i * k) ws)) ≡ take k ws ++ tail =
    rw (p, take-add, append_assoc, drop-drop (i * k) k ws) in
    rw (whole, take_at (take k ws) tail k lt, drop_at (take k ws) tail k lt)
    (ap (λ (r : List (List A)). take k ws ∷ r) (parts_put k n i (drop k ws) b (le_of_suc-le-suc h) (omega (arith, suc-mul n k, length-drop k ws)) e))

-- the first that passes is one of the list, and passes
pub first_found : {A : Type 0} (d : A) (f : A → Bool) (xs : List A) (k : ℕ) → first_from f 0 xs ≡ some k → (k < length xs) × (f (get_or xs k d) ≡ true)
first_found d f xs k e =
    let w : Lowest f d 0 xs (some k) = subst (Lowest f d 0 xs) e (first_lowest f d 0 xs) in
    let z : w.0 ≡ k = omega arith in
    (rw z at w.2, rw z at w.3)

-- the search at element k
pub first_step : {A : Type 0} (f : A → Bool) (d : A) (xs : List A) (k : ℕ) → k < length xs
    → first_from f k (drop k xs) ≡ cond (f (get_or xs k d)) (some k) (first_from f (k + 1) (drop (k + 1) xs))
unfolding first_from
first_step f d xs k h = rw (drop_next xs k d h, add-one k)

-- one function after another
pub map_then {ℓ κ μ} : {A : Type ℓ} {B : Type κ} {C : Type μ} (f : A → C) (g : B → C) (h : A → B) → ((x : A) → f x ≡ g (h x)) → (xs : List A) → map f xs ≡ map g (map h xs)
map_then f g h e [] = refl
map_then f g h e (x ∷ xs) = rw (e x, map_then f g h e xs)

module _ {A : Type 0} (f : A → Bool) (d : A) (xs : List A) (k : ℕ) where
  pub first_yes : k < length xs → true ≡ f (get_or xs k d) → as_option (length xs) k ≡ first_from f k (drop k xs)
  first_yes h e = rw (lt-ltb k (length xs) h) (sym (first_step f d xs k h ∙ rw (← e)))

  pub first_no : k < length xs → false ≡ f (get_or xs k d) → first_from f k (drop k xs) ≡ first_from f (k + 1) (drop (k + 1) xs)
  first_no h e = first_step f d xs k h ∙ rw (← e)

  pub first_end : length xs ≤ k → as_option (length xs) k ≡ first_from f k (drop k xs)
  unfolding first_from
  first_end h = rw (le-ltb k (length xs) h, drop_end xs k h)

-- what each place has like the next one, the first has like the last
pub same_over : {A : Type 0} (g : ℕ → A) (k r : ℕ) → k ≤ r → ((j : ℕ) → k ≤ j → j < r → g j ≡ g (j + 1)) → g k ≡ g r
same_over {A} g k r l h = let w : k + (r - k) ≡ r = omega arith in rw w at (go (r - k) (omega arith))
  where
    go : (d : ℕ) → k + d ≤ r → g k ≡ g (k + d)
    go zero q = let z : k + 0 ≡ k = omega arith in rw z
    go (suc d) q = let z : k + suc d ≡ k + d + 1 = omega arith in rw z (go d (omega arith) ∙ h (k + d) (omega arith) (omega arith))

-- ---- a search's answer

pub as_some : (n k : ℕ) → k < n → as_option n k ≡ some k
as_some n k h = rw (lt-ltb k n h)

pub as_none : (n k : ℕ) → n ≤ k → as_option n k ≡ none
as_none n k h = rw (le-ltb k n h)
