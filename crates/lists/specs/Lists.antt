-- Lists: counting, searching, testing. Each recursion is on a list or on a count, so that it computes and a loop's proof follows it.
use Rattle.std.specs.Prelude.{ℕ, zero, suc, ◌+◌, max, Bool, true, false, cond, List, [], ◌∷◌, eqb, ltb, leb}
use Rattle.std.proofs.Math.Option.{Option, none, some}

module _ {ℓ} {A : Type ℓ} where
  -- `n` elements: `f` at `i`, `i + 1` and so on
  unfoldable pub counted : (ℕ → A) → ℕ → ℕ → List A
  counted f i zero = []
  counted f i (suc n) = f i ∷ counted f (suc i) n

  unfoldable pub every : (A → Bool) → List A → Bool
  every f [] = true
  every f (x ∷ xs) = let r = every f xs in cond (f x) r false

  unfoldable pub keep : (A → Bool) → List A → List A
  keep f [] = []
  keep f (x ∷ xs) = let r = keep f xs in cond (f x) (x ∷ r) r

  -- how many pass the test
  unfoldable pub count : (A → Bool) → List A → ℕ
  count f [] = 0
  count f (x ∷ xs) = cond (f x) 1 0 + count f xs

  unfoldable pub total : (A → ℕ) → List A → ℕ
  total f [] = 0
  total f (x ∷ xs) = f x + total f xs

  unfoldable pub is_some : Option A → Bool
  is_some none = false
  is_some (some x) = true

  -- a field of the last element; `d` if there is none
  unfoldable pub last_of {ℓ₁} : {B : Type ℓ₁} → (A → B) → B → List A → B
  last_of f d [] = d
  last_of f d (x ∷ xs) = last_of f (f x) xs

  -- the place of the first that passes the test, where the list's first place is numbered `i`
  unfoldable pub first_from : (A → Bool) → ℕ → List A → Option ℕ
  first_from f i [] = none
  first_from f i (x ∷ xs) = let r = first_from f (suc i) xs in cond (f x) (some i) r

-- every condition of the list holds
unfoldable pub all_of : List Bool → Bool
all_of [] = true
all_of (b ∷ bs) = let r = all_of bs in cond b r false

unfoldable pub same_numbers : List ℕ → List ℕ → Bool
same_numbers [] [] = true
same_numbers [] (y ∷ ys) = false
same_numbers (x ∷ xs) [] = false
same_numbers (x ∷ xs) (y ∷ ys) = let r = same_numbers xs ys in cond (eqb x y) r false

unfoldable pub is_in : ℕ → List ℕ → Bool
is_in n [] = false
is_in n (x ∷ xs) = let r = is_in n xs in cond (eqb n x) true r

-- how often `c` stands in the list
unfoldable pub uses : ℕ → List ℕ → ℕ
uses c xs = count (eqb c) xs

-- no number stands twice
unfoldable pub distinct : List ℕ → Bool
distinct [] = true
distinct (x ∷ xs) = let r = distinct xs in cond (is_in x xs) false r

-- the numbers rise: the first is above `low`, each other above the one before it, and none is above `high`
unfoldable pub rises : ℕ → ℕ → List ℕ → Bool
rises low high [] = true
rises low high (n ∷ ns) = let r = rises n high ns in cond (ltb low n) (cond (leb n high) r false) false

unfoldable pub all_zero : List ℕ → Bool
all_zero xs = every (λ x. eqb x 0) xs

-- 0 for no number
unfoldable pub largest : List ℕ → ℕ
largest [] = 0
largest (n ∷ ns) = max n (largest ns)
