-- Laws of `Each`: what holds of every element.
use mathlib.Core.Path.{◌≡◌, refl, sym, subst}
use mathlib.Core.Bool.{Bool, true, false, cond, false≢true}
use mathlib.Core.List.{List, [], ◌∷◌, ◌++◌, map}
use Prim.Native.Nat.{ℕ, zero, suc, ◌<◌, suc-le-suc}
use native.Mathlib.Nat.{not-suc-le-zero, le_of_suc-le-suc, zero-lt-suc}
use native.Mathlib.Omega.{arith}
use lib.ListN.{length, get_or, set, take, drop, replicate}
use lib.Seq.{sets}
use lib.Dec.{eqb}
use borrow.Author.Tests.{eqb-true}
use Rattle.lists.specs.Lists.{counted, every, keep, is_in}
use Rattle.lists.specs.Rows.{joined, rows}
use Rattle.lists.specs.Each.{Each}
use Rattle.lists.proofs.Tests.{every_head, every_tail}

-- ---- by place, and lists that are changed

module _ {ℓ} {A : Type ℓ} (P : A → Type 0) where
  pub each_all : ((x : A) → P x) → (xs : List A) → Each P xs
  each_all f [] = tt
  each_all f (x ∷ xs) = (f x, each_all f xs)

  pub each_at : (d : A) (xs : List A) → Each P xs → (i : ℕ) → i < length xs → P (get_or xs i d)
  each_at d [] e i h = absurd (not-suc-le-zero h)
  each_at d (x ∷ xs) e zero h = e.0
  each_at d (x ∷ xs) e (suc i) h = each_at d xs e.1 i (le_of_suc-le-suc h)

  pub each_of : (d : A) (xs : List A) → ((i : ℕ) → i < length xs → P (get_or xs i d)) → Each P xs
  each_of d [] f = tt
  each_of d (x ∷ xs) f = (f 0 (omega arith), each_of d xs (λ i h. f (suc i) (omega arith)))

  pub each_set : (xs : List A) (i : ℕ) (x : A) → Each P xs → P x → Each P (set xs i x)
  each_set [] i x e p = tt
  each_set (y ∷ ys) zero x e p = (p, e.1)
  each_set (y ∷ ys) (suc i) x e p = (e.0, each_set ys i x e.1 p)

  pub each_take : (n : ℕ) (xs : List A) → Each P xs → Each P (take n xs)
  each_take zero xs e = tt
  each_take (suc n) [] e = tt
  each_take (suc n) (x ∷ xs) e = (e.0, each_take n xs e.1)

  pub each_drop : (k : ℕ) (xs : List A) → Each P xs → Each P (drop k xs)
  each_drop zero xs h = h
  each_drop (suc k) [] h = tt
  each_drop (suc k) (x ∷ xs) h = each_drop k xs h.1

-- a number that is in the list
pub each_in : (P : ℕ → Type 0) (n : ℕ) (xs : List ℕ) → is_in n xs ≡ true → Each P xs → P n
unfolding is_in
each_in P n [] h e = absurd (false≢true h)
each_in P n (x ∷ xs) h e = go (eqb n x) refl h (λ g. each_in P n xs g e.1)
  where
    go : (b : Bool) → eqb n x ≡ b → cond b true (is_in n xs) ≡ true → (is_in n xs ≡ true → P n) → P n
    go true q h f = subst P (sym (eqb-true n x q)) e.0
    go false q h f = f h

-- what follows from what holds
pub each_weaken {ℓ} : {A : Type ℓ} (P Q : A → Type 0) → ((x : A) → P x → Q x) → (xs : List A) → Each P xs → Each Q xs
each_weaken P Q f [] h = tt
each_weaken P Q f (x ∷ xs) h = (f x h.0, each_weaken P Q f xs h.1)

pub each_both : {A : Type 0} (P Q : A → Type 0) (xs : List A) → Each P xs → Each Q xs → Each (λ (x : A). P x × Q x) xs
each_both P Q [] h g = tt
each_both P Q (x ∷ xs) h g = ((h.0, g.0), each_both P Q xs h.1 g.1)

-- ---- tests

pub every_each : {A : Type 0} (f : A → Bool) (P : A → Type 0) → ((x : A) → f x ≡ true → P x) → (xs : List A) → every f xs ≡ true → Each P xs
every_each f P g [] h = tt
every_each f P g (x ∷ xs) h = (g x (every_head f x xs h), every_each f P g xs (every_tail f x xs h))

pub every_each₂ : {A : Type 0} (P : A → Type 0) (f g : A → Bool) → ((x : A) → f x ≡ true → g x ≡ true → P x) → (xs : List A) → every f xs ≡ true → every g xs ≡ true → Each P xs
every_each₂ P f g h [] a b = tt
every_each₂ P f g h (x ∷ xs) a b =
    (h x (every_head f x xs a) (every_head g x xs b), every_each₂ P f g h xs (every_tail f x xs a) (every_tail g x xs b))

pub each_every : {A : Type 0} (P : A → Type 0) (f : A → Bool) → ((x : A) → P x → f x ≡ true) → (xs : List A) → Each P xs → every f xs ≡ true
unfolding every
each_every P f g [] h = refl
each_every P f g (x ∷ xs) h = rw (g x h.0) (each_every P f g xs h.1)

-- ---- lists that are made or changed

pub each_sets : {A : Type 0} (P : A → Type 0) (ys xs : List A) (k : ℕ) → Each P xs → Each P ys → Each P (sets xs k ys)
each_sets P [] xs k h g = h
each_sets P (y ∷ ys) xs k h g = each_sets P ys (set xs k y) (suc k) (each_set P xs k y h g.0) g.1

pub each_upd : {A : Type 0} (P : A → Type 0) (g : A → A) (d : A) → ((x : A) → P x → P (g x)) → (xs : List A) (k : ℕ) → Each P xs → Each P (set xs k (g (get_or xs k d)))
each_upd P g d f [] k h = tt
each_upd P g d f (x ∷ xs) zero h = (f x h.0, h.1)
each_upd P g d f (x ∷ xs) (suc k) h = (h.0, each_upd P g d f xs k h.1)

pub each_append : {A : Type 0} (P : A → Type 0) (xs ys : List A) → Each P xs → Each P ys → Each P (xs ++ ys)
each_append P [] ys h g = g
each_append P (x ∷ xs) ys h g = (h.0, each_append P xs ys h.1 g)

pub each_replicate : {A : Type 0} (P : A → Type 0) (n : ℕ) (x : A) → P x → Each P (replicate n x)
each_replicate P zero x p = tt
each_replicate P (suc n) x p = (p, each_replicate P n x p)

pub each_map {ℓ κ} : {A : Type ℓ} {B : Type κ} (P : B → Type 0) (f : A → B) (xs : List A) → Each (λ x. P (f x)) xs → Each P (map f xs)
each_map P f [] e = tt
each_map P f (x ∷ xs) e = (e.0, each_map P f xs e.1)

pub each_map_at : {A B : Type 0} (P : B → Type 0) (f : A → B) (d : A) (xs : List A) → ((j : ℕ) → j < length xs → P (f (get_or xs j d))) → Each P (map f xs)
each_map_at P f d [] h = tt
each_map_at P f d (x ∷ xs) h = (h 0 (zero-lt-suc (length xs)), each_map_at P f d xs (λ j l. h (suc j) (suc-le-suc l)))

pub each_counted : {A : Type 0} (P : A → Type 0) (f : ℕ → A) → ((j : ℕ) → P (f j)) → (i n : ℕ) → Each P (counted f i n)
unfolding counted
each_counted P f g i zero = tt
each_counted P f g i (suc n) = (g i, each_counted P f g (suc i) n)

pub each_joined : {A B : Type 0} (P : B → Type 0) (Q : A → Type 0) (f : A → List B) → ((x : A) → Q x → Each P (f x)) → (xs : List A) → Each Q xs → Each P (rows f xs)
unfolding joined
each_joined P Q f g [] h = tt
each_joined P Q f g (x ∷ xs) h = each_append P (f x) (rows f xs) (g x h.0) (each_joined P Q f g xs h.1)

-- of those that are kept
pub keep_each : {A : Type 0} (P : A → Type 0) (t : A → Bool) (xs : List A) → Each P xs → Each P (keep t xs)
unfolding keep
keep_each P t [] e = tt
keep_each P t (x ∷ xs) e = go (t x) (keep_each P t xs e.1)
  where
    go : (b : Bool) → Each P (keep t xs) → Each P (cond b (x ∷ keep t xs) (keep t xs))
    go true r = (e.0, r)
    go false r = r
