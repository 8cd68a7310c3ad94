-- Laws of `set` and `sets` that the library does not have.
use mathlib.Core.Path.{◌≡◌, refl, sym, ap, ◌∙◌}
use mathlib.Core.Logic.{◌⊎◌, inl, inr}
use mathlib.Core.Bool.{Bool, true, false, cond}
use mathlib.Core.List.{List, [], ◌∷◌, map, ◌++◌}
use Prim.Native.Nat.{ℕ, zero, suc, ◌+◌, ◌-◌, ◌≤◌, ◌<◌}
use native.Mathlib.Nat.{add-zero, suc-add, add-suc, not-suc-le-zero, le_of_suc-le-suc, suc-ne-zero, suc_inj, zero-add}
use native.Mathlib.Numerals.{add-one}
use native.Mathlib.Omega.{arith}
use lib.ListN.{length, get_or, set, length-set, take, drop}
use lib.Seq.{sets, get_or-set_same, get_or-set_other}
use lib.Dec.{ltb, leb, eqb, eqb-suc-suc}
use borrow.Author.Tests.{leb-true, leb-false, ltb-true, ltb-false, ne_eqb}

module _ {ℓ} {A : Type ℓ} where
  pub set_append_add : (xs ys : List A) (n : ℕ) (v : A) → set (xs ++ ys) (length xs + n) v ≡ xs ++ set ys n v
  set_append_add [] ys n v = rw zero-add
  set_append_add (x ∷ xs) ys n v = rw suc-add (ap {B = List A} (λ r. x ∷ r) (set_append_add xs ys n v))

  -- what comes before i, the element put there, and more
  pub take_put : (xs ys : List A) (i : ℕ) (v : A) → i < length xs → take (i + 1) (set xs i v) ++ ys ≡ take i xs ++ (v ∷ ys)
  take_put xs ys i v h = rw (add-one i) (go xs i h)
    where
      go : (xs : List A) (i : ℕ) → i < length xs → take (suc i) (set xs i v) ++ ys ≡ take i xs ++ (v ∷ ys)
      go [] i h = absurd (not-suc-le-zero h)
      go (x ∷ xs) zero h = refl
      go (x ∷ xs) (suc i) h = ap {B = List A} (λ r. x ∷ r) (go xs i (le_of_suc-le-suc h))

  -- what holds at every place outlives a write of what it holds of
  pub set_any : (P : A → Type 0) (d : A) (xs : List A) (k : ℕ) (v : A) → P v → ((j : ℕ) → P (get_or xs j d)) → (j : ℕ) → P (get_or (set xs k v) j d)
  set_any P d [] k v hv h j = h j
  set_any P d (x ∷ xs) zero v hv h zero = hv
  set_any P d (x ∷ xs) zero v hv h (suc j) = h (suc j)
  set_any P d (x ∷ xs) (suc k) v hv h zero = h 0
  set_any P d (x ∷ xs) (suc k) v hv h (suc j) = set_any P d xs k v hv (λ n. h (suc n)) j

pub map_set {ℓ κ} : {A : Type ℓ} {B : Type κ} (f : A → B) (l : List A) (i : ℕ) (x : A) → map f (set l i x) ≡ set (map f l) i (f x)
map_set f [] i x = refl
map_set f (a ∷ l) zero x = refl
map_set f (a ∷ l) (suc i) x = rw (map_set f l i x)

pub map_at : {A B : Type 0} (f : A → B) (xs : List A) (j : ℕ) (d : A) (e : B) → j < length xs → get_or (map f xs) j e ≡ f (get_or xs j d)
map_at f [] j d e h = absurd (not-suc-le-zero h)
map_at f (x ∷ xs) zero d e h = refl
map_at f (x ∷ xs) (suc j) d e h = map_at f xs j d e (le_of_suc-le-suc h)

pub upd_same {ℓ} : {A : Type ℓ} (g : A → A) (d : A) (xs : List A) (k : ℕ) → g d ≡ d → get_or (set xs k (g (get_or xs k d))) k d ≡ g (get_or xs k d)
upd_same g d [] k e = sym e
upd_same g d (x ∷ xs) zero e = refl
upd_same g d (x ∷ xs) (suc k) e = upd_same g d xs k e

pub set_agree : {A : Type 0} (d : A) (xs ys : List A) (n : ℕ) (x : A) (t : ℕ) → length xs ≡ length ys → get_or xs t d ≡ get_or ys t d → get_or (set xs n x) t d ≡ get_or (set ys n x) t d
set_agree d [] [] n x t l e = e
set_agree d [] (y ∷ ys) n x t l e = absurd (suc-ne-zero (length ys) (sym l))
set_agree d (z ∷ xs) [] n x t l e = absurd (suc-ne-zero (length xs) l)
set_agree d (z ∷ xs) (y ∷ ys) zero x zero l e = refl
set_agree d (z ∷ xs) (y ∷ ys) zero x (suc t) l e = e
set_agree d (z ∷ xs) (y ∷ ys) (suc n) x zero l e = e
set_agree d (z ∷ xs) (y ∷ ys) (suc n) x (suc t) l e = set_agree d xs ys n x t (suc_inj l) e

-- ---- a run of stores

-- before a run, after it, or at a place of it
pub within_run : (c at n : ℕ) → (c < at) ⊎ ((at + n ≤ c) ⊎ ((j : ℕ) × (c ≡ at + j) × (j < n)))
within_run c at n = go (ltb c at) refl (leb (at + n) c) refl
  where
    go : (t : Bool) → ltb c at ≡ t → (q : Bool) → leb (at + n) c ≡ q → (c < at) ⊎ ((at + n ≤ c) ⊎ ((j : ℕ) × (c ≡ at + j) × (j < n)))
    go true e q f = inl (ltb-true c at e)
    go false e true f = inr (inl (leb-true (at + n) c f))
    go false e false f = inr (inr (c - at, omega (arith, ltb-false c at e), omega (arith, ltb-false c at e, leb-false (at + n) c f)))

pub sets_before : {A : Type 0} (d : A) (vs xs : List A) (at c : ℕ) → c < at → get_or (sets xs at vs) c d ≡ get_or xs c d
sets_before d [] xs at c h = refl
sets_before d (v ∷ vs) xs at c h =
    sets_before d vs (set xs at v) (suc at) c (omega (arith, h)) ∙ get_or-set_other xs at c v d (λ e. omega (arith, h, e))

pub sets_after : {A : Type 0} (d : A) (vs xs : List A) (at c : ℕ) → at + length vs ≤ c → get_or (sets xs at vs) c d ≡ get_or xs c d
sets_after d [] xs at c h = refl
sets_after d (v ∷ vs) xs at c h =
    sets_after d vs (set xs at v) (suc at) c (omega (arith, h)) ∙ get_or-set_other xs at c v d (λ e. omega (arith, h, e))

pub sets_in : {A : Type 0} (d : A) (vs xs : List A) (at j : ℕ) → j < length vs → at + length vs ≤ length xs → get_or (sets xs at vs) (at + j) d ≡ get_or vs j d
sets_in d [] xs at j h l = absurd (not-suc-le-zero h)
sets_in d (v ∷ vs) xs at zero h l =
    ap (λ (n : ℕ). get_or (sets (set xs at v) (suc at) vs) n d) (add-zero at)
    ∙ sets_before d vs (set xs at v) (suc at) at (omega arith) ∙ get_or-set_same xs at v d (omega (arith, l))
sets_in d (v ∷ vs) xs at (suc j) h l =
    ap (λ (n : ℕ). get_or (sets (set xs at v) (suc at) vs) n d) (add-suc at j ∙ sym (suc-add at j))
    ∙ sets_in d vs (set xs at v) (suc at) j (le_of_suc-le-suc h) (omega (arith, l, length-set xs at v))

pub two_set : (ws : List ℕ) (a b : ℕ) → 2 ≤ length ws → set (set ws 0 a) 1 b ≡ a ∷ b ∷ drop 2 ws
two_set [] a b h = absurd (omega (arith, h))
two_set (x ∷ []) a b h = absurd (omega (arith, h))
two_set (x ∷ y ∷ ws) a b h = refl

pub three_set : (ws : List ℕ) (a b c : ℕ) → 3 ≤ length ws → set (set (set ws 0 a) 1 b) 2 c ≡ a ∷ b ∷ c ∷ drop 3 ws
three_set [] a b c h = absurd (omega (arith, h))
three_set (x ∷ []) a b c h = absurd (omega (arith, h))
three_set (x ∷ y ∷ []) a b c h = absurd (omega (arith, h))
three_set (x ∷ y ∷ z ∷ ws) a b c h = refl

pub set_false : (fs : List Bool) (x c : ℕ) → get_or (set fs x false) c false ≡ cond (eqb c x) false (get_or fs c false)
set_false [] x c = go (eqb c x)
  where
    go : (t : Bool) → false ≡ cond t false false
    go true = refl
    go false = refl
set_false (f ∷ fs) zero zero = refl
set_false (f ∷ fs) zero (suc c) = rw (ne_eqb (suc c) 0 (λ e. omega arith))
set_false (f ∷ fs) (suc x) zero = rw (ne_eqb 0 (suc x) (λ e. omega arith))
set_false (f ∷ fs) (suc x) (suc c) = set_false fs x c ∙ ap (λ (t : Bool). cond t false (get_or fs c false)) (sym (eqb-suc-suc c x))
