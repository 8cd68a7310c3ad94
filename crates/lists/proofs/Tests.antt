-- Laws of tests: `cond`, `all_of`, `every`.
use mathlib.Core.Path.{◌≡◌, refl, sym, ap, ◌∙◌}
use mathlib.Core.Bool.{Bool, true, false, cond, not, ◌||◌, false≢true}
use mathlib.Core.List.{List, [], ◌∷◌, ◌++◌}
use Prim.Native.Nat.{ℕ, zero, suc, ◌<◌}
use native.Mathlib.Nat.{not-suc-le-zero, le_of_suc-le-suc}
use lib.ListN.{length, get_or, set, replicate}
use Rattle.lists.specs.Lists.{every, all_of}
use Rattle.lists.specs.Each.{Each}

-- ---- cond

-- a value by a test: what holds of both arms under what the test says holds of the value
pub by_test {ℓ κ} : {A : Type ℓ} (P : A → Type κ) (b : Bool) {x y : A} → (b ≡ true → P x) → (b ≡ false → P y) → P (cond b x y)
by_test P true f g = f refl
by_test P false f g = g refl

pub cond_true : (a b : Bool) → cond a b false ≡ true → (a ≡ true) × (b ≡ true)
cond_true true b e = (refl, e)
cond_true false b e = absurd (false≢true e)

pub cond_self : (b : Bool) → cond b true false ≡ b
cond_self true = refl
cond_self false = refl

pub cond_never : (b : Bool) → cond b false false ≡ false
cond_never true = refl
cond_never false = refl

pub or_false : (a b : Bool) → a || b ≡ false → (a ≡ false) × (b ≡ false)
or_false true b e = absurd (false≢true (sym e))
or_false false b e = (refl, e)

pub or_true : (a : Bool) → a || true ≡ true
or_true true = refl
or_true false = refl

pub or_left : (a b : Bool) → a ≡ true → a || b ≡ true
or_left true b e = refl
or_left false b e = absurd (false≢true e)

pub not_not : (b : Bool) → not b ≡ false → b ≡ true
not_not true e = refl
not_not false e = absurd (false≢true (sym e))

-- ---- all_of

-- condition i of a list of conditions that all hold
pub clause : (bs : List Bool) (i : ℕ) → all_of bs ≡ true → get_or bs i true ≡ true
unfolding all_of
clause [] i h = refl
clause (b ∷ bs) zero h = (cond_true b (all_of bs) h).0
clause (b ∷ bs) (suc i) h = clause bs i (cond_true b (all_of bs) h).1

-- a list of conditions holds if each does
pub all_true : (bs : List Bool) → Each (λ (b : Bool). b ≡ true) bs → all_of bs ≡ true
unfolding all_of
all_true [] h = refl
all_true (b ∷ bs) h = rw h.0 (all_true bs h.1)

-- one that does not hold
pub all_false : (bs : List Bool) (i : ℕ) → get_or bs i true ≡ false → all_of bs ≡ false
unfolding all_of
all_false [] i h = absurd (false≢true (sym h))
all_false (b ∷ bs) zero h = rw h
all_false (b ∷ bs) (suc i) h = ap (λ (t : Bool). cond b t false) (all_false bs i h) ∙ cond_never b

-- where all others hold, the last decides
pub all_last : (bs : List Bool) (b : Bool) → Each (λ (x : Bool). x ≡ true) bs → all_of (bs ++ (b ∷ [])) ≡ b
unfolding all_of
all_last [] b h = cond_self b
all_last (c ∷ cs) b h = rw h.0 (all_last cs b h.1)

-- ---- every

pub every_head {ℓ} : {A : Type ℓ} (f : A → Bool) (x : A) (xs : List A) → every f (x ∷ xs) ≡ true → f x ≡ true
unfolding every
every_head f x xs e = (cond_true (f x) (every f xs) e).0

pub every_tail {ℓ} : {A : Type ℓ} (f : A → Bool) (x : A) (xs : List A) → every f (x ∷ xs) ≡ true → every f xs ≡ true
unfolding every
every_tail f x xs e = (cond_true (f x) (every f xs) e).1

pub every_at : {A : Type 0} (f : A → Bool) (d : A) (xs : List A) → every f xs ≡ true → (i : ℕ) → i < length xs → f (get_or xs i d) ≡ true
every_at f d [] h i b = absurd (not-suc-le-zero b)
every_at f d (x ∷ xs) h zero b = every_head f x xs h
every_at f d (x ∷ xs) h (suc i) b = every_at f d xs (every_tail f x xs h) i (le_of_suc-le-suc b)

-- one that does not pass
pub every_not {ℓ} : {A : Type ℓ} (f : A → Bool) (d : A) (xs : List A) (i : ℕ) → i < length xs → f (get_or xs i d) ≡ false → every f xs ≡ false
unfolding every
every_not f d [] i h e = absurd (not-suc-le-zero h)
every_not f d (x ∷ xs) zero h e = rw e
every_not f d (x ∷ xs) (suc i) h e = ap (λ (t : Bool). cond (f x) t false) (every_not f d xs i (le_of_suc-le-suc h) e) ∙ cond_never (f x)

pub every_set {ℓ} : {A : Type ℓ} (f : A → Bool) (xs : List A) (k : ℕ) (y : A) → every f xs ≡ true → f y ≡ true → every f (set xs k y) ≡ true
unfolding every
every_set f [] k y h e = refl
every_set f (x ∷ xs) zero y h e = rw e (every_tail f x xs h)
every_set f (x ∷ xs) (suc k) y h e = rw (every_head f x xs h) (every_set f xs k y (every_tail f x xs h) e)

pub every_replicate {ℓ} : {A : Type ℓ} (f : A → Bool) (n : ℕ) (x : A) → f x ≡ true → every f (replicate n x) ≡ true
unfolding every
every_replicate f zero x h = refl
every_replicate f (suc n) x h = rw h (every_replicate f n x h)
