-- Laws of masks: a mask's bits, their number and the first, and one bit set or cleared.
use mathlib.Core.Path.{◌≡◌, refl, sym, ap, ◌∙◌}
use mathlib.Core.Bool.{Bool, true, false, cond}
use mathlib.Core.List.{List, [], ◌∷◌, map}
use mathlib.Core.Option.{some}
use Prim.Native.Nat.{ℕ, zero, suc, ◌+◌, ◌-◌, ◌*◌, ◌/◌, ◌%◌, ◌^◌, ◌≤◌, ◌<◌}
use native.Mathlib.Nat.{pow-suc, one-mul, mul-le-mul_right, add-zero}
use native.Mathlib.Numerals.{one-add}
use native.Mathlib.Omega.{arith}
use lib.ListN.{length, get_or, set, replicate}
use lib.Pow.{pow_pos, shl_exact, shr-shr, split}
use lib.Bits.{bit_and, and_step, and_self}
use lib.Count.{ones, ones_step, count_trailing_zeros, under}
use lib.Dec.{lit<}
use Rattle.lists.specs.Lists.{count, first_from}
use Rattle.lists.specs.Masks.{mask_of}

-- ---- the lowest bit and the rest

pub bit_le_one : (b : Bool) → cond b 1 0 ≤ 1
bit_le_one true = omega arith
bit_le_one false = omega arith

pub bit_true : (b : Bool) → ◌≡◌ {A = ℕ} (cond b 1 0) 1 → b ≡ true
bit_true true e = refl
bit_true false e = absurd (omega arith)

pub bit_false : (b : Bool) → ◌≡◌ {A = ℕ} (cond b 1 0) 0 → b ≡ false
bit_false true e = absurd (omega arith)
bit_false false e = refl

pub half : (b : Bool) (m : ℕ) → (cond b 1 0 + 2 * m) / 2 ≡ m
half b m = omega (arith, bit_le_one b)

pub odd : (b : Bool) (m : ℕ) → (cond b 1 0 + 2 * m) % 2 ≡ cond b 1 0
odd b m = omega (arith, bit_le_one b)

-- ---- bit i of a number, n / 2 ^ i % 2

pub bit_zero : (n : ℕ) → n / 2 ^ 0 % 2 ≡ n % 2
bit_zero n = omega arith

-- the bits of a half
pub half_bit : (n i : ℕ) → n / 2 / 2 ^ i % 2 ≡ n / 2 ^ suc i % 2
half_bit n i = ap (λ (x : ℕ). x % 2) (shr-shr n 1 i ∙ ap (λ (x : ℕ). n / 2 ^ x) (one-add i))

-- a bit that is set is within the number
pub bit_le : (n i : ℕ) → n / 2 ^ i % 2 ≡ 1 → 2 ^ i ≤ n
bit_le n i h =
    let q : 1 * 2 ^ i ≤ n / 2 ^ i * 2 ^ i = mul-le-mul_right (2 ^ i) (omega arith) in
    omega (arith, split n i, one-mul (2 ^ i))

-- a one shifted left within a word of w bits
pub one_shl : (i w : ℕ) → i < w → 1 * 2 ^ i % 2 ^ w ≡ 2 ^ i
one_shl i w h = shl_exact {a = 1} 1 i w (lit< tt) (omega arith) ∙ one-mul (2 ^ i)

-- bit i taken off
pub clear_at : (n i : ℕ) → n / 2 ^ i % 2 ≡ 1 → (n - 2 ^ i) / 2 ^ i % 2 ≡ 0
clear_at n zero h = omega arith
clear_at n (suc i) h =
    let a : (n - 2 ^ suc i) / 2 ≡ n / 2 - 2 ^ i = omega (arith, pow-suc 2 i, bit_le n (suc i) h) in
    sym (half_bit (n - 2 ^ suc i) i) ∙ rw a (clear_at (n / 2) i (half_bit n i ∙ h))

pub clear_other : (n i j : ℕ) → n / 2 ^ i % 2 ≡ 1 → (j ≡ i → ⊥) → (n - 2 ^ i) / 2 ^ j % 2 ≡ n / 2 ^ j % 2
clear_other n zero zero h d = absurd (d refl)
clear_other n zero (suc j) h d =
    let a : (n - 1) / 2 ≡ n / 2 = omega arith in
    sym (half_bit (n - 1) j) ∙ rw a (half_bit n j)
clear_other n (suc i) zero h d = omega (arith, pow-suc 2 i, bit_le n (suc i) h)
clear_other n (suc i) (suc j) h d =
    let a : (n - 2 ^ suc i) / 2 ≡ n / 2 - 2 ^ i = omega (arith, pow-suc 2 i, bit_le n (suc i) h) in
    sym (half_bit (n - 2 ^ suc i) j) ∙ rw a (clear_other (n / 2) i j (half_bit n i ∙ h) (λ e. d (ap suc e)) ∙ half_bit n j)

-- bit i put on
pub put_at : (n i : ℕ) → n / 2 ^ i % 2 ≡ 0 → (n + 2 ^ i) / 2 ^ i % 2 ≡ 1
put_at n zero h = omega arith
put_at n (suc i) h =
    let a : (n + 2 ^ suc i) / 2 ≡ n / 2 + 2 ^ i = omega (arith, pow-suc 2 i) in
    sym (half_bit (n + 2 ^ suc i) i) ∙ rw a (put_at (n / 2) i (half_bit n i ∙ h))

pub put_other : (n i j : ℕ) → n / 2 ^ i % 2 ≡ 0 → (j ≡ i → ⊥) → (n + 2 ^ i) / 2 ^ j % 2 ≡ n / 2 ^ j % 2
put_other n zero zero h d = absurd (d refl)
put_other n zero (suc j) h d =
    let a : (n + 1) / 2 ≡ n / 2 = omega arith in
    sym (half_bit (n + 1) j) ∙ rw a (half_bit n j)
put_other n (suc i) zero h d = omega (arith, pow-suc 2 i)
put_other n (suc i) (suc j) h d =
    let a : (n + 2 ^ suc i) / 2 ≡ n / 2 + 2 ^ i = omega (arith, pow-suc 2 i) in
    sym (half_bit (n + 2 ^ suc i) j) ∙ rw a (put_other (n / 2) i j (half_bit n i ∙ h) (λ e. d (ap suc e)) ∙ half_bit n j)

-- a number of k bits stays one
pub put_lt : (k n i : ℕ) → n / 2 ^ i % 2 ≡ 0 → i < k → n < 2 ^ k → n + 2 ^ i < 2 ^ k
put_lt zero n i h l b = absurd (omega arith)
put_lt (suc k) n zero h l b = omega (arith, pow-suc 2 k)
put_lt (suc k) n (suc i) h l b =
    omega (arith, pow-suc 2 k, pow-suc 2 i, put_lt k (n / 2) i (half_bit n i ∙ h) (omega arith) (omega (arith, pow-suc 2 k)))

-- ---- mask_of

module _ {ℓ} {A : Type ℓ} (f : A → Bool) where
  pub mask_half : (x : A) (xs : List A) → mask_of f (x ∷ xs) / 2 ≡ mask_of f xs
  unfolding mask_of
  mask_half x xs = half (f x) (mask_of f xs)

  pub mask_odd : (x : A) (xs : List A) → mask_of f (x ∷ xs) % 2 ≡ cond (f x) 1 0
  unfolding mask_of
  mask_odd x xs = odd (f x) (mask_of f xs)

  -- bit i
  pub mask_bit : (xs : List A) (i : ℕ) (d : A) → i < length xs → mask_of f xs / 2 ^ i % 2 ≡ cond (f (get_or xs i d)) 1 0
  mask_bit [] i d h = absurd (omega arith)
  mask_bit (x ∷ xs) zero d h = bit_zero (mask_of f (x ∷ xs)) ∙ mask_odd x xs
  mask_bit (x ∷ xs) (suc i) d h = sym (half_bit (mask_of f (x ∷ xs)) i) ∙ rw (mask_half x xs) (mask_bit xs i d (omega arith))

  -- a mask of k elements is below 2 ^ k
  pub mask_lt : (xs : List A) → mask_of f xs < 2 ^ length xs
  unfolding mask_of
  mask_lt [] = lit< tt
  mask_lt (x ∷ xs) = omega (arith, pow-suc 2 (length xs), mask_lt xs, bit_le_one (f x))

  -- the ones of a mask are those that pass
  pub ones_mask : (xs : List A) → ones (mask_of f xs) ≡ count f xs
  unfolding mask_of count ones
  ones_mask [] = refl
  ones_mask (x ∷ xs) = ones_step (mask_of f (x ∷ xs)) ∙ rw (mask_odd x xs, mask_half x xs, ones_mask xs)

  -- the element at i replaced
  pub mask_set : (xs : List A) (i : ℕ) (d x : A) → i < length xs
      → mask_of f (set xs i x) + cond (f (get_or xs i d)) (2 ^ i) 0 ≡ mask_of f xs + cond (f x) (2 ^ i) 0
  unfolding mask_of
  mask_set [] i d x l = absurd (omega arith)
  mask_set (y ∷ ys) zero d x l = omega arith
  mask_set (y ∷ ys) (suc i) d x l = omega (arith, twice (f (get_or ys i d)) i, twice (f x) i, mask_set ys i d x (omega arith))
    where
      twice : (b : Bool) (i : ℕ) → cond b (2 ^ suc i) 0 ≡ 2 * cond b (2 ^ i) 0
      twice true i = omega (arith, pow-suc 2 i)
      twice false i = omega arith

  -- by one that passes as it does
  pub mask_same : (xs : List A) (i : ℕ) (d x : A) → f x ≡ f (get_or xs i d) → mask_of f (set xs i x) ≡ mask_of f xs
  unfolding mask_of
  mask_same [] i d x e = refl
  mask_same (y ∷ ys) zero d x e = rw e
  mask_same (y ∷ ys) (suc i) d x e = rw (mask_same ys i d x e)

  -- one that passed, by one that does not
  pub mask_off : (xs : List A) (i : ℕ) (d x : A) → i < length xs → f (get_or xs i d) ≡ true → f x ≡ false → mask_of f (set xs i x) ≡ mask_of f xs - 2 ^ i
  mask_off xs i d x l a b = omega (arith, rw (a, b) at (mask_set xs i d x l))

  -- one that did not pass, by one that does
  pub mask_on : (xs : List A) (i : ℕ) (d x : A) → i < length xs → f (get_or xs i d) ≡ false → f x ≡ true → mask_of f (set xs i x) ≡ mask_of f xs + 2 ^ i
  mask_on xs i d x l a b = omega (arith, rw (a, b) at (mask_set xs i d x l))

-- the mask of a list's map
pub mask_map {ℓ κ} : {A : Type ℓ} {B : Type κ} (f : B → Bool) (g : A → B) (xs : List A) → mask_of f (map g xs) ≡ mask_of (λ x. f (g x)) xs
unfolding mask_of
mask_map f g [] = refl
mask_map f g (x ∷ xs) = rw (mask_map f g xs)

-- no bit for elements that do not pass
pub mask_replicate {ℓ} : {A : Type ℓ} (f : A → Bool) (n : ℕ) (x : A) → f x ≡ false → mask_of f (replicate n x) ≡ 0
unfolding mask_of
mask_replicate f zero x e = refl
mask_replicate f (suc n) x e = rw (e, mask_replicate f n x e)

-- ---- First

-- bit t of m is set, and none below it
pub data First : ℕ → ℕ → Type 0 where
  here : {m : ℕ} → m % 2 ≡ 1 → First m 0
  later : {m t : ℕ} → m % 2 ≡ 0 → First (m / 2) t → First m (suc t)

pub trailing_first : (w m : ℕ) → 0 < m → m < 2 ^ w → First m (count_trailing_zeros w m)
unfolding count_trailing_zeros
trailing_first zero m p l = absurd (omega arith)
trailing_first (suc w) m p l = go (m % 2) refl (λ q. trailing_first w (m / 2) q (omega (arith, pow-suc 2 w)))
  where
    go : (b : ℕ) → m % 2 ≡ b → (0 < m / 2 → First (m / 2) (count_trailing_zeros w (m / 2))) → First m (under b (count_trailing_zeros w (m / 2)))
    go zero e next = later e (next (omega arith))
    go (suc b) e next = here {m = m} (omega arith)

pub first_le : {m t : ℕ} → First m t → 2 ^ t ≤ m
first_le (here e) = omega arith
first_le (later {t = t} e f) = omega (arith, pow-suc 2 t, first_le f)

pub first_lt : {m t : ℕ} (k : ℕ) → First m t → m < 2 ^ k → t < k
first_lt {t = t} zero f l = absurd (omega (arith, first_le f, pow_pos t))
first_lt (suc k) (here e) l = omega arith
first_lt {m = m} (suc k) (later {t = t} e f) l = omega (arith, first_lt {m = m / 2} k f (omega (arith, pow-suc 2 k)))

-- the bit is set
pub first_bit : {m t : ℕ} → First m t → m / 2 ^ t % 2 ≡ 1
first_bit (here {m} e) = bit_zero m ∙ e
first_bit (later {m} {t} e f) = sym (half_bit m t) ∙ first_bit f

-- the ones that are left
pub first_ones : {m t : ℕ} → First m t → ones (m - 2 ^ t) + 1 ≡ ones m
first_ones (here {m} e) =
    let a : (m - 1) % 2 ≡ 0 = omega arith in
    let b : (m - 1) / 2 ≡ m / 2 = omega arith in
    rw (ones_step m, ones_step (m - 1), a, b, e) (omega arith)
first_ones (later {m} {t} e f) =
    let a : (m - 2 ^ suc t) % 2 ≡ 0 = omega (arith, pow-suc 2 t, first_le f) in
    let b : (m - 2 ^ suc t) / 2 ≡ m / 2 - 2 ^ t = omega (arith, pow-suc 2 t, first_le f) in
    rw (ones_step m, ones_step (m - 2 ^ suc t), a, b, e) (omega (arith, first_ones f))

-- the number and the number before it have all bits in common but those up to the first
pub first_and : {m t : ℕ} → First m t → bit_and m (m - 1) ≡ m - 2 ^ t
first_and (here {m} e) =
    let a : (m - 1) % 2 ≡ 0 = omega arith in
    let b : (m - 1) / 2 ≡ m / 2 = omega arith in
    and_step m (m - 1) ∙ rw (a, b, and_self, e) (omega arith)
first_and (later {m} {t} e f) =
    let p = pow_pos t in
    let a : (m - 1) % 2 ≡ 1 = omega (arith, first_le f) in
    let b : (m - 1) / 2 ≡ m / 2 - 1 = omega (arith, first_le f) in
    and_step m (m - 1) ∙ rw (a, b, first_and f, e) (omega (arith, first_le f, pow-suc 2 t))

-- the first bit of a mask is the first that passes
module _ {ℓ} {A : Type ℓ} (f : A → Bool) where
  first_from_lem : (xs : List A) (i : ℕ) {m t : ℕ} → First m t → m ≡ mask_of f xs → first_from f i xs ≡ some (i + t)
  unfolding first_from mask_of
  first_from_lem [] i {m} {t} h e = absurd (omega (arith, first_le h, pow_pos t))
  first_from_lem (x ∷ xs) i (here {m} o) e =
      let b : f x ≡ true = bit_true (f x) (sym (mask_odd f x xs) ∙ ap (λ (n : ℕ). n % 2) (sym e) ∙ o) in
      rw (b, add-zero i)
  first_from_lem (x ∷ xs) i (later {m} {t} o h) e =
      let b : f x ≡ false = bit_false (f x) (sym (mask_odd f x xs) ∙ ap (λ (n : ℕ). n % 2) (sym e) ∙ o) in
      let r : first_from f (suc i) xs ≡ some (suc i + t) = first_from_lem xs (suc i) h (ap (λ (n : ℕ). n / 2) e ∙ mask_half f x xs) in
      let n : suc i + t ≡ i + suc t = omega arith in
      rw (b, r, n)
