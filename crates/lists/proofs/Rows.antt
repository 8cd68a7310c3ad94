-- Laws of `rows` of one width, and of `fill`.
use mathlib.Core.Path.{◌≡◌, refl, sym, ap, ◌∙◌}
use mathlib.Core.Bool.{true}
use mathlib.Core.List.{List, [], ◌∷◌, ◌++◌, map, map-id, map-append, append_assoc, append-nil}
use Prim.Native.Nat.{ℕ, zero, suc, zero-le, ◌+◌, ◌*◌, ◌-◌, ◌≤◌, ◌<◌}
use native.Mathlib.Nat.{mul-le-mul_right, sub-zero, suc-sub-suc, zero-mul, suc-mul, zero-add, suc-add, not-suc-le-zero, le_of_suc-le-suc, mul_comm}
use native.Mathlib.Omega.{arith}
use lib.ListN.{length, get_or, set, take, drop, replicate, length-append, get_or-append, length-drop}
use lib.Seq.{get_or-append-add, take-nil, drop-nil, take-append-add, drop-append-add, set-append_left, drop-cons, get_or-drop, take-append-le, drop-append-le, take_at, drop-drop, set_split, drop_at}
use lib.Arith.{digits_lt}
use Rattle.lists.specs.Lists.{every, all_zero}
use Rattle.lists.specs.Rows.{joined, rows, fill}
use Rattle.lists.specs.Each.{Each}
use Rattle.lists.proofs.Each.{each_all, each_at}
use Rattle.lists.proofs.Sets.{set_append_add}

-- ---- joined

module _ {ℓ} {A : Type ℓ} where
  pub joined_append : (xs ys : List (List A)) → joined (xs ++ ys) ≡ joined xs ++ joined ys
  unfolding joined
  joined_append [] ys = refl
  joined_append (x ∷ xs) ys = rw (joined_append xs ys, append_assoc)

  -- a list of rows is laid out as it is: the laws of `rows` hold of `joined`
  pub joined_rows : (xs : List (List A)) → joined xs ≡ rows (λ x. x) xs
  joined_rows xs = ap joined (sym (map-id xs))

module _ {A : Type 0} where
  pub length_joined : (k : ℕ) (xs : List (List A)) → Each (λ (r : List A). length r ≡ k) xs → length (joined xs) ≡ length xs * k
  unfolding joined
  length_joined k [] h = sym (zero-mul k)
  length_joined k (x ∷ xs) h = omega (arith, length-append x (joined xs), h.0, length_joined k xs h.1, suc-mul (length xs) k)

  -- what is left of rows of `k` after a place in the last one
  pub drop_last : (k : ℕ) (x : List A) (xs : List (List A)) (l : ℕ) → Each (λ (r : List A). length r ≡ k) (x ∷ xs) → length xs * k ≤ l
      → drop l (joined (x ∷ xs)) ≡ drop (l - k * length xs) (get_or (x ∷ xs) (length xs) [])
  unfolding joined
  drop_last k x [] l h g = ap (drop l) (append-nil x) ∙ ap (λ (i : ℕ). drop i x) (let z : l ≡ l - k * 0 = omega (arith, mul_comm k 0) in z)
  drop_last k x (y ∷ ys) l h g =
      let rest : List A = joined (y ∷ ys) in
      let n : ℕ = length ys in
      let e : suc n * k ≡ n * k + k = suc-mul n k in
      ap (λ (i : ℕ). drop i (x ++ rest)) (let z : l ≡ k + (l - k) = omega (arith, g, e) in z)
      ∙ sym (drop-drop (l - k) k (x ++ rest))
      ∙ ap (drop (l - k)) (drop_at x rest k h.0)
      ∙ drop_last k y ys (l - k) h.1 (omega (arith, g, e))
      ∙ ap (λ (i : ℕ). drop i (get_or (y ∷ ys) n [])) (let z : l - k - k * n ≡ l - k * suc n = omega (arith, e, mul_comm k n, mul_comm k (suc n)) in z)

-- ---- rows

module _ {ℓ κ} {A : Type ℓ} {B : Type κ} (enc : A → List B) where
  pub rows_append : (xs ys : List A) → rows enc (xs ++ ys) ≡ rows enc xs ++ rows enc ys
  rows_append xs ys = ap joined (map-append enc xs ys) ∙ joined_append (map enc xs) (map enc ys)

  -- element i, and the words before and behind it
  pub row_seam : (xs : List A) (i : ℕ) → i < length xs → (x : A) → rows enc (set xs i x) ≡ rows enc (take i xs) ++ (enc x ++ rows enc (drop (suc i) xs))
  unfolding joined
  row_seam xs i h x = ap (rows enc) (set_split xs i x h) ∙ rows_append (take i xs) (x ∷ drop (suc i) xs)

-- ---- rows of one width

module _ {ℓ κ} {A : Type ℓ} {B : Type κ} (enc : A → List B) (k : ℕ) where
  -- every element of the list has k words
  abbrev pub Wide : List A → Type 0
  Wide xs = Each (λ x. length (enc x) ≡ k) xs

  pub wide_all : ((x : A) → length (enc x) ≡ k) → (xs : List A) → Wide xs
  wide_all w xs = each_all (λ x. length (enc x) ≡ k) w xs

  pub wide_at : (d : A) (xs : List A) → Wide xs → (i : ℕ) → i < length xs → length (enc (get_or xs i d)) ≡ k
  wide_at d xs w i h = each_at (λ x. length (enc x) ≡ k) d xs w i h

  pub length_rows : (xs : List A) → Wide xs → length (rows enc xs) ≡ length xs * k
  unfolding joined
  length_rows [] w = sym (zero-mul k)
  length_rows (x ∷ xs) w = omega (arith, length-append (enc x) (rows enc xs), w.0, length_rows xs w.1, suc-mul (length xs) k)

  -- word j of row i is one of the words
  pub rows_below : (xs : List A) → Wide xs → (i j : ℕ) → i < length xs → j < k → i * k + j < length (rows enc xs)
  rows_below xs w i j hi hj = rw (length_rows xs w) (digits_lt hi hj)

  -- the place of row i + 1 lies i rows behind the first
  next : (x : A) (i : ℕ) → length (enc x) ≡ k → suc i * k ≡ length (enc x) + i * k
  next x i w = omega (arith, suc-mul i k)

  pub drop_rows : (i : ℕ) (xs : List A) → Wide xs → drop (i * k) (rows enc xs) ≡ rows enc (drop i xs)
  unfolding joined
  drop_rows zero xs w = rw zero-mul
  drop_rows (suc i) [] w = drop-nil (suc i * k)
  drop_rows (suc i) (x ∷ xs) w = rw (next x i w.0, drop-append-add) (drop_rows i xs w.1)

  pub take_rows : (i : ℕ) (xs : List A) → Wide xs → take (i * k) (rows enc xs) ≡ rows enc (take i xs)
  unfolding joined
  take_rows zero xs w = rw zero-mul
  take_rows (suc i) [] w = take-nil (suc i * k)
  take_rows (suc i) (x ∷ xs) w = rw (next x i w.0, take-append-add) (ap (λ (r : List B). enc x ++ r) (take_rows i xs w.1))

  -- word j of row i
  pub get_d_rows : (d : A) (z : B) (xs : List A) → Wide xs → (i j : ℕ) → i < length xs → j < k
      → get_or (rows enc xs) (i * k + j) z ≡ get_or (enc (get_or xs i d)) j z
  unfolding joined
  get_d_rows d z xs w i j hi hj =
      let hw : j < length (enc (get_or xs i d)) = omega (arith, wide_at d xs w i hi) in
      rw (← get_or-drop (i * k) (rows enc xs) j z, drop_rows i xs w, drop-cons xs i d hi)
      (get_or-append (enc (get_or xs i d)) (rows enc (drop (suc i) xs)) z j hw)

  -- the same at every i, where the missing element's words are all z
  pub get_d_rows_any : (d : A) (z : B) → ((j : ℕ) → get_or (enc d) j z ≡ z) → (xs : List A) → Wide xs → (i j : ℕ) → j < k
      → get_or (rows enc xs) (i * k + j) z ≡ get_or (enc (get_or xs i d)) j z
  unfolding joined
  get_d_rows_any d z m [] w i j hj = sym (m j)
  get_d_rows_any d z m (x ∷ xs) w zero j hj =
      let hw : j < length (enc x) = omega (arith, w.0) in
      let p : zero * k + j ≡ j = omega (arith, zero-mul k) in
      rw p (get_or-append (enc x) (rows enc xs) z j hw)
  get_d_rows_any d z m (x ∷ xs) w (suc i) j hj =
      let p : suc i * k + j ≡ length (enc x) + (i * k + j) = omega (arith, next x i w.0) in
      rw p (get_or-append-add (enc x) (rows enc xs) (i * k + j) z ∙ get_d_rows_any d z m xs w.1 i j hj)

  -- a write to word j of row i, which turns that row into x's
  pub set_rows : (d : A) (xs : List A) → Wide xs → (i j : ℕ) (v : B) (x : A) → i < length xs → j < k
      → set (enc (get_or xs i d)) j v ≡ enc x → set (rows enc xs) (i * k + j) v ≡ rows enc (set xs i x)
  unfolding joined
  set_rows d [] w i j v x hi hj e = absurd (not-suc-le-zero hi)
  set_rows d (y ∷ ys) w zero j v x hi hj e =
      let hw : j < length (enc y) = omega (arith, w.0) in
      let p : zero * k + j ≡ j = omega (arith, zero-mul k) in
      rw (p, set-append_left (enc y) (rows enc ys) j v hw, e)
  set_rows d (y ∷ ys) w (suc i) j v x hi hj e =
      let p : suc i * k + j ≡ length (enc y) + (i * k + j) = omega (arith, next y i w.0) in
      rw (p, set_append_add) (ap (λ (r : List B). enc y ++ r) (set_rows d ys w.1 i j v x (le_of_suc-le-suc hi) hj e))

  -- row i, cut out
  pub row_rows : (d : A) (xs : List A) → Wide xs → (i : ℕ) → i < length xs → take k (drop (i * k) (rows enc xs)) ≡ enc (get_or xs i d)
  unfolding joined
  row_rows d xs w i hi =
      rw (drop_rows i xs w, drop-cons xs i d hi)
      (take_at (enc (get_or xs i d)) (rows enc (drop (suc i) xs)) k (wide_at d xs w i hi))

  -- row i, cut out of more words
  pub row_append : (d : A) (xs : List A) → Wide xs → (rest : List B) (i : ℕ) → i < length xs → take k (drop (i * k) (rows enc xs ++ rest)) ≡ enc (get_or xs i d)
  row_append d xs w rest i hi =
      let n : length (rows enc xs) ≡ length xs * k = length_rows xs w in
      let m : suc i * k ≤ length xs * k = mul-le-mul_right k hi in
      let a : i * k ≤ length (rows enc xs) = omega (arith, suc-mul i k) in
      let b : k ≤ length (drop (i * k) (rows enc xs)) = omega (arith, suc-mul i k, length-drop (i * k) (rows enc xs)) in
      rw (drop-append-le (i * k) (rows enc xs) rest a, take-append-le k (drop (i * k) (rows enc xs)) rest b) (row_rows d xs w i hi)

  -- row i, replaced by x's
  pub paste_rows : (xs : List A) → Wide xs → (i : ℕ) (x : A) → i < length xs
      → take (i * k) (rows enc xs) ++ (enc x ++ drop k (drop (i * k) (rows enc xs))) ≡ rows enc (set xs i x)
  paste_rows xs w i x hi =
      let p : i * k + k ≡ suc i * k = omega (arith, suc-mul i k) in
      rw (drop-drop, p, drop_rows (suc i) xs w, take_rows i xs w) (sym (row_seam enc xs i hi x))

-- ---- fill

-- it has its width, whatever is in it
pub length_fill : (n : ℕ) (xs : List ℕ) → length (fill n xs) ≡ n
unfolding fill
length_fill zero xs = refl
length_fill (suc n) [] = ap suc (length_fill n [])
length_fill (suc n) (x ∷ xs) = ap suc (length_fill n xs)

-- what fits reads as it did, at every place
pub get_d_fill : (n : ℕ) (xs : List ℕ) (i : ℕ) → length xs ≤ n → get_or (fill n xs) i 0 ≡ get_or xs i 0
unfolding fill
get_d_fill zero [] i h = refl
get_d_fill zero (x ∷ xs) i h = absurd (not-suc-le-zero h)
get_d_fill (suc n) [] zero h = refl
get_d_fill (suc n) [] (suc i) h = get_d_fill n [] i zero-le
get_d_fill (suc n) (x ∷ xs) zero h = refl
get_d_fill (suc n) (x ∷ xs) (suc i) h = get_d_fill n xs i (le_of_suc-le-suc h)

pub set_fill : (n : ℕ) (xs : List ℕ) (i v : ℕ) → i < length xs → set (fill n xs) i v ≡ fill n (set xs i v)
unfolding fill
set_fill n [] i v h = absurd (not-suc-le-zero h)
set_fill zero (x ∷ xs) i v h = refl
set_fill (suc n) (x ∷ xs) zero v h = refl
set_fill (suc n) (x ∷ xs) (suc i) v h = ap (λ (l : List ℕ). x ∷ l) (set_fill n xs i v (le_of_suc-le-suc h))

-- the zeros are behind
pub fill_split : (n : ℕ) (xs : List ℕ) → length xs ≤ n → fill n xs ≡ xs ++ fill (n - length xs) []
unfolding fill
fill_split n [] h = rw sub-zero
fill_split zero (x ∷ xs) h = absurd (not-suc-le-zero h)
fill_split (suc n) (x ∷ xs) h = rw suc-sub-suc (ap (λ (l : List ℕ). x ∷ l) (fill_split n xs (le_of_suc-le-suc h)))

pub fill_all : (n : ℕ) (xs : List ℕ) → length xs ≡ n → fill n xs ≡ xs
unfolding fill
fill_all zero [] h = refl
fill_all zero (x ∷ xs) h = absurd (omega arith)
fill_all (suc n) [] h = absurd (omega arith)
fill_all (suc n) (x ∷ xs) h = ap (λ (l : List ℕ). x ∷ l) (fill_all n xs (omega arith))

-- cut at n, the rest does not matter
pub fill_take : (n : ℕ) (xs : List ℕ) → fill n (take n xs) ≡ fill n xs
unfolding fill
fill_take zero xs = refl
fill_take (suc n) [] = refl
fill_take (suc n) (x ∷ xs) = ap (λ (l : List ℕ). x ∷ l) (fill_take n xs)

-- ---- zeros

pub fill_zeros : (n : ℕ) → fill n [] ≡ replicate n 0
unfolding fill
fill_zeros zero = refl
fill_zeros (suc n) = ap (λ (l : List ℕ). 0 ∷ l) (fill_zeros n)

-- zeros all through
pub zeros_of : (ws : List ℕ) → ((i : ℕ) → i < length ws → get_or ws i 0 ≡ 0) → ws ≡ fill (length ws) []
unfolding fill
zeros_of [] f = refl
zeros_of (w ∷ ws) f = rw (f 0 (omega arith)) (ap (λ (l : List ℕ). 0 ∷ l) (zeros_of ws (λ i h. f (suc i) (omega arith))))

pub zeros_at : (n i : ℕ) → get_or (fill n []) i 0 ≡ 0
zeros_at n i = get_d_fill n [] i (omega arith)

pub zeros_fill : (n : ℕ) → all_zero (fill n []) ≡ true
unfolding all_zero every fill
zeros_fill zero = refl
zeros_fill (suc n) = zeros_fill n

-- filling up does not change whether all is zero
pub zero_fill : (n : ℕ) (xs : List ℕ) → length xs ≤ n → all_zero (fill n xs) ≡ all_zero xs
unfolding all_zero every fill
zero_fill n [] h = zeros_fill n
zero_fill zero (x ∷ xs) h = absurd (not-suc-le-zero h)
zero_fill (suc n) (x ∷ xs) h = rw (zero_fill n xs (le_of_suc-le-suc h))

-- filled in two parts
pub fill_add : (a b : ℕ) (xs : List ℕ) → fill (a + b) xs ≡ fill a xs ++ fill b (drop a xs)
unfolding fill
fill_add zero b xs = rw zero-add
fill_add (suc a) b [] = rw suc-add (ap (λ (l : List ℕ). 0 ∷ l) (fill_add a b [] ∙ ap (λ (l : List ℕ). fill a [] ++ fill b l) (drop-nil a)))
fill_add (suc a) b (x ∷ xs) = rw suc-add (ap (λ (l : List ℕ). x ∷ l) (fill_add a b xs))

pub each_fill : (P : ℕ → Type 0) (n : ℕ) (xs : List ℕ) → P 0 → Each P xs → Each P (fill n xs)
unfolding fill
each_fill P zero xs z h = tt
each_fill P (suc n) [] z h = (z, each_fill P n [] z tt)
each_fill P (suc n) (x ∷ xs) z h = (h.0, each_fill P n xs z h.1)
