-- Parts of a list as a loop or a lent slice takes them.
use mathlib.Core.Path.{◌≡◌, refl, sym, ap, ◌∙◌}
use mathlib.Core.Bool.{Bool, true, false}
use mathlib.Core.List.{List, [], ◌∷◌, ◌++◌, append_assoc, append-nil}
use Prim.Native.Nat.{ℕ, zero, suc, zero-le, min, ◌+◌, ◌-◌, ◌≤◌, ◌<◌}
use native.Mathlib.Nat.{sub-zero, suc-sub-suc}
use native.Mathlib.Numerals.{add-one}
use native.Mathlib.Omega.{arith}
use lib.ListN.{length, get_or, take, drop, replicate, length-append, length-take, length-drop, length-replicate, drop_of_length-le}
use lib.Seq.{drop-cons, drop-nil, drop-length, take_all, take-suc, take-nil, take-take, take_at, drop_at, drop-drop, get_or-take, get_or-drop, length-take-le}
use lib.Dec.{leb, eqb}
use borrow.Author.Tests.{leb-true, leb-false, eq-eqb, ne_eqb}
use Rattle.lists.specs.Lists.{every, all_zero}
use Rattle.lists.specs.Rows.{fill}
use Rattle.lists.proofs.Rows.{fill_take}

-- ---- take and drop, at the code's i + 1

module _ {ℓ} {A : Type ℓ} where
  -- the element at i and what follows it
  pub drop_next : (l : List A) (i : ℕ) (d : A) → i < length l → drop i l ≡ get_or l i d ∷ drop (i + 1) l
  drop_next l i d h = rw (add-one i) (drop-cons l i d h)

  pub drop_end : (l : List A) (i : ℕ) → length l ≤ i → drop i l ≡ []
  drop_end l i h = drop_of_length-le l h

  -- what comes before i, and the element at i
  pub take_next : (l : List A) (i : ℕ) (d : A) → i < length l → take (i + 1) l ≡ take i l ++ (get_or l i d ∷ [])
  take_next l i d h = rw (add-one i) (take-suc l i d h)

-- ---- every, read from the front

module _ {ℓ} {A : Type ℓ} (f : A → Bool) (l : List A) (i : ℕ) where
  pub every_next : (d : A) → i < length l → f (get_or l i d) ≡ true → every f (drop i l) ≡ every f (drop (i + 1) l)
  unfolding every
  every_next d h e = rw (drop_next l i d h, e)

  pub every_stop : (d : A) → i < length l → f (get_or l i d) ≡ false → every f (drop i l) ≡ false
  unfolding every
  every_stop d h e = rw (drop_next l i d h, e)

  pub every_end : length l ≤ i → every f (drop i l) ≡ true
  unfolding every
  every_end h = rw (drop_end l i h)

module _ (l : List ℕ) (i : ℕ) (h : i < length l) where
  pub zero_next : get_or l i 0 ≡ 0 → all_zero (drop i l) ≡ all_zero (drop (i + 1) l)
  unfolding all_zero
  zero_next e = every_next (λ x. eqb x 0) l i 0 h (eq-eqb (get_or l i 0) 0 e)

  pub zero_not : (get_or l i 0 ≡ 0 → ⊥) → all_zero (drop i l) ≡ false
  unfolding all_zero
  zero_not e = every_stop (λ x. eqb x 0) l i 0 h (ne_eqb (get_or l i 0) 0 e)

-- ---- a part of a part, and of equal elements

module _ {ℓ} {A : Type ℓ} where
  pub drop_take : (j n : ℕ) (l : List A) → drop j (take n l) ≡ take (n - j) (drop j l)
  drop_take zero n l = rw sub-zero
  drop_take (suc j) zero l = let e : 0 - suc j ≡ 0 = omega arith in rw e
  drop_take (suc j) (suc n) [] = sym (take-nil (suc n - suc j))
  drop_take (suc j) (suc n) (x ∷ l) = rw suc-sub-suc (drop_take j n l)

  pub part_part : (xs : List A) (a n c k : ℕ) → c + k ≤ n → take k (drop c (take n (drop a xs))) ≡ take k (drop (a + c) xs)
  part_part xs a n c k h =
      ap (take k) (drop_take c n (drop a xs)) ∙ take-take k (n - c) (drop c (drop a xs)) (omega (arith, h)) ∙ ap (take k) (drop-drop c a xs)

  -- a part of the front
  pub part_front : (xs : List A) (n c k : ℕ) → c + k ≤ n → take k (drop c (take n xs)) ≡ take k (drop c xs)
  part_front xs n c k h = let z : 0 + c ≡ c = omega arith in part_part xs 0 n c k h ∙ ap (λ (i : ℕ). take k (drop i xs)) z

  pub part_get : (xs : List A) (a n i : ℕ) (d : A) → i < n → get_or (take n (drop a xs)) i d ≡ get_or xs (a + i) d
  part_get xs a n i d h = get_or-take n (drop a xs) i d h ∙ get_or-drop a xs i d

  pub take_replicate : (m n : ℕ) (v : A) → m ≤ n → take m (replicate n v) ≡ replicate m v
  take_replicate zero n v h = refl
  take_replicate (suc m) zero v h = absurd (omega arith)
  take_replicate (suc m) (suc n) v h = ap (λ (l : List A). v ∷ l) (take_replicate m n v (omega arith))

-- ---- a part that was lent and has come back

module _ {ℓ} {A : Type ℓ} where
  -- all that is left from a on
  pub tail_all : (xs : List A) (a : ℕ) → take (length xs - a) (drop a xs) ≡ drop a xs
  tail_all xs a = take_all (length xs - a) (drop a xs) (omega (arith, length-drop a xs))

-- the list is p, then m, then q; the part is m
module _ {ℓ} {A : Type ℓ} (p m q ws : List A) (a k : ℕ) (e : ws ≡ p ++ (m ++ q)) (la : length p ≡ a) (lk : length m ≡ k) where
  pub mid_is : take k (drop a ws) ≡ m
  mid_is = rw (e, drop_at p (m ++ q) a la) (take_at m q k lk)

  pub mid_put : (m' : List A) → take a ws ++ (m' ++ drop k (drop a ws)) ≡ p ++ (m' ++ q)
  mid_put m' = rw (e, take_at p (m ++ q) a la, drop_at p (m ++ q) a la, drop_at m q k lk)

-- a front, and a piece of k elements that was put behind it
module _ {ℓ} {A : Type ℓ} where
  pub front_more : (out b ys : List A) (at k : ℕ) → ys ≡ take at out ++ (b ++ drop (at + k) out) → length ys ≡ length out → at + k ≤ length out → take (at + k) ys ≡ take at out ++ b
  front_more out b ys at k e l room =
      let p : length (take at out) ≡ at = length-take-le at out (omega (arith, room)) in
      let q : length b ≡ k =
      omega (arith, room, l, ap length e, length-append (take at out) (b ++ drop (at + k) out), length-append b (drop (at + k) out), length-drop (at + k) out, p) in
      ap (take (at + k)) (e ∙ sym (append_assoc (take at out) b (drop (at + k) out)))
      ∙ take_at (take at out ++ b) (drop (at + k) out) (at + k) (length-append (take at out) b ∙ omega (arith, p, q))

-- the list is p, then m; the part is m, which goes to the end
module _ {ℓ} {A : Type ℓ} (p m ws : List A) (a : ℕ) (e : ws ≡ p ++ m) (la : length p ≡ a) where
  pub tail_is : take (length ws - a) (drop a ws) ≡ m
  tail_is = tail_all ws a ∙ rw e (drop_at p m a la)

  pub tail_put : (m' : List A) → take a ws ++ (m' ++ drop (length ws - a) (drop a ws)) ≡ p ++ m'
  tail_put m' =
      let n : length (drop a ws) ≤ length ws - a = omega (arith, length-drop a ws) in
      rw (drop_of_length-le (drop a ws) n, append-nil) (rw e (ap (λ (l : List A). l ++ m') (take_at p m a la)))

-- ---- a list filled up

module _ {ℓ} {A : Type ℓ} (v : A) where
  pub drop_same : (a z : ℕ) → drop a (replicate z v) ≡ replicate (z - a) v
  drop_same zero z = rw (sub-zero z)
  drop_same (suc a) zero = let e : 0 - suc a ≡ 0 = omega arith in rw e
  drop_same (suc a) (suc z) = let e : suc z - suc a ≡ z - a = omega arith in rw e (drop_same a z)

  pub drop_filled : (a z : ℕ) (xs : List A) → drop a (xs ++ replicate z v) ≡ drop a xs ++ replicate (z - (a - length xs)) v
  drop_filled a z [] = let e : a - 0 ≡ a = omega arith in rw e (drop_same a z ∙ sym (ap (λ (l : List A). l ++ replicate (z - a) v) (drop-nil a)))
  drop_filled zero z (x ∷ xs) = let e : z - (0 - suc (length xs)) ≡ z = omega arith in rw e
  drop_filled (suc a) z (x ∷ xs) = let e : suc a - suc (length xs) ≡ a - length xs = omega arith in rw e (drop_filled a z xs)

pub take_filled : (k w : ℕ) (ys : List ℕ) → k ≤ length ys + w → take k (ys ++ replicate w 0) ≡ fill k ys
unfolding fill
take_filled zero w ys h = refl
take_filled (suc k) zero [] h = absurd (omega arith)
take_filled (suc k) (suc w) [] h = ap (λ (l : List ℕ). 0 ∷ l) (take_filled k w [] (omega arith))
take_filled (suc k) w (y ∷ ys) h = ap (λ (l : List ℕ). y ∷ l) (take_filled k w ys (omega arith))

-- the part from a on of at most k numbers, its ends cut to the list's length
module _ (xs : List ℕ) (a k s e : ℕ) (hs : s ≡ min (length xs) a) (he : e ≡ min (length xs) (a + k)) where
  pub cut_small : length (take (e - s) (drop s xs)) ≤ k
  cut_small = let n : e - s ≤ length (drop s xs) = omega (arith, length-drop s xs) in omega (arith, length-take-le (e - s) (drop s xs) n)

  pub cut_is : fill k (take (e - s) (drop s xs)) ≡ fill k (drop a xs)
  cut_is = go (leb (length xs) a) refl (leb (length xs) (a + k)) refl
    where
      go : (t : Bool) → leb (length xs) a ≡ t → (u : Bool) → leb (length xs) (a + k) ≡ u → fill k (take (e - s) (drop s xs)) ≡ fill k (drop a xs)
      go true h u h' =
          let z : s ≡ length xs = omega (arith, leb-true (length xs) a h) in
          rw (z, drop-length xs, drop_end xs a (leb-true (length xs) a h)) (ap (fill k) (take_all (e - length xs) [] zero-le))
      go false h true h' =
          let z : s ≡ a = omega (arith, leb-false (length xs) a h) in
          let n : e - a ≡ length xs - a = omega (arith, leb-true (length xs) (a + k) h') in
          rw (z, n, take_all (length xs - a) (drop a xs) (omega (arith, length-drop a xs)))
      go false h false h' =
          let z : s ≡ a = omega (arith, leb-false (length xs) a h) in
          let n : e - a ≡ k = omega (arith, leb-false (length xs) (a + k) h') in
          rw (z, n) (fill_take k (drop a xs))

pub none_left {ℓ} : {A : Type ℓ} (xs : List A) → length xs ≡ 0 → xs ≡ []
none_left [] z = refl
none_left (x ∷ xs) z = absurd (omega (arith, z))

-- ---- cuts of a list that is cut or put together

-- the first elements of two lists
module _ {ℓ} {A : Type ℓ} where
  pub take_both : (n w : ℕ) (b c : List A) → length b ≡ w → take n (b ++ c) ≡ take n b ++ take (n - w) c
  take_both zero w b c e = let z : 0 - w ≡ 0 = omega arith in rw z
  take_both (suc n) w [] c e = let z : suc n - w ≡ suc n = omega arith in rw z
  take_both (suc n) zero (x ∷ b) c e = absurd (omega arith)
  take_both (suc n) (suc w) (x ∷ b) c e =
      let z : suc n - suc w ≡ n - w = omega arith in
      rw z (ap (λ (l : List A). x ∷ l) (take_both n w b c (omega arith)))

-- the lesser of two cuts
pub take_lesser {ℓ} : {A : Type ℓ} (r w : ℕ) (l : List A) → take r (take w l) ≡ take (min w r) l
take_lesser r w l = go (leb r w) refl
  where
    go : (t : Bool) → leb r w ≡ t → take r (take w l) ≡ take (min w r) l
    go true q =
        let h : r ≤ w = leb-true r w q in
        let z : min w r ≡ r = omega arith in
        rw z (take-take r w l h)
    go false q =
        let h : w < r = leb-false r w q in
        let z : min w r ≡ w = omega arith in
        rw z (take_all r (take w l) (omega (arith, length-take w l)))

-- the list's end cuts off zeros
pub take_zeros : (r w : ℕ) → take r (replicate {A = ℕ} w 0) ≡ replicate (min w r) 0
take_zeros r w =
    let n : length (replicate {A = ℕ} w 0) ≡ w = length-replicate {A = ℕ} w 0 in
    ap (take r) (sym (take_all w (replicate {A = ℕ} w 0) (omega (arith, n)))) ∙ take_lesser r w (replicate {A = ℕ} w 0) ∙ take_replicate (min w r) w 0 (omega arith)
