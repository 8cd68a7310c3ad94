-- Lists filled up with zeros and cut again, and rows read and written back.
use mathlib.Core.Path.{◌≡◌, refl, sym, ap, ap₂, ◌∙◌}
use mathlib.Core.Bool.{true}
use mathlib.Core.List.{List, [], ◌∷◌, ◌++◌, map, append_assoc}
use Prim.Native.Nat.{ℕ, zero, suc, ◌+◌, ◌*◌, ◌≤◌, ◌<◌, ◌-◌}
use native.Mathlib.Nat.{suc_inj, mul-le-mul_right, suc-mul}
use native.Mathlib.Numerals.{add-one}
use native.Mathlib.Omega.{arith}
use lib.ListN.{length, get_or, set, take, drop, length-drop, length-map, replicate, length-append, replicate-append-replicate}
use lib.Seq.{take_at, length-take-le, drop_at, drop-nil, drop-drop}
use Rattle.lists.specs.Lists.{every, all_zero}
use Rattle.lists.specs.Rows.{rows, parts, fill}
use Rattle.lists.specs.Each.{Each}
use Rattle.lists.proofs.Each.{each_map}
use Rattle.lists.proofs.Rows.{length_fill, fill_split, fill_zeros, zeros_fill, fill_add}
use Rattle.lists.proofs.Slices.{drop_same}
use Rattle.lists.proofs.Same.{zeros_eq, zeros_zero}
use Rattle.lists.proofs.Cuts.{joined_parts, parts_joined, each_part}

-- ---- fill

-- cut where only zeros follow, and filled up again
pub fill_back : (n k : ℕ) (xs : List ℕ) → length xs ≡ n → all_zero (drop k xs) ≡ true → fill n (take k xs) ≡ xs
unfolding fill
fill_back n zero xs l z = fill_zeros n ∙ zeros_eq xs n z l
fill_back zero (suc k) [] l z = refl
fill_back zero (suc k) (x ∷ xs) l z = absurd (omega arith)
fill_back (suc n) (suc k) [] l z = absurd (omega arith)
fill_back (suc n) (suc k) (x ∷ xs) l z = ap {B = List ℕ} (λ r. x ∷ r) (fill_back n k xs (suc_inj l) z)

pub back_fill : (n k : ℕ) (xs : List ℕ) → fill n (take k xs) ≡ xs → all_zero (drop k xs) ≡ true
unfolding fill all_zero every
back_fill n zero xs e = ap all_zero (sym e) ∙ zeros_fill n
back_fill n (suc k) [] e = refl
back_fill zero (suc k) (x ∷ xs) e = let z : 0 ≡ suc (length xs) = ap length e in absurd (omega arith)
back_fill (suc n) (suc k) (x ∷ xs) e = back_fill n k xs (ap (drop 1) e)

-- one more number, where only zeros follow
pub fill_put : (n : ℕ) (xs : List ℕ) (i v : ℕ) → i < n → fill n (take i xs) ≡ xs → fill n (take (i + 1) (set xs i v)) ≡ set xs i v
unfolding fill
fill_put n xs i v h e = rw (add-one i) (go n xs i h e)
  where
    go : (n : ℕ) (xs : List ℕ) (i : ℕ) → i < n → fill n (take i xs) ≡ xs → fill n (take (suc i) (set xs i v)) ≡ set xs i v
    go zero xs i h e = absurd (omega (arith, h))
    go (suc n) [] i h e = let z : length (fill (suc n) (take i [])) ≡ 0 = ap length e in absurd (omega (arith, z, length_fill (suc n) (take i [])))
    go (suc n) (x ∷ xs) zero h e = ap {B = List ℕ} (λ r. v ∷ drop 1 r) e
    go (suc n) (x ∷ xs) (suc i) h e = ap {B = List ℕ} (λ r. x ∷ r) (go n xs i (omega (arith, h)) (ap (drop 1) e))

-- what was filled up stands in front
pub fill_front : (n : ℕ) (ys xs : List ℕ) → length ys ≤ n → fill n ys ≡ xs → take (length ys) xs ≡ ys
fill_front n ys xs h e = ap (take (length ys)) (sym e ∙ fill_split n ys h) ∙ take_at ys _ (length ys) refl

-- zero after what was filled up
pub fill_after : (n : ℕ) (xs : List ℕ) → all_zero (drop (length xs) (fill n xs)) ≡ true
unfolding fill
fill_after zero xs = ap all_zero (drop-nil (length xs)) ∙ zeros_zero 0
fill_after (suc n) [] = zeros_fill (suc n)
fill_after (suc n) (x ∷ xs) = fill_after n xs

-- one part more, filled up
pub fill_step : (w n at : ℕ) (xs : List ℕ) → fill w (drop at xs) ++ fill (n * w) (drop (at + w) xs) ≡ fill (suc n * w) (drop at xs)
fill_step w n at xs =
    let z : w + n * w ≡ suc n * w = omega (arith, suc-mul n w) in
    ap (λ (l : List ℕ). fill w (drop at xs) ++ fill (n * w) l) (sym (drop-drop w at xs)) ∙ sym (fill_add w (n * w) (drop at xs)) ∙ ap (λ (k : ℕ). fill k (drop at xs)) z

-- what stands behind n elements does not matter to a list of n
pub fill_cut : (n k : ℕ) (b more : List ℕ) → length b ≡ n → fill n (take k (b ++ more)) ≡ fill n (take k b)
unfolding fill
fill_cut zero k b more e = refl
fill_cut (suc n) k [] more e = absurd (omega arith)
fill_cut (suc n) zero (x ∷ b) more e = refl
fill_cut (suc n) (suc k) (x ∷ b) more e = ap (λ (l : List ℕ). x ∷ l) (fill_cut n k b more (omega arith))

-- ---- rows that say what they are read as

pub map_fixed : {A B : Type 0} (enc : B → A) (dec : A → B) (xs : List A) → map enc (map dec xs) ≡ xs → Each (λ x. enc (dec x) ≡ x) xs
map_fixed enc dec [] e = tt
map_fixed {A} enc dec (x ∷ xs) e = (ap (λ (l : List A). get_or l 0 x) e, map_fixed enc dec xs (ap (drop 1) e))

pub parts_wide : (k n : ℕ) (ws : List ℕ) → n * k ≤ length ws → Each (λ (r : List ℕ). length r ≡ k) (parts k n ws)
parts_wide k n ws h =
    each_part (λ r. length r ≡ k) k n ws (λ i g.
    length-take-le k (drop (i * k) ws) (let m : i * k + k ≤ n * k = row_inside i g in omega (arith, length-drop (i * k) ws)))
  where
    row_inside : (i : ℕ) → i < n → i * k + k ≤ n * k
    row_inside i g = let m : suc i * k ≤ n * k = mul-le-mul_right k g in omega (arith, suc-mul i k)

module _ {A : Type 0} (enc : A → List ℕ) (dec : List ℕ → A) (k n : ℕ) (ws : List ℕ) where
  pub rows_fixed : Each (λ r. length (enc (dec r)) ≡ k) (parts k n ws) → n * k ≤ length ws → rows enc (map dec (parts k n ws)) ≡ take (n * k) ws
      → Each (λ r. enc (dec r) ≡ r) (parts k n ws)
  rows_fixed w h e =
      let wm : Each (λ (r : List ℕ). length r ≡ k) (map enc (map dec (parts k n ws))) =
      each_map (λ r. length r ≡ k) enc (map dec (parts k n ws)) (each_map (λ x. length (enc x) ≡ k) dec (parts k n ws) w) in
      let lm : length (map enc (map dec (parts k n ws))) ≡ length (parts k n ws) = length-map (map dec (parts k n ws)) enc ∙ length-map (parts k n ws) dec in
      let same : map enc (map dec (parts k n ws)) ≡ parts k n ws =
      sym (parts_joined k (map enc (map dec (parts k n ws))) wm [])
      ∙ ap₂ (λ (a : ℕ) (l : List ℕ). parts k a (l ++ [])) lm (e ∙ sym (joined_parts k n ws))
      ∙ parts_joined k (parts k n ws) (parts_wide k n ws h) [] in
      map_fixed enc dec (parts k n ws) same

-- ---- Each

-- what follows for rows of one length
pub with_long {ℓ} : {A : Type ℓ} (P Q : List A → Type 0) (k : ℕ) → ((x : List A) → length x ≡ k → P x → Q x) → (xs : List (List A)) → Each (λ (x : List A). length x ≡ k) xs → Each P xs → Each Q xs
with_long P Q k f [] w p = tt
with_long P Q k f (x ∷ xs) w p = (f x w.0 p.0, with_long P Q k f xs w.1 p.1)

-- what fits is not cut
pub fill_append : (n : ℕ) (xs ys : List ℕ) → length xs ≤ n → fill n (xs ++ ys) ≡ xs ++ fill (n - length xs) ys
unfolding fill
fill_append n [] ys h = let e : n ≡ n - 0 = omega arith in ap (λ (k : ℕ). fill k ys) e
fill_append zero (x ∷ xs) ys h = absurd (omega (arith, h))
fill_append (suc n) (x ∷ xs) ys h =
    let e : n - length xs ≡ suc n - length (x ∷ xs) = omega arith in
    ap {B = List ℕ} (λ r. x ∷ r) (fill_append n xs ys (omega (arith, h)) ∙ ap (λ (k : ℕ). xs ++ fill k ys) e)

-- ---- words over others, and words that move down

drop_zeros : (n b : ℕ) → drop n (fill b []) ≡ fill (b - n) []
drop_zeros n b = ap (drop n) (fill_zeros b) ∙ drop_same 0 n b ∙ sym (fill_zeros (b - n))

-- words over as many in front
pub over_fill : (b : ℕ) (ws ps : List ℕ) → length ws ≡ length ps → length ps ≤ b → ps ++ drop (length ps) (fill b ws) ≡ fill b ps
over_fill b ws ps e h =
    let n : b - length ws ≡ b - length ps = omega (arith, e) in
    ap (λ (l : List ℕ). ps ++ drop (length ps) l) (fill_split b ws (omega (arith, e)))
    ∙ ap (λ (l : List ℕ). ps ++ l) (drop_at ws (fill (b - length ws) []) (length ps) e)
    ∙ ap (λ (k : ℕ). ps ++ fill k []) n
    ∙ sym (fill_split b ps h)

pub over_zeros : (b : ℕ) (ps : List ℕ) → length ps ≤ b → ps ++ drop (length ps) (fill b []) ≡ fill b ps
over_zeros b ps h = ap (λ (l : List ℕ). ps ++ l) (drop_zeros (length ps) b) ∙ sym (fill_split b ps h)

pub shift_fill : (n w : ℕ) (xs ys : List ℕ) → length xs ≡ w → w + length ys ≤ n → drop w (fill n (xs ++ ys)) ++ replicate w 0 ≡ fill n ys
shift_fill n w xs ys l h =
    let lx : length (xs ++ ys) ≡ w + length ys = length-append xs ys ∙ ap (λ (k : ℕ). k + length ys) l in
    let m : ℕ = n - length (xs ++ ys) in
    let a : fill n (xs ++ ys) ≡ (xs ++ ys) ++ fill m [] = fill_split n (xs ++ ys) (omega arith) in
    let b : drop w ((xs ++ ys) ++ fill m []) ≡ ys ++ fill m [] = ap (drop w) (append_assoc xs ys (fill m [])) ∙ drop_at xs (ys ++ fill m []) w l in
    let c : m + w ≡ n - length ys = omega arith in
    let d : fill m [] ++ replicate w 0 ≡ fill (n - length ys) [] =
    ap (λ (z : List ℕ). z ++ replicate w 0) (fill_zeros m) ∙ replicate-append-replicate m w 0 ∙ ap (λ (k : ℕ). replicate {A = ℕ} k 0) c ∙ sym (fill_zeros (n - length ys)) in
    ap (λ (z : List ℕ). drop w z ++ replicate w 0) a ∙ ap (λ (z : List ℕ). z ++ replicate w 0) b ∙ append_assoc ys (fill m []) (replicate w 0)
    ∙ ap (λ (z : List ℕ). ys ++ z) d ∙ sym (fill_split n ys (omega arith))
