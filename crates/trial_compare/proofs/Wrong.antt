-- The counts of wrong bytes, taken place by place. Assumes nothing.
use mathlib.Core.Path.{◌≡◌, refl, sym, ap, ◌∙◌}
use mathlib.Core.Bool.{Bool, true, false}
use mathlib.Core.List.{List, [], ◌∷◌}
use Prim.Native.Nat.{ℕ, zero, suc, ◌+◌, ◌-◌, ◌≤◌, ◌<◌}
use native.Mathlib.Numerals.{add-one}
use native.Mathlib.Omega.{arith}
use borrow.Author.Tests.{eqb-true}
use lib.Dec.{eqb}
use lib.ListN.{length, get_or, take, drop, drop_of_length-le}
use lib.Seq.{drop-cons, take_all}
use mir.Val.{bool_byte}
use Rattle.std.proofs.Common.{fold, cond, not, leb, count_by, le-leb}
use Rattle.trial_compare.specs.Bytes.{one_if_not, wrong_head, tail, differing, wrong_bytes, others}

pub drop_next : (l : List ℕ) (i : ℕ) → i < length l → drop i l ≡ get_or l i 0 ∷ drop (i + 1) l
drop_next l i h = rw (add-one i) (drop-cons l i 0 h)

tail_drop_suc : (l : List ℕ) (i : ℕ) → tail (drop i l) ≡ drop (suc i) l
unfolding tail
tail_drop_suc [] zero = refl
tail_drop_suc [] (suc i) = refl
tail_drop_suc (x ∷ l) zero = refl
tail_drop_suc (x ∷ l) (suc i) = tail_drop_suc l i

tail_drop : (l : List ℕ) (i : ℕ) → tail (drop i l) ≡ drop (i + 1) l
tail_drop l i = rw (add-one i) (tail_drop_suc l i)

-- ---- one place

at_most_one : (b : Bool) → bool_byte b ≤ 1
at_most_one true = omega arith
at_most_one false = omega arith

told : (t : Bool) → bool_byte (not t) ≡ one_if_not t
unfolding one_if_not
told true = refl
told false = refl

module _ (l : List ℕ) (i x r : ℕ) (b : Bool) (g : r ≡ bool_byte b) where
  bound : r ≤ 1
  bound = omega (arith, at_most_one b)

  pub none_there : length l ≤ i → b ≡ leb (length l) i → (r ≡ wrong_head x (drop i l)) × (r ≤ 1)
  unfolding wrong_head
  none_there h f = (rw (drop_of_length-le l {i = i} h) (g ∙ ap bool_byte (f ∙ le-leb (length l) i h)), bound)

  pub one_there : i < length l → b ≡ not (eqb (get_or l i 0) x) → (r ≡ wrong_head x (drop i l)) × (r ≤ 1)
  unfolding wrong_head
  one_there h f = (rw (drop_next l i h) (g ∙ (ap bool_byte f ∙ told (eqb (get_or l i 0) x))), bound)

-- ---- two lists

pub differing_next :
    (a b : List ℕ) (i : ℕ) → i < length a → differing (drop i a) (drop i b) ≡ wrong_head (get_or a i 0) (drop i b) + differing (drop (i + 1) a) (drop (i + 1) b)
unfolding differing
differing_next a b i h =
    ap (λ (l : List ℕ). differing l (drop i b)) (drop_next a i h)
    ∙ ap (λ (l : List ℕ). wrong_head (get_or a i 0) (drop i b) + differing (drop (i + 1) a) l) (tail_drop b i)

pub differing_end : (a b : List ℕ) (i : ℕ) → length a ≤ i → differing (drop i a) (drop i b) ≡ 0
unfolding differing
differing_end a b i h = ap (λ (l : List ℕ). differing l (drop i b)) (drop_of_length-le a {i = i} h)

-- a first byte that is not wrong is there, and the same
head_zero : (x : ℕ) (ys : List ℕ) → wrong_head x ys ≡ 0 → ys ≡ x ∷ tail ys
unfolding wrong_head tail one_if_not
head_zero x [] e = absurd (let z : ◌≡◌ {A = ℕ} 1 0 = e in omega arith)
head_zero x (y ∷ ys) e = go (eqb y x) refl e
  where
    go : (t : Bool) → eqb y x ≡ t → one_if_not t ≡ 0 → y ∷ ys ≡ x ∷ ys
    go true q z = ap (λ (n : ℕ). n ∷ ys) (eqb-true y x q)
    go false q z = absurd (let w : ◌≡◌ {A = ℕ} 1 0 = z in omega arith)

pub none_differing : (a b : List ℕ) → differing a b ≡ 0 → take (length a) b ≡ a
unfolding differing
none_differing [] b e = refl
none_differing (x ∷ a) b e =
    let s : wrong_head x b + differing a (tail b) ≡ 0 = e in
    let h : wrong_head x b ≡ 0 = omega arith in
    let t : differing a (tail b) ≡ 0 = omega arith in
    ap (take (suc (length a))) (head_zero x b h) ∙ ap (λ (l : List ℕ). x ∷ l) (none_differing a (tail b) t)

pub none_wrong : (a b : List ℕ) → wrong_bytes a b ≡ 0 → a ≡ b
unfolding wrong_bytes
none_wrong a b e =
    let s : differing a b + (length b - length a) ≡ 0 = e in
    let d : differing a b ≡ 0 = omega arith in
    let l : length b ≤ length a = omega arith in
    sym (none_differing a b d) ∙ take_all (length a) b l

-- ---- one list against one byte

others_more : (n o s : ℕ) (t : Bool) → s ≡ n + cond (not t) 1 0 + o → s ≡ n + (one_if_not t + o)
unfolding one_if_not
others_more n o s true h = omega arith
others_more n o s false h = omega arith

others_from : (x n : ℕ) (l : List ℕ) → fold (λ a y. a + cond (not (eqb y x)) 1 0) n l ≡ n + others x l
unfolding others
others_from x n [] = omega arith
others_from x n (y ∷ l) = others_more n (others x l) _ (eqb y x) (others_from x (n + cond (not (eqb y x)) 1 0) l)

pub others_count : (x : ℕ) (l : List ℕ) → count_by (λ y. not (eqb y x)) l ≡ others x l
others_count x l = omega (arith, others_from x 0 l)
