-- Parts that were lent and have come back, and a block of an image.
use mathlib.Core.Path.{◌≡◌, refl, sym, ap, ap₂, ◌∙◌}
use mathlib.Core.Bool.{Bool, false, cond}
use mathlib.Core.List.{List, [], ◌∷◌, ◌++◌}
use Prim.Native.Nat.{ℕ, ◌+◌, ◌-◌, ◌≤◌, min}
use native.Mathlib.Omega.{arith}
use lib.ListN.{length, replicate, take, drop, length-drop, length-append, take-append-drop}
use lib.Seq.{length-take-le}
use borrow.Rule.Slice.PartMut.{mid_of, put_mid, Post-is, mid_len}
use Rattle.lists.specs.Lists.{every, all_zero, same_numbers}
use Rattle.lists.specs.Rows.{fill}
use Rattle.lists.proofs.Slices.{tail_all, tail_put, cut_small, cut_is}
use Rattle.lists.proofs.Rows.{fill_all, fill_split, fill_take, fill_zeros}
use Rattle.model.specs.Image.{block_from}
use Rattle.lists.proofs.Appends.{same_append}

-- the whole, whose n elements from a on were filled
pub filled_part : (a n v : ℕ) (xs ys : List ℕ) → a + n ≤ length xs → ys ≡ replicate (length (mid_of a ((a + n) - a) xs)) v
    → put_mid a ((a + n) - a) xs ys ≡ take a xs ++ (replicate n v ++ drop (a + n) xs)
filled_part a n v xs ys h e =
    let k : (a + n) - a ≡ n = omega arith in
    rw (e, mid_len a (a + n) xs h, Post-is a (a + n) xs (omega arith), k)

-- ---- a part filled up with zeros

same_zeros : (b : List ℕ) → same_numbers b (replicate (length b) 0) ≡ all_zero b
unfolding same_numbers all_zero every
same_zeros [] = refl
same_zeros (x ∷ b) = rw (same_zeros b)

padded_is : (p b : List ℕ) → length p ≤ length b → same_numbers b (fill (length b) p) ≡ cond (same_numbers (take (length p) b) p) (all_zero (drop (length p) b)) false
padded_is p b h =
    let n : length b - length p ≡ length (drop (length p) b) = sym (length-drop (length p) b) in
    ap₂ same_numbers (sym (take-append-drop (length p) b)) (fill_split (length b) p h ∙ ap (λ (l : List ℕ). p ++ l) (fill_zeros (length b - length p) ∙ ap (λ (k : ℕ). replicate k 0) n))
    ∙ same_append (take (length p) b) (drop (length p) b) p (replicate (length (drop (length p) b)) 0) (length-take-le (length p) b h)
    ∙ ap (λ (t : Bool). cond (same_numbers (take (length p) b) p) t false) (same_zeros (drop (length p) b))

pub padded : (p b : List ℕ) → length p ≤ length b → (front end : List ℕ) (t : Bool) → front ≡ take (length p) b → end ≡ drop (length p) b
    → t ≡ same_numbers front p → cond t (all_zero end) false ≡ same_numbers b (fill (length b) p)
padded p b h front end t ef ee e = rw (e, ef, ee) (sym (padded_is p b h))

-- copied to the front of a list, and the rest of the list cleared
pub put_filled : (p cell xs ys : List ℕ) (k n : ℕ) → length p ≡ k → k ≤ n → length cell ≡ n → xs ≡ p ++ drop (length p) cell
    → ys ≡ replicate (length (take (length xs - k) (drop k xs))) 0 → take k xs ++ (ys ++ drop (length xs - k) (drop k xs)) ≡ fill n p
put_filled p cell xs ys k n lp h lc ex ey =
    let lx : length xs ≡ n = ap length ex ∙ length-append p (drop (length p) cell) ∙ omega (arith, length-drop (length p) cell) in
    let rest : length (take (length xs - k) (drop k xs)) ≡ n - length p = ap length (tail_all xs k) ∙ length-drop k xs ∙ omega arith in
    tail_put p (drop (length p) cell) xs k ex lp ys
    ∙ ap (λ (t : List ℕ). p ++ t) (ey ∙ ap (λ (j : ℕ). replicate j 0) rest ∙ sym (fill_zeros (n - length p)))
    ∙ sym (fill_split n p (omega arith))

-- ---- a block of an image, from the part that is there

module _ (l : List ℕ) (at bytes s e : ℕ) (hs : s ≡ min (length l) at) (he : e ≡ min (length l) (at + bytes)) where
  abbrev pub cut : List ℕ
  cut = take (e - s) (drop s l)

  pub cut_block : fill bytes cut ≡ block_from bytes l at
  unfolding block_from
  cut_block = cut_is l at bytes s e hs he

  pub cut_fits : length cut ≤ bytes
  cut_fits = cut_small l at bytes s e hs he

-- a block that the image's end does not cut
pub whole_same : (l cell : List ℕ) (at bytes : ℕ) → at + bytes ≤ length l
    → same_numbers cell (take (at + bytes - at) (drop at l)) ≡ same_numbers cell (block_from bytes l at)
unfolding block_from
whole_same l cell at bytes h =
    let k : at + bytes - at ≡ bytes = omega arith in
    let w : length (take bytes (drop at l)) ≡ bytes = length-take-le bytes (drop at l) (omega (arith, length-drop at l)) in
    rw k (ap (same_numbers cell) (sym (fill_all bytes (take bytes (drop at l)) w) ∙ fill_take bytes (drop at l)))
