-- Words written over a part, one after the other.
use mathlib.Core.Path.{◌≡◌, sym, ap, ◌∙◌}
use mathlib.Core.List.{List, [], ◌++◌, append_assoc, append-nil}
use Prim.Native.Nat.{ℕ, ◌+◌, ◌-◌, ◌≤◌, ◌<◌}
use native.Mathlib.Nat.{add_assoc}
use native.Mathlib.Omega.{arith}
use lib.ListN.{length, get_or, set, take, drop, length-append, length-drop}
use lib.Seq.{get_or-drop, take_at, drop_at, drop-drop, length-take-le, take_all}
use borrow.Rule.Slice.PartMut.{mid_of, put_mid}
use Rattle.lists.specs.Written.{written}
use Rattle.lists.proofs.Slices.{drop_end}
use Rattle.lists.proofs.Copies.{copy_more}

-- ---- one word after the other

-- one more element of a part copied
pub part_more : (t d : List ℕ) (at i : ℕ) → at + i < length t → i < length d
    → set (take i (drop at t) ++ drop i d) i (get_or t (at + i) 0) ≡ take (i + 1) (drop at t) ++ drop (i + 1) d
part_more t d at i h h' = rw (← get_or-drop at t i 0) (copy_more (drop at t) d i (omega (arith, length-drop at t)) h')

-- the whole, whose end from a on was lent, and s copied to the front of that
pub copied_part : (a : ℕ) (xs s ys : List ℕ) → a + length s ≤ length xs → ys ≡ s ++ drop (length s) (mid_of a (length xs - a) xs)
    → put_mid a (length xs - a) xs ys ≡ take a xs ++ (s ++ drop (a + length s) xs)
copied_part a xs s ys h e =
    let l : length (drop a xs) ≤ length xs - a = omega (arith, length-drop a xs) in
    let whole : mid_of a (length xs - a) xs ≡ drop a xs = take_all _ _ l in
    let none : drop (length xs - a) (drop a xs) ≡ [] = drop_end _ _ l in
    rw (e, whole, none, append-nil, drop-drop)

-- ---- words written one after the other

pub written_written : (t : List ℕ) (at : ℕ) (s s' : List ℕ) → at + length s ≤ length t → written (written t at s) (at + length s) s' ≡ written t at (s ++ s')
unfolding written
written_written t at s s' h =
    let p = take at t ++ s in
    let d = drop (at + length s) t in
    let l : length p ≡ at + length s = length-append (take at t) s ∙ ap (λ (n : ℕ). n + length s) (length-take-le at t (omega arith)) in
    let e : take at t ++ (s ++ d) ≡ p ++ d = sym (append_assoc (take at t) s d) in
    let f : take (at + length s) (p ++ d) ≡ p = take_at p d _ l in
    let g : drop (at + length s + length s') (p ++ d) ≡ drop (at + length s + length s') t =
    sym (drop-drop (length s') (at + length s) (p ++ d)) ∙ ap (λ (x : List ℕ). drop (length s') x) (drop_at p d _ l) ∙ drop-drop (length s') (at + length s) t in
    rw (e, f, g, length-append s s', ← add_assoc) (append_assoc (take at t) s _ ∙ rw (append_assoc s s'))
