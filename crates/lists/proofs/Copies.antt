-- What loops that copy or clear a list element by element need.
use mathlib.Core.Path.{◌≡◌, sym, ap, ◌∙◌}
use mathlib.Core.List.{List, ◌∷◌, ◌++◌, append_assoc, append-nil}
use Prim.Native.Nat.{ℕ, suc, ◌+◌, ◌-◌, ◌<◌}
use native.Mathlib.Nat.{add_comm}
use native.Mathlib.Omega.{arith}
use lib.ListN.{length, replicate, take, drop, get_or, set, length-drop}
use lib.Seq.{set_at, length-take-le, take-length, take_all, get_or-append-add, get_or-drop}
use Rattle.lists.proofs.Slices.{drop_next, take_next, drop_end, drop_same}

-- one more element copied
pub copy_more : (s d : List ℕ) (i : ℕ) → i < length s → i < length d → set (take i s ++ drop i d) i (get_or s i 0) ≡ take (i + 1) s ++ drop (i + 1) d
copy_more s d i h h' =
    rw (drop_next d i 0, take_next s i 0, append_assoc)
    (set_at (take i s) (get_or d i 0) (drop (i + 1) d) (get_or s i 0) i (length-take-le i s (omega arith)))

pub copy_all : (s d : List ℕ) (i : ℕ) → i ≡ length s → take i s ++ drop i d ≡ s ++ drop (length s) d
copy_all s d i e = rw (e, take-length)

pub clear_all : (v : ℕ) (d : List ℕ) (i : ℕ) → i ≡ length d → replicate i v ++ drop i d ≡ replicate (length d) v
clear_all v d i e = rw (e, drop_end d (length d) (omega arith)) (append-nil _)

-- the elements from `w` on moved to the front, in the same list
module _ (s : List ℕ) (w i : ℕ) (h : i + w < length s) where
  moved_read : get_or (take i (drop w s) ++ drop i s) (i + w) 0 ≡ get_or s (i + w) 0
  moved_read =
      let l : length (take i (drop w s)) ≡ i = length-take-le i (drop w s) (omega (arith, length-drop w s)) in
      ap (λ (k : ℕ). get_or (take i (drop w s) ++ drop i s) (k + w) 0) (sym l)
      ∙ get_or-append-add (take i (drop w s)) (drop i s) w 0 ∙ get_or-drop i s w 0

  pub moved_more : set (take i (drop w s) ++ drop i s) i (get_or (take i (drop w s) ++ drop i s) (i + w) 0) ≡ take (i + 1) (drop w s) ++ drop (i + 1) s
  moved_more =
      let e : get_or (take i (drop w s) ++ drop i s) (i + w) 0 ≡ get_or (drop w s) i 0 =
      moved_read ∙ ap (λ (k : ℕ). get_or s k 0) (add_comm i w) ∙ sym (get_or-drop w s i 0) in
      rw e (copy_more (drop w s) s i (omega (arith, length-drop w s)) (omega arith))

-- the element after the copied ones, over the zeros that are left
pub mark_end : (s : List ℕ) (n i v : ℕ) → i ≡ length s → i < n → set (take i s ++ drop i (replicate {A = ℕ} n 0)) i v ≡ s ++ (v ∷ replicate (n - 1 - length s) 0)
mark_end s n i v e h =
    let p : n - i ≡ suc (n - 1 - length s) = omega arith in
    let z : drop i (replicate {A = ℕ} n 0) ≡ 0 ∷ replicate (n - 1 - length s) 0 = drop_same 0 i n ∙ ap (λ (m : ℕ). replicate {A = ℕ} m 0) p in
    ap (λ (l : List ℕ). set (take i s ++ l) i v) z
    ∙ ap (λ (l : List ℕ). set (l ++ (0 ∷ replicate (n - 1 - length s) 0)) i v) (take_all i s (omega arith))
    ∙ set_at s 0 (replicate (n - 1 - length s) 0) v i (sym e)
