-- Lists cut into parts of given lengths, and joined again.
use mathlib.Core.Path.{◌≡◌, refl, sym, ap, ap₂, ◌∙◌}
use mathlib.Core.List.{List, [], ◌∷◌, ◌++◌, map, append_assoc}
use Prim.Native.Nat.{ℕ, zero, suc, ◌+◌, ◌≤◌, ◌<◌}
use native.Mathlib.Nat.{not-suc-le-zero, le_of_suc-le-suc}
use native.Mathlib.Omega.{arith}
use lib.ListN.{length, get_or, set, take, drop, length-append, length-drop, take-append-drop}
use lib.Seq.{take_at, drop_at, drop-drop, take-add, length-take-le, map-set_same}
use Rattle.lists.specs.Lists.{total}
use Rattle.lists.specs.Rows.{joined, parts_by}
use Rattle.lists.proofs.Slices.{none_left}

-- where part `i` begins
abbrev pub part_from : List ℕ → ℕ → ℕ
part_from ns i = total (λ n. n) (take i ns)

-- no part begins past the end of all
pub part_inside : (ns : List ℕ) (i : ℕ) → i < length ns → part_from ns i + get_or ns i 0 ≤ total (λ n. n) ns
unfolding total
part_inside [] i h = absurd (not-suc-le-zero h)
part_inside (n ∷ ns) zero h = omega arith
part_inside (n ∷ ns) (suc i) h = omega (arith, part_inside ns i (le_of_suc-le-suc h))

pub part_next : (ns : List ℕ) (i : ℕ) → i < length ns → part_from ns (i + 1) ≡ part_from ns i + get_or ns i 0
unfolding total
part_next [] i h = absurd (not-suc-le-zero h)
part_next (n ∷ ns) zero h = omega arith
part_next (n ∷ ns) (suc i) h = let e : suc i + 1 ≡ suc (i + 1) = omega arith in rw e (omega (arith, part_next ns i (le_of_suc-le-suc h)))

module _ {ℓ} {A : Type ℓ} where
  pub length_parts_by : (ns : List ℕ) (xs : List A) → length (parts_by ns xs) ≡ length ns
  unfolding parts_by
  length_parts_by [] xs = refl
  length_parts_by (n ∷ ns) xs = ap suc (length_parts_by ns (drop n xs))

  pub part_by : (ns : List ℕ) (xs : List A) (i : ℕ) → i < length ns → get_or (parts_by ns xs) i [] ≡ take (get_or ns i 0) (drop (part_from ns i) xs)
  unfolding parts_by total
  part_by [] xs i h = absurd (not-suc-le-zero h)
  part_by (n ∷ ns) xs zero h = refl
  part_by (n ∷ ns) xs (suc i) h = part_by ns (drop n xs) i (le_of_suc-le-suc h) ∙ ap (take (get_or ns i 0)) (drop-drop (part_from ns i) n xs)

  pub joined_parts_by : (ns : List ℕ) (xs : List A) → total (λ n. n) ns ≡ length xs → joined (parts_by ns xs) ≡ xs
  unfolding joined parts_by total
  joined_parts_by [] xs e = sym (none_left xs (sym e))
  joined_parts_by (n ∷ ns) xs e =
      ap (λ (l : List A). take n xs ++ l) (joined_parts_by ns (drop n xs) (omega (arith, e, length-drop n xs))) ∙ take-append-drop n xs

  -- with another part in the place of one
  pub put_part_by : (ns : List ℕ) (xs : List A) (i : ℕ) (y : List A) → total (λ n. n) ns ≡ length xs → i < length ns
      → take (part_from ns i) xs ++ (y ++ drop (get_or ns i 0) (drop (part_from ns i) xs)) ≡ joined (set (parts_by ns xs) i y)
  unfolding joined parts_by total
  put_part_by [] xs i y e h = absurd (not-suc-le-zero h)
  put_part_by (n ∷ ns) xs zero y e h = ap (λ (l : List A). y ++ l) (sym (joined_parts_by ns (drop n xs) (omega (arith, e, length-drop n xs))))
  put_part_by (n ∷ ns) xs (suc i) y e h =
      ap₂ (λ (a b : List A). a ++ (y ++ drop (get_or ns i 0) b)) (take-add n (part_from ns i) xs) (sym (drop-drop (part_from ns i) n xs))
      ∙ append_assoc (take n xs) (take (part_from ns i) (drop n xs)) (y ++ drop (get_or ns i 0) (drop (part_from ns i) (drop n xs)))
      ∙ ap (λ (l : List A). take n xs ++ l) (put_part_by ns (drop n xs) i y (omega (arith, e, length-drop n xs)) (le_of_suc-le-suc h))

  pub parts_by_joined : (xss : List (List A)) → parts_by (map length xss) (joined xss) ≡ xss
  unfolding joined parts_by
  parts_by_joined [] = refl
  parts_by_joined (xs ∷ xss) =
      ap₂ (λ (a : List A) (b : List (List A)). a ∷ b) (take_at xs (joined xss) (length xs) refl)
      (ap (parts_by (map length xss)) (drop_at xs (joined xss) (length xs) refl) ∙ parts_by_joined xss)

  pub lengths_parts_by : (ns : List ℕ) (xs : List A) → total (λ n. n) ns ≡ length xs → map length (parts_by ns xs) ≡ ns
  unfolding parts_by total
  lengths_parts_by [] xs e = refl
  lengths_parts_by (n ∷ ns) xs e =
      ap₂ (λ (a : ℕ) (b : List ℕ). a ∷ b) (length-take-le n xs (omega (arith, e))) (lengths_parts_by ns (drop n xs) (omega (arith, e, length-drop n xs)))

  pub total_joined : (xss : List (List A)) → total (λ n. n) (map length xss) ≡ length (joined xss)
  unfolding joined total
  total_joined [] = refl
  total_joined (xs ∷ xss) = omega (arith, length-append xs (joined xss), total_joined xss)

-- with one as long in the place of part `i`, the parts are the others and that one
module _ {A : Type 0} (ns : List ℕ) (xs : List A) (e : total (λ n. n) ns ≡ length xs) (i : ℕ) (y : List A) (h : length y ≡ length (get_or (parts_by ns xs) i [])) where
  same_lengths : map length (set (parts_by ns xs) i y) ≡ ns
  same_lengths = map-set_same length (parts_by ns xs) i y [] h ∙ lengths_parts_by ns xs e

  pub parts_by_put : parts_by ns (joined (set (parts_by ns xs) i y)) ≡ set (parts_by ns xs) i y
  parts_by_put = ap (λ (ms : List ℕ). parts_by ms (joined (set (parts_by ns xs) i y))) (sym same_lengths) ∙ parts_by_joined (set (parts_by ns xs) i y)

  pub total_put : total (λ n. n) ns ≡ length (joined (set (parts_by ns xs) i y))
  total_put = ap (total (λ n. n)) (sym same_lengths) ∙ total_joined (set (parts_by ns xs) i y)
