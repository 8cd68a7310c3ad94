-- A list mapped in place, one element after the other.
use mathlib.Core.Path.{◌∙◌, ◌≡◌, refl, ap, sym}
use mathlib.Core.List.{List, [], ◌++◌, ◌∷◌, append-nil, map, map-append}
use Prim.Native.Nat.{◌+◌, ◌<◌, ◌≤◌, ℕ, zero, suc}
use native.Mathlib.Numerals.{add-one}
use native.Mathlib.Omega.{arith}
use lib.ListN.{drop, get_or, length, length-map, set, take}
use lib.Seq.{append_snoc, length-take-le, set_at, take_all, take-suc}
use Rattle.lists.proofs.Slices.{drop_end, drop_next}

pub map_more : (f : ℕ → ℕ) (xs ys₀ ys : List ℕ) (b v : ℕ) → b < length xs → length ys₀ ≡ length xs → ys ≡ map f (take b xs) ++ drop b ys₀ → v ≡ f (get_or xs b 0)
    → set ys b v ≡ map f (take (b + 1) xs) ++ drop (b + 1) ys₀
map_more f xs ys₀ ys b v h n e ev =
    let l : length (map f (take b xs)) ≡ b = length-map (take b xs) f ∙ length-take-le b xs (omega arith) in
    let m : map f (take (b + 1) xs) ≡ map f (take b xs) ++ (v ∷ []) = rw (add-one b, take-suc xs b 0 h) (map-append f (take b xs) (get_or xs b 0 ∷ []) ∙ rw ev) in
    ap (λ (x : List ℕ). set x b v) (e ∙ ap (λ (x : List ℕ). map f (take b xs) ++ x) (drop_next ys₀ b 0 (omega arith)))
    ∙ set_at (map f (take b xs)) (get_or ys₀ b 0) (drop (b + 1) ys₀) v b l
    ∙ sym (rw m (append_snoc (map f (take b xs)) v (drop (b + 1) ys₀)))

pub map_end : (f : ℕ → ℕ) (xs ys₀ ys : List ℕ) (b : ℕ) → length xs ≤ b → length ys₀ ≡ length xs → ys ≡ map f (take b xs) ++ drop b ys₀ → ys ≡ map f xs
map_end f xs ys₀ ys b h n e = e ∙ rw (take_all b xs h, drop_end ys₀ b (omega arith)) (append-nil (map f xs))

pub take_map {ℓ κ} : {A : Type ℓ} {B : Type κ} (f : A → B) (k : ℕ) (xs : List A) → take k (map f xs) ≡ map f (take k xs)
take_map f zero xs = refl
take_map f (suc k) [] = refl
take_map {B = B} f (suc k) (x ∷ xs) = ap (λ (l : List B). f x ∷ l) (take_map f k xs)
