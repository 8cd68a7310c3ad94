-- Chunks taken one after the other are the chunks of their concatenation.
use mathlib.Core.Path.{◌≡◌, sym, ap, ap₂, ◌∙◌}
use mathlib.Core.List.{List, [], ◌∷◌, ◌++◌}
use Prim.Native.Nat.{ℕ, zero, suc, ◌+◌, ◌*◌, ◌/◌}
use native.Mathlib.Nat.{zero-add, suc-add, add-zero}
use native.Mathlib.Omega.{arith}
use lib.ListN.{length, take, drop, length-append, length-drop, take-append-drop}
use lib.Seq.{take-append-le, drop-append-le, take_all, length-take-le}
use Rattle.sha1_definition.specs.declared.State.{State}
use Rattle.sha1_definition.specs.Sha1.{compress, absorb, absorbed}

absorb_append : (n m : ℕ) (h : State) (a b : List ℕ) → length a ≡ 64 * n → absorb (n + m) h (a ++ b) ≡ absorb m (absorb n h a) b
unfolding absorb
absorb_append zero m h [] b e = rw zero-add
absorb_append zero m h (x ∷ a) b e = absurd (omega arith)
absorb_append (suc n) m h a b e =
    ap (λ (i : ℕ). absorb i h (a ++ b)) (suc-add n m)
    ∙ ap₂ (λ (x y : List ℕ). absorb (n + m) (compress h x) y) (take-append-le 64 a b (omega arith)) (drop-append-le 64 a b (omega arith))
    ∙ absorb_append n m (compress h (take 64 a)) (drop 64 a) b (omega (arith, length-drop 64 a))

-- whole chunks first, then the rest
pub absorbed_append : (n : ℕ) (h : State) (a b : List ℕ) → length a ≡ 64 * n → absorbed h (a ++ b) ≡ absorbed (absorbed h a) b
unfolding absorbed
absorbed_append n h a b e =
    let p : length (a ++ b) / 64 ≡ n + length b / 64 = omega (arith, length-append a b) in
    let q : length a / 64 ≡ n = omega arith in
    rw (p, q) (absorb_append n (length b / 64) h a b e)

-- a chunk
pub absorbed_one : (h : State) (a : List ℕ) → length a ≡ 64 → absorbed h a ≡ compress h a
unfolding absorbed absorb
absorbed_one h a e =
    let q : length a / 64 ≡ 1 = omega arith in
    rw (q, take_all 64 a (omega arith))

-- one chunk, then the rest
pub absorbed_next : (h : State) (a b : List ℕ) → length a ≡ 64 → absorbed h (a ++ b) ≡ absorbed (compress h a) b
absorbed_next h a b e = absorbed_append 1 h a b e ∙ ap (λ (s : State). absorbed s b) (absorbed_one h a e)

-- what is left over after the whole chunks is not taken
pub absorbed_cut : (h : State) (bytes : List ℕ) → absorbed h (take (length bytes / 64 * 64) bytes) ≡ absorbed h bytes
unfolding absorbed absorb
absorbed_cut h bytes =
    let n : ℕ = length bytes / 64 in
    let a : List ℕ = take (n * 64) bytes in
    let la : length a ≡ 64 * n = length-take-le (n * 64) bytes (omega arith) ∙ omega arith in
    let q : length a / 64 ≡ n = omega arith in
    ap (λ (m : ℕ). absorb m h a) q
    ∙ sym (absorb_append n 0 h a (drop (n * 64) bytes) la)
    ∙ ap (λ (m : ℕ). absorb m h (a ++ drop (n * 64) bytes)) (add-zero n)
    ∙ ap (absorb n h) (take-append-drop (n * 64) bytes)
