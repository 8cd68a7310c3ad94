-- The loop of a restore.
use mathlib.Core.Path.{◌≡◌, refl, sym, ap, ◌∙◌}
use mathlib.Core.List.{List, ◌++◌, append_assoc}
use Prim.Native.Nat.{ℕ, suc, ◌+◌, ◌-◌, ◌*◌, ◌≤◌, ◌<◌, max, min}
use native.Mathlib.Nat.{zero-mul, mul-le-mul_right}
use native.Mathlib.Numerals.{add-one}
use native.Mathlib.Omega.{arith}
use lib.ListN.{length, take, drop}
use lib.Seq.{drop-drop, take_at, drop_at, take-add, length-take-le}
use lib.Arith.{digits_lt}
use Rattle.lists.specs.Lists.{largest, counted}
use Rattle.lists.proofs.Places.{row_room, row_next}
use Rattle.model.specs.Measures.{parts_for}
use Rattle.laws.proofs.Measures.{parts_few}
use Rattle.restore_trace.specs.Versions.{Traceable}

-- ---- the bytes

-- one more piece of an image
piece_more : (img out : List ℕ) (b : List ℕ) (d m : ℕ) → d ≤ length img → take m (drop d img) ≡ b
    → (let o = take d img ++ drop d out in take d o ++ (b ++ drop (d + m) o)) ≡ take (d + m) img ++ drop (d + m) out
piece_more img out b d m h e =
    let l = length-take-le d img h in
    let f : take d (take d img ++ drop d out) ≡ take d img = take_at (take d img) (drop d out) d l in
    let g : drop (d + m) (take d img ++ drop d out) ≡ drop (d + m) out =
    sym (drop-drop m d (take d img ++ drop d out)) ∙ ap (λ (x : List ℕ). drop m x) (drop_at (take d img) (drop d out) d l) ∙ drop-drop m d out in
    rw (f, g, ← e, take-add d m img) (sym (append_assoc (take d img) (take m (drop d img)) (drop (d + m) out)))

-- the front of block n has gone to its place
restore_turn : (size : ℕ) (img out₀ out ys block : List ℕ) (n len count at end : ℕ) → length img ≡ count * size → n < count → count * size < len + size
    → at ≡ n * size → end ≡ min (at + size) len → ((m : ℕ) → m ≤ size → take m (drop (n * size) img) ≡ take m block)
    → out ≡ take (min (n * size) len) img ++ drop (min (n * size) len) out₀
    → ys ≡ take (n * size) out ++ (take (end - at) block ++ drop (n * size + (end - at)) out)
    → ys ≡ take (min ((n + 1) * size) len) img ++ drop (min ((n + 1) * size) len) out₀
restore_turn size img out₀ out ys block n len count at end li l h ea ee f e ey =
    let d : ℕ = n * size in
    let m : ℕ = end - at in
    let room : n * size + size ≤ count * size = row_room n count size l in
    let next : (n + 1) * size ≡ n * size + size = row_next n size in
    let e₁ : min (n * size) len ≡ d = omega arith in
    let e₂ : min ((n + 1) * size) len ≡ d + m = omega arith in
    let o : out ≡ take d img ++ drop d out₀ = e ∙ ap (λ (i : ℕ). take i img ++ drop i out₀) e₁ in
    ey
    ∙ ap (λ (x : List ℕ). take d x ++ (take m block ++ drop (d + m) x)) o
    ∙ piece_more img out₀ (take m block) d m (omega (arith, li)) (f m (omega arith))
    ∙ ap (λ (i : ℕ). take i img ++ drop i out₀) (sym e₂)

-- ---- the chains

chain_next : (f : ℕ → ℕ) (count most n : ℕ) → n < count → max (max most (f n)) (largest (counted f (n + 1) (count - (n + 1)))) ≡ max most (largest (counted f n (count - n)))
unfolding counted largest
chain_next f count most n h =
    let e : count - n ≡ suc (count - (n + 1)) = omega arith in
    rw (e, add-one n) (omega arith)

-- ---- the loop

pub record Restoring (size : ℕ) (img : List ℕ) (f : ℕ → ℕ) (out₀ : List ℕ) (len count : ℕ) (out : List ℕ) (most n : ℕ) : Type 0 where
  pub inside : n ≤ count
  pub long : length out ≡ length out₀
  pub bytes : out ≡ take (min (n * size) len) img ++ drop (min (n * size) len) out₀
  pub chain : max most (largest (counted f n (count - n))) ≡ largest (counted f 0 count)

module _ (size : ℕ) (img : List ℕ) (f : ℕ → ℕ) (out₀ : List ℕ) (len count : ℕ) where
  pub restore_start : Restoring size img f out₀ len count out₀ 0 0
  restore_start =
      let e : min (0 * size) len ≡ 0 = omega (arith, zero-mul size) in
      let q : count - 0 ≡ count = omega arith in
      record { inside = omega arith; long = refl; bytes = rw e; chain = rw q (omega arith) }

  module _ (out : List ℕ) (most n : ℕ) (s : Restoring size img f out₀ len count out most n) where
    pub restore_next : (ys block : List ℕ) (at end most' hop : ℕ) → length img ≡ count * size → n < count → count * size < len + size
        → at ≡ n * size → end ≡ min (at + size) len → ((m : ℕ) → m ≤ size → take m (drop (n * size) img) ≡ take m block)
        → ys ≡ take (n * size) out ++ (take (end - at) block ++ drop (n * size + (end - at)) out) → length ys ≡ length out → most' ≡ max most hop → hop ≡ f n
        → Restoring size img f out₀ len count ys most' (n + 1)
    restore_next ys block at end most' hop li h k ea ee eb ey ly em eh = record {
      inside = omega arith;
      long = ly ∙ s.long;
      bytes = restore_turn size img out₀ out ys block n len count at end li h k ea ee eb s.bytes ey;
      chain = rw (em, eh) (chain_next f count most n h) ∙ s.chain;
    }

    pub restore_bytes : count ≤ n → len ≤ count * size → out ≡ take len img ++ drop len out₀
    restore_bytes h k =
        let d : min (n * size) len ≡ len = omega (arith, mul-le-mul_right size h) in
        rw d at s.bytes

    pub restore_chain : count ≤ n → most ≡ largest (counted f 0 count)
    unfolding counted largest
    restore_chain h =
        let e : count - n ≡ 0 = omega arith in
        let q : max most (largest (counted f n 0)) ≡ largest (counted f 0 count) = rw e at s.chain in
        omega (arith, q)

-- block n begins before the length, and the blocks end less than a block past it
pub front_inside : (size len count n : ℕ) → 64 ≤ size → count ≡ parts_for size len → n < count → (n * size < len) × (count * size < len + size)
front_inside size len count n some e h =
    let few : count * size < len + size = rw e (parts_few size len (omega arith)) in
    (omega (arith, few, row_room n count size h), few)

pub slots_long : (size b h : ℕ) (slots : List ℕ) → Traceable size b h slots → 2 < length slots
slots_long size b h slots ok =
    let d : 0 * (3 + b) + 2 < h * (3 + b) = digits_lt {c = 3 + b} ok.some (omega arith) in
    omega (arith, zero-mul (3 + b), ok.rows)
