-- The padding: the last chunk or two of a message.
use Rattle.std.proofs.Common.{◌≡◌, ℕ, ◌+◌, ◌-◌, ◌*◌, ◌/◌, ◌%◌, ◌^◌, ◌<◌, ◌≤◌, List, [], ◌∷◌, ◌++◌, length, take, drop, replicate, sym, refl, ap, ◌∙◌, ap₂, append_assoc, append-nil, arith, drop_of_length-le, length-append, length-drop, take-append-drop, length-take-le, take_at}
use lib.Seq.{drop_at}
use borrow.Rule.Slice.PartMut.{put_mid}
use lib.ListN.{length-replicate, replicate-append-replicate}
use Rattle.sha1_definition.specs.declared.State.{State}
use Rattle.sha1_definition.specs.Sha1.{bytes_of, compress, absorbed, zeros, padding, digest_in}
use Rattle.sha1_definition.specs.Chunks.{finished}
use Rattle.sha1_definition.proofs.Absorb.{absorbed_append, absorbed_next, absorbed_one, absorbed_cut}

-- two words' bytes written at the end of a chunk
pub two_parts : (l a b : List ℕ) → length l ≡ 64 → length a ≡ 4 → length b ≡ 4 → put_mid 60 4 (put_mid 56 4 l a) b ≡ take 56 l ++ (a ++ b)
two_parts l a b h ha hb =
    let p : List ℕ = take 56 l ++ a in
    let r : List ℕ = drop 4 (drop 56 l) in
    let e : take 56 l ++ (a ++ r) ≡ p ++ r = sym (append_assoc (take 56 l) a r) in
    let lp : length p ≡ 60 = omega (arith, length-append (take 56 l) a, length-take-le 56 l (omega arith)) in
    let z : drop 4 r ≡ [] = drop_of_length-le r {i = 4} (omega (arith, length-drop 4 (drop 56 l), length-drop 56 l)) in
    ap (λ (x : List ℕ). take 60 x ++ (b ++ drop 4 (drop 60 x))) e
    ∙ rw (take_at p r 60 lp, drop_at p r 60 lp, z, append-nil) (append_assoc (take 56 l) a b)

-- a tail with the byte 128, m zeros and the length's two words
abbrev ended : List ℕ → ℕ → ℕ → ℕ → List ℕ
ended tail m high low = tail ++ (128 ∷ (replicate m 0 ++ (bytes_of high ++ bytes_of low)))

length_words : (high low : ℕ) → length (bytes_of high ++ bytes_of low) ≡ 8
unfolding bytes_of
length_words high low = refl

-- the last zeros apart
apart : (tail : List ℕ) (i j : ℕ) (l : List ℕ) → tail ++ (128 ∷ (replicate (i + j) 0 ++ l)) ≡ (tail ++ (128 ∷ replicate i 0)) ++ (replicate j 0 ++ l)
apart tail i j l =
    ap (λ (z : List ℕ). tail ++ (128 ∷ (z ++ l))) (sym (replicate-append-replicate i j 0))
    ∙ ap (λ (z : List ℕ). tail ++ (128 ∷ z)) (append_assoc (replicate i 0) (replicate j 0) l)
    ∙ sym (append_assoc tail (128 ∷ replicate i 0) (replicate j 0 ++ l))

length_front : (tail : List ℕ) (i : ℕ) → length (tail ++ (128 ∷ replicate i 0)) ≡ length tail + (i + 1)
length_front tail i =
    omega (arith, length-append tail (128 ∷ replicate i 0), length-replicate {0} {A = ℕ} i 0)

module _ (h : State) (tail : List ℕ) (high low : ℕ) where
  -- room for the length in the tail's own chunk
  pub ends_once : length tail < 56
      → compress h (take 56 (tail ++ (128 ∷ replicate (63 - length tail) 0)) ++ (bytes_of high ++ bytes_of low)) ≡ absorbed h (ended tail (zeros (length tail)) high low)
  unfolding zeros
  ends_once p =
      let n : ℕ = length tail in
      let l : List ℕ = bytes_of high ++ bytes_of low in
      let front : List ℕ = tail ++ (128 ∷ replicate (55 - n) 0) in
      let lf : length front ≡ 56 = omega (arith, length_front tail (55 - n)) in
      let e : 63 - n ≡ 55 - n + 8 = omega arith in
      let z : (119 - n % 64) % 64 ≡ 55 - n + 0 = omega arith in
      let cut : take 56 (tail ++ (128 ∷ replicate (63 - n) 0)) ≡ front =
      ap (λ (m : ℕ). take 56 (tail ++ (128 ∷ replicate m 0))) e
      ∙ ap (λ (x : List ℕ). take 56 (tail ++ (128 ∷ x))) (sym (replicate-append-replicate (55 - n) 8 0))
      ∙ ap (take 56) (sym (append_assoc tail (128 ∷ replicate (55 - n) 0) (replicate 8 0)))
      ∙ take_at front (replicate 8 0) 56 lf in
      ap (λ (x : List ℕ). compress h (x ++ l)) cut
      ∙ sym (absorbed_one h (front ++ l) (omega (arith, length-append front l, length_words high low)))
      ∙ ap (absorbed h) (sym (apart tail (55 - n) 0 l))
      ∙ ap (λ (m : ℕ). absorbed h (ended tail m high low)) (sym z)

  -- the length in a chunk of its own
  pub ends_twice : 56 ≤ length tail → length tail < 64
      → compress (compress h (tail ++ (128 ∷ replicate (63 - length tail) 0))) (take 56 (replicate 64 0) ++ (bytes_of high ++ bytes_of low)) ≡ absorbed h (ended tail (zeros (length tail)) high low)
  unfolding zeros
  ends_twice p q =
      let n : ℕ = length tail in
      let l : List ℕ = bytes_of high ++ bytes_of low in
      let front : List ℕ = tail ++ (128 ∷ replicate (63 - n) 0) in
      let last : List ℕ = replicate 56 0 ++ l in
      let lf : length front ≡ 64 = omega (arith, length_front tail (63 - n)) in
      let z : (119 - n % 64) % 64 ≡ 63 - n + 56 = omega arith in
      sym (absorbed_one (compress h front) last (length-append (replicate {A = ℕ} 56 0) l ∙ omega (arith, length_words high low)))
      ∙ sym (absorbed_next h front last lf)
      ∙ ap (absorbed h) (sym (apart tail (63 - n) 56 l))
      ∙ ap (λ (m : ℕ). absorbed h (ended tail m high low)) (sym z)

-- a word's bytes are those of its number modulo 2 ^ 32
bytes_mod : (x y : ℕ) → x ≡ y % 4294967296 → bytes_of x ≡ bytes_of y
unfolding bytes_of
bytes_mod x y e =
    let p : x / 16777216 % 256 ≡ y / 16777216 % 256 = omega arith in
    let q : x / 65536 % 256 ≡ y / 65536 % 256 = omega arith in
    let r : x / 256 % 256 ≡ y / 256 % 256 = omega arith in
    let s : x % 256 ≡ y % 256 = omega arith in
    rw (p, q, r, s)

module _ (h : State) (rest : List ℕ) (chunks : ℕ) where
  abbrev n : ℕ
  n = length rest

  abbrev tail : List ℕ
  tail = drop (n / 64 * 64) rest

  padding_is : (high low : ℕ) → high ≡ (chunks + n / 64) % 2 ^ 64 / 8388608 % 4294967296
      → low ≡ (chunks + n / 64) % 2 ^ 64 % 8388608 * 512 + n % 64 * 8
      → 128 ∷ (replicate (zeros (length tail)) 0 ++ (bytes_of high ++ bytes_of low)) ≡ padding (64 * chunks + n)
  unfolding padding zeros
  padding_is high low eh el =
      let lt : length tail ≡ n % 64 = omega (arith, length-drop (n / 64 * 64) rest) in
      let z : (119 - length tail % 64) % 64 ≡ (119 - (64 * chunks + n) % 64) % 64 = omega arith in
      let hi : high ≡ 8 * (64 * chunks + n) / 4294967296 % 4294967296 = omega arith in
      let lo : low ≡ 8 * (64 * chunks + n) % 4294967296 = omega arith in
      ap₂ (λ (m : ℕ) (l : List ℕ). 128 ∷ (replicate m 0 ++ l)) z
      (ap₂ (λ (x y : List ℕ). x ++ y) (bytes_mod high (8 * (64 * chunks + n) / 4294967296) hi) (bytes_mod low (8 * (64 * chunks + n)) lo))

  -- the whole chunks, then the tail with its padding
  pub finish_is : (high low : ℕ) → high ≡ (chunks + n / 64) % 2 ^ 64 / 8388608 % 4294967296
      → low ≡ (chunks + n / 64) % 2 ^ 64 % 8388608 * 512 + n % 64 * 8
      → digest_in (absorbed (absorbed h rest) (tail ++ (128 ∷ (replicate (zeros (length tail)) 0 ++ (bytes_of high ++ bytes_of low))))) ≡ finished h rest chunks
  unfolding finished
  finish_is high low eh el =
      let p : List ℕ = padding (64 * chunks + n) in
      let front : List ℕ = take (n / 64 * 64) rest in
      let lf : length front ≡ 64 * (n / 64) = length-take-le (n / 64 * 64) rest (omega arith) ∙ omega arith in
      ap digest_in
      (ap (λ (l : List ℕ). absorbed (absorbed h rest) (tail ++ l)) (padding_is high low eh el)
      ∙ ap (λ (s : State). absorbed s (tail ++ p)) (sym (absorbed_cut h rest))
      ∙ sym (absorbed_append (n / 64) h front (tail ++ p) lf)
      ∙ ap (absorbed h) (sym (append_assoc front tail p))
      ∙ ap (λ (l : List ℕ). absorbed h (l ++ p)) (take-append-drop (n / 64 * 64) rest))
