-- The digest of a message whose parts are taken one after the other, wherever they lie.
use mathlib.Core.Path.{◌≡◌, sym, ap, ◌∙◌}
use mathlib.Core.List.{List, [], ◌∷◌, ◌++◌}
use Prim.Native.Nat.{ℕ, ◌+◌, ◌-◌, ◌*◌, ◌%◌, ◌<◌}
use native.Mathlib.Omega.{arith}
use lib.ListN.{length, replicate, length-append, length-replicate}
use Rattle.sha1_definition.specs.Sha1.{bytes_of, absorbed, start, zeros, padding, digest_in, digest}
use Rattle.sha1_definition.specs.Chunks.{finished}
use Rattle.sha1_definition.proofs.Absorb.{absorbed_append}

-- A message of n whole chunks, part after part: `absorbed_append` gives the words after each part, and these the digest at the end.
pub by_parts : (message : List ℕ) (n : ℕ) → length message ≡ 64 * n → finished (absorbed start message) [] n ≡ digest message
unfolding finished digest
by_parts message n e =
    let m : 64 * n + 0 ≡ length message = omega (arith, e) in
    ap digest_in
    (ap (λ (k : ℕ). absorbed (absorbed start message) (padding k)) m
    ∙ sym (absorbed_append n start message (padding (length message)) e))

-- a padded message is whole chunks, and the zeros are the fewest
pub padded_whole : (message : List ℕ) → length (message ++ padding (length message)) % 64 ≡ 0
unfolding padding
padded_whole message = ends _ _
  where
    ends : (high low : ℕ) → length (message ++ (128 ∷ (replicate (zeros (length message)) 0 ++ (bytes_of high ++ bytes_of low)))) % 64 ≡ 0
    ends high low =
        unfold zeros bytes_of in
        (let n : ℕ = length message in
        let z : ℕ = (119 - n % 64) % 64 in
        let words : List ℕ = bytes_of high ++ bytes_of low in
        omega (arith, length-append message (128 ∷ (replicate z 0 ++ words)), length-append (replicate z 0) words, length-replicate {0} {A = ℕ} z 0))

pub zeros_fewest : (n : ℕ) → zeros n < 64
unfolding zeros
zeros_fewest n = omega arith
