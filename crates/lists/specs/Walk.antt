-- A list rewritten from the front, along the bits of a mask and a state that goes on.
use Rattle.std.specs.Prelude.{ℕ, zero, suc, ◌+◌, ◌-◌, ◌/◌, ◌%◌, List, [], ◌∷◌}

module _ {ℓ κ} {A : Type ℓ} {S : Type κ} where
  -- `out` of the bit, the state and the old element; `next` of the bit and the state
  unfoldable pub walk : (ℕ → S → A → A) → (ℕ → S → S) → ℕ → S → List A → List A
  walk out next m a [] = []
  walk out next m a (x ∷ xs) = out (m % 2) a x ∷ walk out next (m / 2) (next (m % 2) a) xs

abbrev pub pick : ℕ → ℕ → ℕ
pick zero a = 0
pick (suc b) a = a

abbrev pub out_more : ℕ → ℕ → ℕ → ℕ
out_more b a x = x + b

abbrev pub out_less : ℕ → ℕ → ℕ → ℕ
out_less b a x = x - b

abbrev pub out_bit : ℕ → ℕ → ℕ → ℕ
out_bit b a x = b

abbrev pub out_pick : ℕ → ℕ → ℕ → ℕ
out_pick b a x = pick b a

abbrev pub next_same : ℕ → ℕ → ℕ
next_same b a = a

abbrev pub next_add : ℕ → ℕ → ℕ
next_add b a = a + b

-- where a bit is set, one more
abbrev pub raised : ℕ → List ℕ → List ℕ
raised m xs = walk out_more next_same m 0 xs

-- where a bit is set, one less
abbrev pub lowered : ℕ → List ℕ → List ℕ
lowered m xs = walk out_less next_same m 0 xs

-- where a bit is set, 1
abbrev pub bits : ℕ → List ℕ → List ℕ
bits m xs = walk out_bit next_same m 0 xs

-- where a bit is set, the next number
abbrev pub numbered : ℕ → ℕ → List ℕ → List ℕ
numbered m a xs = walk out_pick next_add m a xs
