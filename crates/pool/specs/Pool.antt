-- Blocks copied and cleared among a pool's bytes, and the marks of the occupied cells.
use Rattle.std.specs.Prelude.{Bool, true, false, List, [], ◌∷◌, ◌++◌, ℕ, zero, suc, ◌+◌, ◌*◌, ◌/◌, ◌%◌, take, drop, set, replicate}

-- the block of cell c, of so many bytes, copied to cell at
unfoldable pub copy_to : ℕ → List ℕ → ℕ → ℕ → List ℕ
copy_to bytes p c at = take (at * bytes) p ++ (take bytes (drop (c * bytes) p) ++ drop (at * bytes + bytes) p)

-- cell c cleared
unfoldable pub clear_at : ℕ → List ℕ → ℕ → ℕ → List ℕ
clear_at bytes p c at = take (c * bytes) p ++ (replicate bytes 0 ++ drop (c * bytes + bytes) p)

abbrev pub take_at : List Bool → ℕ → ℕ → List Bool
take_at os c at = set os at true

abbrev pub free_at : List Bool → ℕ → ℕ → List Bool
free_at os c at = set os c false

abbrev pub mark_at : List Bool → ℕ → ℕ → List Bool
mark_at os c at = set os c true

abbrev pub choose : {S : Type 0} → ℕ → S → S → S
choose zero s t = s
choose (suc b) s t = t

-- a step for each cell that a mask marks, in order, with numbers from `at` on
unfoldable pub along : {S : Type 0} → (S → ℕ → ℕ → S) → ℕ → ℕ → List ℕ → S → S
along step m at [] s = s
along step m at (c ∷ cs) s = along step (m / 2) (at + m % 2) cs (choose (m % 2) s (step s c at))
