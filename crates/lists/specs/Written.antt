-- A list that others are written over.
use Rattle.std.specs.Prelude.{ℕ, ◌+◌, List, ◌++◌, length, take, drop}

-- the list with words written from a place on
unfoldable pub written : List ℕ → ℕ → List ℕ → List ℕ
written t at ws = take at t ++ (ws ++ drop (at + length ws) t)
