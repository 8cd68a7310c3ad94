-- The records' rows with their counters, one row after the other.
use Rattle.std.proofs.Common.{◌≡◌, ℕ, Bool, ◌+◌, ◌*◌, ◌≤◌, ◌<◌, List, get_or, take, drop, arith}
use Rattle.lists.specs.Decides.{Decides}
use Rattle.lists.proofs.Checkers.{same_as}
use Rattle.lists.proofs.Cuts.{part_word}
use Rattle.model.specs.Measures.{record_words}
use Rattle.audit_counts.specs.Counters.{CountExact}

-- of the first `k` rows
abbrev pub Upto : ℕ → ℕ → List ℕ → List ℕ → Type 0
Upto n k counts ws = (j : ℕ) → j < k → (i : ℕ) → i < n → CountExact n (take (record_words n) (drop (j * record_words n) ws)) i (get_or counts (j * 16 + i) 0)

-- what a row's test tells
pub row : {r : Bool} (n k : ℕ) (ws counts x y : List ℕ) → n ≤ 16 → take (record_words n) (drop (k * record_words n) ws) ≡ x → take 16 (drop (k * 16) counts) ≡ y
    → Decides r ((i : ℕ) → i < n → CountExact n x i (get_or y i 0))
    → Decides r ((i : ℕ) → i < n → CountExact n (take (record_words n) (drop (k * record_words n) ws)) i (get_or counts (k * 16 + i) 0))
row n k ws counts x y m e f t = same_as
    (λ g i h. rw (e, ← part_word 16 counts k i 0 (omega arith), f) (g i h))
    (λ g i h. rw (e, ← part_word 16 counts k i 0 (omega arith), f) at (g i h))
    t
