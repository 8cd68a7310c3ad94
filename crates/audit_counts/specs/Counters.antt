-- Counting direct pointers.
use Rattle.std.specs.Prelude.{cond, ◌≡◌, List, [], ◌∷◌, ℕ, ◌+◌, ◌*◌, ◌/◌, ◌%◌, ◌≤◌, ◌<◌, eqb, length, get_or, set, take, drop}
use Rattle.lists.specs.Lists.{count}
use Rattle.model.specs.Measures.{record_words}
use Rattle.model.specs.Table.{kind_unit}
use Rattle.audit_words.specs.Words.{bit_of}

-- the counters after one more word: a direct pointer (kind 1) adds 1 to the counter of its position, if there is one
unfoldable pub bumped : ℕ → List ℕ → List ℕ
bumped w cs = cond (eqb (w / kind_unit) 1) (set cs (w % kind_unit) (get_or cs (w % kind_unit) 0 + 1)) cs

unfoldable pub counts_after : List ℕ → List ℕ → List ℕ
counts_after [] cs = cs
counts_after (w ∷ ws) cs = counts_after ws (bumped w cs)

-- how many words are direct pointers to the position `p`, 16 * record + place
unfoldable pub count_to : ℕ → List ℕ → ℕ
count_to p ws = count (λ w. eqb w (kind_unit + p)) ws

-- the count word of position `i` in the words of a record of `n` positions, if it is held, is `c` and at least 1
abbrev pub CountExact : ℕ → List ℕ → ℕ → ℕ → Type 0
CountExact n row i c = bit_of (get_or row 0 0) i ≡ 1 → (1 ≤ get_or row (3 + n + i) 0) × (get_or row (3 + n + i) 0 ≡ c)

-- of all records, by the count of each position
abbrev pub RecordCounts : ℕ → (ℕ → ℕ) → List ℕ → Type 0
RecordCounts n counts ws =
    (k : ℕ) → k < length ws / record_words n → (i : ℕ) → i < n → CountExact n (take (record_words n) (drop (k * record_words n) ws)) i (counts (k * 16 + i))

-- the counts in the records' words are the numbers of direct pointers among the pointer words
abbrev pub CountsExact : ℕ → List ℕ → List ℕ → Type 0
CountsExact n pointers ws = RecordCounts n (λ p. count_to p pointers) ws
