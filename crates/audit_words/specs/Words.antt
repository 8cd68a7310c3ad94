-- When words are in order, word by word, as the checks read them.
use Rattle.std.specs.Prelude.{ℕ, ◌+◌, ◌*◌, ◌/◌, ◌%◌, ◌^◌, ◌≤◌, ◌<◌, true, ◌≡◌, List, get_or, take, drop}
use Rattle.lists.specs.Lists.{all_zero}
use Rattle.lists.specs.Each.{Each}
use Rattle.model.specs.Measures.{parts_for}
use Rattle.model.specs.Table.{pointer_word, word_to_pointer}

-- the word is that of the pointer it is read as
abbrev pub IsPointerWord : ℕ → Type 0
IsPointerWord w = pointer_word (word_to_pointer w) ≡ w

-- a slot of 3 + `b` words, for blocks of so many bytes, in use: a length in range, and zeros behind its pointers; its day is any number
pub record SlotFrame (bytes b : ℕ) (row : List ℕ) : Type 0 where
  pub some : 1 ≤ get_or row 1 0
  pub most : get_or row 1 0 ≤ bytes * b
  pub rest : all_zero (drop (3 + parts_for bytes (get_or row 1 0)) row) ≡ true

-- and its pointers
pub record SlotForm (bytes b : ℕ) (row : List ℕ) : Type 0 where
  pub some : 1 ≤ get_or row 1 0
  pub most : get_or row 1 0 ≤ bytes * b
  pub pointers : Each IsPointerWord (take (parts_for bytes (get_or row 1 0)) (drop 3 row))
  pub rest : all_zero (drop (3 + parts_for bytes (get_or row 1 0)) row) ≡ true

-- bit `i` of a mask
abbrev pub bit_of : ℕ → ℕ → ℕ
bit_of m i = m / 2 ^ i % 2

-- position `i` of the words of a record of `n` positions: at most one of held, removed and blank; where it is not held, cell and count are zero
pub record PositionForm (n : ℕ) (row : List ℕ) (i : ℕ) : Type 0 where
  pub kept : bit_of (get_or row 0 0) i ≡ 1 → bit_of (get_or row 1 0) i ≡ 0
  pub stored : bit_of (get_or row 0 0) i ≡ 1 → bit_of (get_or row 2 0) i ≡ 0
  pub gone : bit_of (get_or row 1 0) i ≡ 1 → bit_of (get_or row 2 0) i ≡ 0
  pub cell : bit_of (get_or row 0 0) i ≡ 0 → get_or row (3 + i) 0 ≡ 0
  pub count : bit_of (get_or row 0 0) i ≡ 0 → get_or row (3 + n + i) 0 ≡ 0

-- a record's words; in use, the record holds a position
pub record RecordForm (n : ℕ) (row : List ℕ) : Type 0 where
  pub helds : get_or row 0 0 < 2 ^ n
  pub removeds : get_or row 1 0 < 2 ^ n
  pub blanks : get_or row 2 0 < 2 ^ n
  pub positions : (i : ℕ) → i < n → PositionForm n row i
  pub used : get_or row 0 0 ≡ 0 → (get_or row 1 0 ≡ 0) × (get_or row 2 0 ≡ 0)
