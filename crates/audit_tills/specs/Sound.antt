-- What a till's words say, slot by slot.
use Rattle.std.specs.Prelude.{ℕ, ◌+◌, ◌*◌, ◌-◌, ◌≤◌, ◌<◌, true, ◌≡◌, List, map, get_or, take, drop}
use Rattle.lists.specs.Lists.{every, rises, all_zero}
use Rattle.lists.specs.Rows.{rows, parts}
use Rattle.lists.specs.Each.{Each}
use Rattle.model.specs.State.{Storage}
use Rattle.model.specs.Table.{version_in, versions_in}
use Rattle.model.specs.Sound.{resolves, next_pointers, ends_zero}
use Rattle.model.specs.Measures.{parts_for, slot_words, till_words}
use Rattle.audit_words.specs.Words.{IsPointerWord, SlotForm}

-- the numbers of the first `n` slots, for images of up to `b` blocks
unfoldable pub numbers_in : ℕ → ℕ → List ℕ → List ℕ
numbers_in b n slots = map (λ (row : List ℕ). get_or row 0 0) (parts (slot_words b) n slots)

-- a slot's pointer words, for blocks of so many bytes
abbrev pub pointer_words : ℕ → List ℕ → List ℕ
pointer_words bytes row = take (parts_for bytes (get_or row 1 0)) (drop 3 row)

-- those of the first `n` slots, of a till's slots in use, and of the first `n` tills: of all words, these alone are counted
abbrev pub slots_pointers : ℕ → ℕ → ℕ → List ℕ → List ℕ
slots_pointers bytes b n slots = rows (pointer_words bytes) (parts (slot_words b) n slots)

abbrev pub till_pointers : ℕ → ℕ → List ℕ → List ℕ
till_pointers bytes b row = slots_pointers bytes b (get_or row 1 0) (drop 4 row)

abbrev pub tills_pointers : ℕ → ℕ → ℕ → ℕ → List ℕ → List ℕ
tills_pointers bytes v b n tills = rows (till_pointers bytes b) (parts (till_words v b) n tills)

-- the pointer words of the first of `count` slots, of which the others are newer: each says a pointer, which leads
pub record SlotPointersSound (bytes : ℕ) (storage : Storage) (b count : ℕ) (slots : List ℕ) : Type 0 where
  pub canonical : Each IsPointerWord (pointer_words bytes (take (3 + b) slots))
  pub resolves : every (resolves storage (next_pointers (versions_in bytes b (count - 1) (drop (3 + b) slots)))) (version_in bytes (take (3 + b) slots)).pointers ≡ true

-- the first of `count` slots, of which the others are newer: its words, its pointers lead, and its last block ends in zeros
pub record SlotSound (bytes : ℕ) (storage : Storage) (b count : ℕ) (slots : List ℕ) : Type 0 where
  pub form : SlotForm bytes b (take (3 + b) slots)
  pub resolves : every (resolves storage (next_pointers (versions_in bytes b (count - 1) (drop (3 + b) slots)))) (version_in bytes (take (3 + b) slots)).pointers ≡ true
  pub ends : ends_zero bytes storage (version_in bytes (take (3 + b) slots)) (versions_in bytes b (count - 1) (drop (3 + b) slots)) ≡ true

-- a till's words, for `v` versions of `b` blocks
pub record TillSound (bytes : ℕ) (storage : Storage) (v b : ℕ) (row : List ℕ) : Type 0 where
  pub few : get_or row 1 0 ≤ v
  pub most : get_or row 0 0 ≤ 65535
  pub rising : rises 0 (get_or row 0 0) (numbers_in b (get_or row 1 0) (drop 4 row)) ≡ true
  pub rights : get_or row 2 0 < 268435456
  pub zero : get_or row 3 0 ≡ 0
  pub slots : (i : ℕ) → i < get_or row 1 0 → SlotSound bytes storage b (get_or row 1 0 - i) (drop (i * (3 + b)) (drop 4 row))
  pub rest : all_zero (drop (4 + get_or row 1 0 * (3 + b)) row) ≡ true
