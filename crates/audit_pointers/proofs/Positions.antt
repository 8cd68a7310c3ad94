-- Positions of records' words, and pointers of pointer words.
use mathlib.Core.Path.{◌≡◌, refl, sym, ap, ap₂, ◌∙◌}
use mathlib.Core.Bool.{false, not}
use mathlib.Core.List.{List, [], map}
use Prim.Native.Nat.{ℕ, zero, suc, ◌+◌, ◌*◌, ◌/◌, ◌%◌, ◌≤◌, ◌<◌}
use native.Mathlib.Nat.{add-zero, mul-le-mul}
use native.Mathlib.Omega.{arith}
use borrow.Author.Tests.{lt-leb}
use lib.Dec.{leb}
use lib.ListN.{length, get_or, take, drop, length-drop, length-map, get_or-map, get_or-eq_default}
use lib.Seq.{length-take-le, drop-nil, take-nil}
use Rattle.lists.specs.Rows.{chunks}
use Rattle.lists.proofs.Cuts.{part_word, length_read, read_at}
use Rattle.lists.proofs.Places.{in_row, rows_short}
use Rattle.model.specs.Measures.{record_words}
use Rattle.model.specs.State.{null_pointer, Position, null_position, Segment}
use Rattle.model.specs.Table.{kind_unit, word_to_pointer, pointer_of, position_of, positions_in, segment_in, records_in}
use Rattle.model.specs.Sound.{is_null}
use Rattle.audit_words.specs.Words.{bit_of}
use Rattle.audit_words.proofs.Pointers.{read_null}
use Rattle.audit_words.proofs.Positions.{segment_at_lem, segment_past}

-- ---- positions

-- the end of a record's words is a number of the machine
pub row_fits : (k n : ℕ) → k < 4294967296 → n ≤ 16 → k * record_words n ≤ 150323855325
row_fits k n h l = let a : k ≤ 4294967295 = omega arith in let w : record_words n ≤ 35 = omega arith in mul-le-mul a w

module _ (n : ℕ) where
  no_words : segment_in n [] ≡ []
  unfolding segment_in
  no_words = rw (drop-nil {A = ℕ} 3, take-nil {A = ℕ} n) (unfold positions_in in refl)

  module _ (ws : List ℕ) (k i : ℕ) where
    abbrev row : List ℕ
    row = take (record_words n) (drop (k * record_words n) ws)

    abbrev position : Position
    position = get_or (get_or (records_in n ws) k []) i null_position

    row_long : k * record_words n + record_words n ≤ length ws → length row ≡ record_words n
    row_long h = length-take-le (record_words n) (drop (k * record_words n) ws) (omega (arith, length-drop (k * record_words n) ws))

    record_is : k * record_words n + record_words n ≤ length ws → get_or (records_in n ws) k [] ≡ segment_in n row
    unfolding records_in
    record_is h =
        ap (get_or (map (segment_in n) (chunks (record_words n) ws)) k) (sym no_words)
        ∙ read_at (segment_in n) (record_words n) ws k (in_row (length ws) (record_words n) (omega arith) k h)

    pub position_in : k * record_words n + record_words n ≤ length ws → i < n
        → position
        ≡ position_of (bit_of (get_or ws (k * record_words n) 0) i) (bit_of (get_or ws (k * record_words n + 1) 0) i) (bit_of (get_or ws (k * record_words n + 2) 0) i) (get_or ws (k * record_words n + (3 + i)) 0) (get_or ws (k * record_words n + (3 + n + i)) 0)
    position_in h g =
        ap (λ (seg : Segment). get_or seg i null_position) (record_is h) ∙ segment_at_lem n row (row_long h) i g
        ∙ ap₂ (λ (x y : ℕ). position_of (bit_of x i) (bit_of y i) (bit_of (get_or row 2 0) i) (get_or row (3 + i) 0) (get_or row (3 + n + i) 0)) (word 0 (omega arith) ∙ ap (λ (j : ℕ). get_or ws j 0) (add-zero (k * record_words n))) (word 1 (omega arith))
        ∙ ap (λ (x : ℕ). position_of (bit_of (get_or ws (k * record_words n) 0) i) (bit_of (get_or ws (k * record_words n + 1) 0) i) (bit_of x i) (get_or row (3 + i) 0) (get_or row (3 + n + i) 0)) (word 2 (omega arith))
        ∙ ap₂ (position_of (bit_of (get_or ws (k * record_words n) 0) i) (bit_of (get_or ws (k * record_words n + 1) 0) i) (bit_of (get_or ws (k * record_words n + 2) 0) i)) (word (3 + i) (omega (arith, g))) (word (3 + n + i) (omega (arith, g)))
      where
        word : (j : ℕ) → j < record_words n → get_or row j 0 ≡ get_or ws (k * record_words n + j) 0
        word j h = part_word (record_words n) ws k j 0 h

    pub position_past : length ws < k * record_words n + record_words n → position ≡ null_position
    unfolding records_in
    position_past h =
        ap (λ (seg : Segment). get_or seg i null_position)
        (get_or-eq_default (map (segment_in n) (chunks (record_words n) ws)) [] {n = k}
        (omega (arith, length_read (segment_in n) (record_words n) ws, rows_short (length ws) (record_words n) (omega arith) k h)))

    pub position_beside : k * record_words n + record_words n ≤ length ws → n ≤ i → position ≡ null_position
    position_beside h g = ap (λ (seg : Segment). get_or seg i null_position) (record_is h) ∙ segment_past n row (row_long h) i g

-- ---- pointers

pub pointer_in : (ws : List ℕ) (b : ℕ) → get_or (map word_to_pointer ws) b null_pointer ≡ word_to_pointer (get_or ws b 0)
unfolding word_to_pointer pointer_of
pointer_in ws b = get_or-map word_to_pointer ws b 0

pub pointer_past : (ws : List ℕ) (b : ℕ) → length ws ≤ b → get_or (map word_to_pointer ws) b null_pointer ≡ null_pointer
pointer_past ws b h = get_or-eq_default (map word_to_pointer ws) null_pointer {n = b} (omega (arith, length-map ws word_to_pointer))

-- null: of kind 0, or of none
pub null_kind : (w : ℕ) → w / kind_unit ≡ 0 → not (is_null (word_to_pointer w)) ≡ false
null_kind w e = rw (read_null w e)

pub some_kind : (w : ℕ) → (w / kind_unit ≡ 0 → ⊥) → not (is_null (word_to_pointer w)) ≡ leb (w / kind_unit) 3
unfolding word_to_pointer pointer_of
some_kind w h = go (w / kind_unit) (w % kind_unit) h
  where
    go : (k n : ℕ) → (k ≡ 0 → ⊥) → not (is_null (pointer_of k n)) ≡ leb k 3
    go zero n h = absurd (h refl)
    go (suc zero) n h = refl
    go (suc (suc zero)) n h = refl
    go (suc (suc (suc zero))) n h = refl
    go (suc (suc (suc (suc k)))) n h = sym (lt-leb (suc (suc (suc (suc k)))) 3 (omega arith))
