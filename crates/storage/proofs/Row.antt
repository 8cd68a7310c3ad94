-- Laws for reading a record's words.
use mathlib.Core.Path.{◌∙◌, ◌≡◌, refl}
use mathlib.Core.List.{List, map}
use Prim.Native.Nat.{◌+◌, ◌<◌, suc, ℕ}
use native.Mathlib.Omega.{arith}
use lib.ListN.{get_or-append, get_or-map, drop, get_or, length, length-map, take}
use lib.Seq.{drop_at, drop-drop, get_or-append-add, take_all}
use Rattle.lists.specs.Masks.{mask_of}
use Rattle.model.specs.Records.{cell_of, count_of, is_blank_position, is_held, is_removed}
use Rattle.model.specs.State.{Segment, null_position}
use Rattle.model.specs.Table.{record_to_words}

module _ (seg : Segment) where
  pub held_word : get_or (record_to_words seg) 0 0 ≡ mask_of is_held seg
  unfolding record_to_words
  held_word = refl

  pub removed_word : get_or (record_to_words seg) 1 0 ≡ mask_of is_removed seg
  unfolding record_to_words
  removed_word = refl

  pub blank_word : get_or (record_to_words seg) 2 0 ≡ mask_of is_blank_position seg
  unfolding record_to_words
  blank_word = refl

  pub cell_word : (i : ℕ) → i < length seg → get_or (record_to_words seg) (3 + i) 0 ≡ cell_of (get_or seg i null_position)
  unfolding record_to_words
  cell_word i h =
      let q : 3 + i ≡ suc (suc (suc i)) = omega arith in
      rw q (get_or-append (map cell_of seg) (map count_of seg) 0 i (omega (arith, length-map seg cell_of)) ∙ get_or-map cell_of seg i null_position)

  module _ (n : ℕ) (e : length seg ≡ n) where
    pub count_word : (i : ℕ) → get_or (record_to_words seg) (3 + n + i) 0 ≡ count_of (get_or seg i null_position)
    unfolding record_to_words
    count_word i =
        let q : 3 + n + i ≡ suc (suc (suc (length (map cell_of seg) + i))) = omega (arith, length-map seg cell_of) in
        rw q (get_or-append-add (map cell_of seg) (map count_of seg) i 0 ∙ get_or-map count_of seg i null_position)

    pub count_words : take n (drop (3 + n) (record_to_words seg)) ≡ map count_of seg
    unfolding record_to_words
    count_words =
        rw (← drop-drop n 3 (record_to_words seg), drop_at (map cell_of seg) (map count_of seg) n (length-map seg cell_of ∙ e))
        (take_all n (map count_of seg) (omega (arith, length-map seg count_of)))

-- cell words that name cells
pub cells_below : (n l : ℕ) (seg : Segment) → length seg ≡ n → ((i : ℕ) → cell_of (get_or seg i null_position) < l)
    → (row : List ℕ) → row ≡ record_to_words seg → (i : ℕ) → i < n → get_or row (3 + i) 0 < l
cells_below n l seg e f row s i h = rw (s, cell_word seg i (omega arith)) (f i)

-- count words below a bound
pub counts_below : (n l : ℕ) (seg : Segment) → length seg ≡ n → ((i : ℕ) → count_of (get_or seg i null_position) < l)
    → (row : List ℕ) → row ≡ record_to_words seg → (i : ℕ) → i < n → get_or row (3 + n + i) 0 < l
counts_below n l seg e f row s i h = rw (s, count_word seg n e i) (f i)
