-- A slot's words are in order if and only if they are those of the version that they are read as, and its length is in range.
use mathlib.Core.Path.{◌≡◌, sym, ap, ◌∙◌}
use mathlib.Core.Bool.{true}
use mathlib.Core.List.{List, ◌∷◌, map}
use Prim.Native.Nat.{ℕ, ◌+◌, ◌*◌, ◌≤◌, ◌<◌}
use native.Mathlib.Nat.{mul_comm}
use native.Mathlib.Omega.{arith}
use borrow.Author.Tests.{eq-eqb, leb-true, le-leb}
use lib.ListN.{length, get_or, take, drop, length-drop, length-map}
use lib.Seq.{drop-drop, length-take-le}
use Rattle.lists.specs.Lists.{all_zero}
use Rattle.lists.specs.Rows.{fill}
use Rattle.lists.proofs.Tests.{clause, all_true}
use Rattle.lists.proofs.Cuts.{map_back}
use Rattle.model.specs.Measures.{is_within, parts_for}
use Rattle.model.specs.Table.{pointer_word, word_to_pointer, version_in, version_to_words}
use Rattle.model.specs.Sound.{has_length}
use Rattle.laws.proofs.Measures.{parts_least}
use Rattle.audit_words.specs.Words.{SlotForm}
use Rattle.audit_tills.proofs.Slots.{three}
use Rattle.lists.proofs.Filled.{fill_back, back_fill, fill_front, map_fixed}

module _ (bytes : ℕ) (some : 0 < bytes) (b : ℕ) (row : List ℕ) (l : length row ≡ 3 + b) where
  abbrev blocks : ℕ
  blocks = parts_for bytes (get_or row 1 0)

  abbrev words : List ℕ
  words = take (parts_for bytes (get_or row 1 0)) (drop 3 row)

  apart : row ≡ get_or row 0 0 ∷ get_or row 1 0 ∷ get_or row 2 0 ∷ drop 3 row
  apart = three row (omega (arith, l))

  rest_long : length (drop 3 row) ≡ b
  rest_long = omega (arith, length-drop 3 row, l)

  blocks_fit : get_or row 1 0 ≤ bytes * b → blocks ≤ b
  blocks_fit h = parts_least bytes (get_or row 1 0) b some (omega (arith, mul_comm bytes b))

  words_long : get_or row 1 0 ≤ bytes * b → length words ≡ blocks
  words_long h = length-take-le blocks (drop 3 row) (omega (arith, rest_long, blocks_fit h))

  pub form_same : SlotForm bytes b row → version_to_words b (version_in bytes row) ≡ row
  unfolding version_to_words version_in
  form_same f =
      ap (λ (r : List ℕ). get_or row 0 0 ∷ get_or row 1 0 ∷ get_or row 2 0 ∷ fill b r) (map_back word_to_pointer pointer_word words f.pointers)
      ∙ ap (λ (r : List ℕ). get_or row 0 0 ∷ get_or row 1 0 ∷ get_or row 2 0 ∷ r) (fill_back b blocks (drop 3 row) rest_long (ap all_zero (drop-drop blocks 3 row) ∙ f.rest))
      ∙ sym apart

  pub form_length : SlotForm bytes b row → has_length bytes b (version_in bytes row) ≡ true
  unfolding has_length is_within version_in
  form_length f =
      all_true _ (
        all_true _ (le-leb _ _ f.some, (le-leb _ _ f.most, tt)),
        (eq-eqb _ _ (length-map words word_to_pointer ∙ words_long f.most), tt),
      )

  pub length_at : has_length bytes b (version_in bytes row) ≡ true → (1 ≤ get_or row 1 0) × (get_or row 1 0 ≤ bytes * b)
  unfolding has_length is_within version_in
  length_at h = (leb-true _ _ (clause _ 0 (clause _ 0 h)), leb-true _ _ (clause _ 1 (clause _ 0 h)))

  module _ (e : version_to_words b (version_in bytes row) ≡ row) (high : get_or row 1 0 ≤ bytes * b) where
    filled : fill b (map pointer_word (map word_to_pointer words)) ≡ drop 3 row
    unfolding version_to_words version_in
    filled = ap (drop 3) e

    canonical : map pointer_word (map word_to_pointer words) ≡ words
    canonical =
        let n : length (map pointer_word (map word_to_pointer words)) ≡ blocks = length-map (map word_to_pointer words) pointer_word ∙ length-map words word_to_pointer ∙ words_long high in
        sym (fill_front b (map pointer_word (map word_to_pointer words)) (drop 3 row) (omega (arith, n, blocks_fit high)) filled) ∙ ap (λ (m : ℕ). take m (drop 3 row)) n

    pub same_form : 1 ≤ get_or row 1 0 → SlotForm bytes b row
    same_form low = record {
      some = low;
      most = high;
      pointers = map_fixed pointer_word word_to_pointer words canonical;
      rest = ap all_zero (sym (drop-drop blocks 3 row)) ∙ back_fill b blocks (drop 3 row) (ap (fill b) (sym canonical) ∙ filled);
    }
