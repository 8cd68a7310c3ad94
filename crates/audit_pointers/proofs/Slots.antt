-- Versions of slots, and tracing through them.
use mathlib.Core.Path.{◌≡◌, refl, sym, ap, ap₂, ◌∙◌}
use mathlib.Core.Bool.{Bool, true, false}
use mathlib.Core.List.{List, [], ◌∷◌, map}
use Prim.Native.Nat.{ℕ, zero, suc, ◌+◌, ◌-◌, ◌*◌, ◌/◌, ◌%◌, ◌≤◌, ◌<◌, min}
use native.Mathlib.Nat.{zero-mul, suc-mul, lt_of_mul-lt-mul_right}
use native.Mathlib.Numerals.{add-one}
use native.Mathlib.Omega.{arith}
use borrow.Author.Tests.{eqb-true, eqb-false}
use lib.Arith.{digits_lt}
use lib.Dec.{eqb}
use lib.ListN.{length, get_or, take, drop, length-take, length-drop, length-map, get_or-eq_default}
use lib.Seq.{drop-drop, get_or-take, get_or-drop}
use Rattle.lists.specs.Rows.{parts}
use Rattle.model.specs.Measures.{parts_for}
use Rattle.model.specs.State.{Pointer, null_pointer}
use Rattle.model.specs.Table.{kind_unit, word_to_pointer, pointer_of, version_in, versions_in}
use Rattle.model.specs.Trace.{end_via, end_of}
use Rattle.lists.proofs.Answers.{take_length}
use Rattle.laws.proofs.Measures.{parts_enough, parts_least}
use Rattle.audit_words.proofs.Pointers.{read_null, read_direct, read_indirect, read_blank, read_other}
use Rattle.audit_pointers.proofs.Positions.{pointer_in}

-- ---- a slot's pointers

module _ (bytes : ℕ) (row : List ℕ) where
  pub pointers_of_lem : (version_in bytes row).pointers ≡ map word_to_pointer (take (parts_for bytes (get_or row 1 0)) (drop 3 row))
  unfolding version_in
  pointers_of_lem = refl

  -- as many as there are
  pub words_are : (n : ℕ) → n ≡ length (version_in bytes row).pointers → take n (drop 3 row) ≡ take (parts_for bytes (get_or row 1 0)) (drop 3 row)
  unfolding version_in
  words_are n e =
      ap (λ (m : ℕ). take m (drop 3 row)) (e ∙ length-map (take (parts_for bytes (get_or row 1 0)) (drop 3 row)) word_to_pointer) ∙ take_length (parts_for bytes (get_or row 1 0)) (drop 3 row)

  pub pointers_count : (b : ℕ) → length row ≡ 3 + b → length (version_in bytes row).pointers ≡ min (parts_for bytes (get_or row 1 0)) b
  unfolding version_in
  pointers_count b l =
      length-map (take (parts_for bytes (get_or row 1 0)) (drop 3 row)) word_to_pointer ∙ length-take (parts_for bytes (get_or row 1 0)) (drop 3 row)
      ∙ ap (min (parts_for bytes (get_or row 1 0))) (let e : length (drop 3 row) ≡ b = omega (arith, length-drop 3 row, l) in e)

-- the word of pointer b; past the last, null
module _ (bytes : ℕ) (some : 0 < bytes) (bl : ℕ) (row : List ℕ) (l : length row ≡ 3 + bl) (b : ℕ) where
  abbrev pointer : Pointer
  pointer = get_or (version_in bytes row).pointers b null_pointer

  none : min (parts_for bytes (get_or row 1 0)) bl ≤ b → word_to_pointer 0 ≡ pointer
  none h = read_null 0 refl ∙ sym (get_or-eq_default (version_in bytes row).pointers null_pointer {n = b} (omega (arith, pointers_count bytes row bl l)))

  pub word_beside : bl ≤ b → word_to_pointer 0 ≡ pointer
  word_beside h = none (omega arith)

  pub word_past : get_or row 1 0 ≤ b * bytes → word_to_pointer 0 ≡ pointer
  word_past h = none (omega (arith, parts_least bytes (get_or row 1 0) b some h))

  pub word_in : b * bytes < get_or row 1 0 → b < bl → word_to_pointer (get_or row (3 + b) 0) ≡ pointer
  word_in h g =
      let e : b * bytes < parts_for bytes (get_or row 1 0) * bytes = omega (arith, parts_enough bytes (get_or row 1 0) some) in
      let m : b < parts_for bytes (get_or row 1 0) = lt_of_mul-lt-mul_right bytes e in
      sym (ap (λ ps. get_or ps b null_pointer) (pointers_of_lem bytes row) ∙ pointer_in (take (parts_for bytes (get_or row 1 0)) (drop 3 row)) b
      ∙ ap word_to_pointer (get_or-take (parts_for bytes (get_or row 1 0)) (drop 3 row) b 0 m ∙ get_or-drop 3 row b 0))

-- ---- slots

-- slot i of n lies within the words
pub slot_inside : (i n b l : ℕ) → i < n → n * (3 + b) ≤ l → i * (3 + b) + (3 + b) ≤ l
slot_inside i n b l h g = omega (arith, digits_lt {r = 2 + b} {c = 3 + b} h (omega arith))

-- what follows slot i
pub slots_next : (b : ℕ) (ws : List ℕ) (i : ℕ) → drop (3 + b) (drop (i * (3 + b)) ws) ≡ drop ((i + 1) * (3 + b)) ws
slots_next b ws i =
    drop-drop (3 + b) (i * (3 + b)) ws
    ∙ ap (λ (m : ℕ). drop m ws) (let e : i * (3 + b) + (3 + b) ≡ (i + 1) * (3 + b) = rw (add-one i) (omega (arith, suc-mul i (3 + b))) in e)

-- the versions from slot i on: the one there, and the newer ones
pub versions_cons : (bytes b n : ℕ) (ws : List ℕ) → 0 < n → versions_in bytes b n ws ≡ version_in bytes (take (3 + b) ws) ∷ versions_in bytes b (n - 1) (drop (3 + b) ws)
unfolding versions_in parts
versions_cons bytes b zero ws h = absurd (omega arith)
versions_cons bytes b (suc n) ws h = let e : suc n - 1 ≡ n = omega arith in rw e

pub versions_next : (bytes b n i : ℕ) (ws : List ℕ) → i < n
    → versions_in bytes b (n - i) (drop (i * (3 + b)) ws) ≡ version_in bytes (take (3 + b) (drop (i * (3 + b)) ws)) ∷ versions_in bytes b (n - (i + 1)) (drop ((i + 1) * (3 + b)) ws)
versions_next bytes b n i ws h =
    versions_cons bytes b (n - i) (drop (i * (3 + b)) ws) (omega arith)
    ∙ ap₂ (λ (m : ℕ) (l : List ℕ). version_in bytes (take (3 + b) (drop (i * (3 + b)) ws)) ∷ versions_in bytes b m l) (let e : n - i - 1 ≡ n - (i + 1) = omega arith in e) (slots_next b ws i)

pub versions_end : (bytes b n i : ℕ) (ws : List ℕ) → n ≤ i → versions_in bytes b (n - i) ws ≡ []
unfolding versions_in parts
versions_end bytes b n i ws h = let e : n - i ≡ 0 = omega arith in rw e

-- ---- tracing

via_stop : (w : ℕ) (next : ℕ → Pointer) → (w / kind_unit ≡ 2 → ⊥) → end_via (word_to_pointer w) next ≡ word_to_pointer w
unfolding end_via
via_stop w next n = go (eqb (w / kind_unit) 1) (eqb (w / kind_unit) 3) refl refl
  where
    go : (a b : Bool) → eqb (w / kind_unit) 1 ≡ a → eqb (w / kind_unit) 3 ≡ b → end_via (word_to_pointer w) next ≡ word_to_pointer w
    go true b e f = rw (read_direct w (eqb-true _ _ e))
    go false true e f = rw (read_blank w (eqb-true _ _ f))
    go false false e f = rw (read_other w (eqb-false _ _ e) n (eqb-false _ _ f))

module _ (bytes bl n : ℕ) (ws : List ℕ) (i b w : ℕ) (h : i < n)
    (e : word_to_pointer w ≡ get_or (version_in bytes (take (3 + bl) (drop (i * (3 + bl)) ws))).pointers b null_pointer) where
  first : end_of (versions_in bytes bl (n - i) (drop (i * (3 + bl)) ws)) b ≡ end_via (word_to_pointer w) (λ k. end_of (versions_in bytes bl (n - (i + 1)) (drop ((i + 1) * (3 + bl)) ws)) k)
  unfolding end_of
  first = rw (versions_next bytes bl n i ws h, e)

  pub end_stop : (w / kind_unit ≡ 2 → ⊥) → word_to_pointer w ≡ end_of (versions_in bytes bl (n - i) (drop (i * (3 + bl)) ws)) b
  end_stop g = sym (first ∙ via_stop w _ g)

  pub end_go : w / kind_unit ≡ 2 → end_of (versions_in bytes bl (n - i) (drop (i * (3 + bl)) ws)) b ≡ end_of (versions_in bytes bl (n - (i + 1)) (drop ((i + 1) * (3 + bl)) ws)) (w % kind_unit)
  unfolding end_via
  end_go g = first ∙ rw (read_indirect w g)

pub end_none : (bytes bl n i : ℕ) (ws : List ℕ) (b : ℕ) → n ≤ i → end_of (versions_in bytes bl (n - i) ws) b ≡ word_to_pointer 0
unfolding end_of word_to_pointer pointer_of
end_none bytes bl n i ws b h = rw (versions_end bytes bl n i ws h)

pub end_start : (bytes bl n : ℕ) (ws : List ℕ) (b : ℕ) → end_of (versions_in bytes bl (n - 0) (drop (0 * (3 + bl)) ws)) b ≡ end_of (versions_in bytes bl n ws) b
end_start bytes bl n ws b = let e : n - 0 ≡ n = omega arith in rw (e, zero-mul (3 + bl))
