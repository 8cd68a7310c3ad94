-- Laws of turning: the target of a pointer's word, and the words that turn.
use mathlib.Core.Path.{◌∙◌, ◌≡◌, ap, ap₂, refl, subst, sym}
use mathlib.Core.Bool.{Bool, cond, false, true}
use mathlib.Core.List.{List, [], ◌++◌, ◌∷◌, append_assoc, append-nil, map}
use mathlib.Core.Option.{Option, none, some}
use Prim.Native.Nat.{◌%◌, ◌*◌, ◌+◌, ◌-◌, ◌/◌, ◌<◌, ◌≤◌, suc, zero, ℕ}
use native.Mathlib.Nat.{mul-le-mul_left, mul-le-mul_right, suc-mul, zero-mul}
use native.Mathlib.Numerals.{add-one}
use native.Mathlib.Omega.{arith}
use lib.ListN.{drop, get_or, length, set, take}
use lib.Seq.{take-suc-set}
use lib.Dec.{eqb}
use borrow.Author.Tests.{eq-eqb, ne_eqb}
use Rattle.lists.specs.Lists.{count, every, first_from, keep, same_numbers, is_some}
use Rattle.lists.specs.Rows.{fill}
use Rattle.lists.proofs.Puts.{same_over}
use Rattle.lists.proofs.Places.{row_next}
use Rattle.lists.proofs.Same.{same_eq}
use Rattle.lists.proofs.Slices.{drop_next}
use Rattle.lists.proofs.Tests.{by_test}
use Rattle.model.specs.Image.{block_from, blocks_from, image_blocks, is_blank, with_blanks}
use Rattle.model.specs.Measures.{Measures, parts_for, record_words}
use Rattle.model.specs.Records.{cell_at, cell_of, position_at}
use Rattle.model.specs.State.{Block, Pointer, Storage, indirect, blank_pointer, null_position}
use Rattle.model.specs.Table.{cells_in, pointer_of, pointer_word, records_in, storage_in, word_to_pointer}
use Rattle.model.specs.Turn.{found_or, indirect_at, target, turn, turns_to, turning}
use Rattle.laws.proofs.Image.{blocks_next}
use Rattle.laws.proofs.Measures.{parts_few}
use Rattle.storage.specs.Fits.{WithinRecords}
use Rattle.storage.specs.Stored.{Stored}
use Rattle.storage.proofs.Inside.{cell_bytes, cell_inside, cell_room}
use Rattle.turn.specs.Turn.{WordFits, word_if, released_of, target_of, target_word}

-- ---- the first equal block

-- block n of an image begins in it
pub begins_in : (bytes n len : ℕ) → 0 < bytes → n < parts_for bytes len → n * bytes < len
begins_in bytes n len pos h =
    let a : suc n * bytes ≤ parts_for bytes len * bytes = mul-le-mul_right bytes h in
    omega (arith, a, suc-mul n bytes, parts_few bytes len pos)

-- a block's number is at most its first byte's
pub next_at : (bytes n : ℕ) → 0 < bytes → n ≤ n * bytes
next_at bytes n h = let a : n * 1 ≤ n * bytes = mul-le-mul_left n h in omega (arith, a)

-- and its number fits
pub begins_few : (bytes k n len : ℕ) → 64 ≤ bytes → len ≤ 65536 → n ≡ parts_for bytes len → k < n → (k * bytes < len) × (k < 65536)
begins_few bytes k n len least few e h =
    let inside : k * bytes < len = begins_in bytes k len (omega arith) (omega (arith, e)) in
    (inside, omega (arith, inside, next_at bytes k (omega arith)))

-- a block that begins within the image has the image's byte there first
first_of : (bytes : ℕ) (image : List ℕ) (at : ℕ) → 0 < bytes → at < length image → get_or (block_from bytes image at) 0 0 ≡ get_or image at 0
unfolding block_from
first_of zero image at z h = absurd (omega arith)
first_of (suc b) image at z h = rw (drop_next image at 0 h) (unfold fill in refl)

first_apart : (bytes : ℕ) (image cell : List ℕ) (at : ℕ) → 0 < bytes → at < length image → (get_or image at 0 ≡ get_or cell 0 0 → ⊥) → false ≡ same_numbers cell (block_from bytes image at)
first_apart bytes image cell at z h d = go (same_numbers cell (block_from bytes image at)) refl
  where
    go : (t : Bool) → same_numbers cell (block_from bytes image at) ≡ t → false ≡ t
    go true e = absurd (d (sym (ap (λ (l : List ℕ). get_or l 0 0) (same_eq cell (block_from bytes image at) e) ∙ first_of bytes image at z h)))
    go false e = refl

module _ (bytes : ℕ) (f : Block → Bool) (image : List ℕ) (count : ℕ) where
  -- the search from block n on
  abbrev from : ℕ → Option ℕ
  from n = first_from f n (blocks_from bytes image (n * bytes) (count - n))

  find_step : (n : ℕ) → n < count → from n ≡ cond (f (block_from bytes image (n * bytes))) (some n) (from (n + 1))
  unfolding first_from
  find_step n h = rw (blocks_next bytes image (n * bytes) count n h, row_next n bytes, add-one n)

  pub find_yes : (w n : ℕ) → n < count → true ≡ f (block_from bytes image (n * bytes)) → pointer_word (indirect n) ≡ target_word w (indirect_at (from n))
  unfolding target_word
  find_yes w n h e =
      let found : from n ≡ some n = find_step n h ∙ rw (← e) in
      sym (ap (λ (o : Option ℕ). target_word w (indirect_at o)) found)

  pub find_no : (n : ℕ) → n < count → false ≡ f (block_from bytes image (n * bytes)) → from n ≡ from (n + 1)
  find_no n h e = find_step n h ∙ rw (← e)

  pub find_end : (w n : ℕ) → count ≤ n → w ≡ target_word w (indirect_at (from n))
  unfolding first_from blocks_from target_word
  find_end w n h = let z : count - n ≡ 0 = omega arith in rw z

  pub find_start : count ≡ parts_for bytes (length image) → from 0 ≡ first_from f 0 (image_blocks bytes image)
  unfolding image_blocks
  find_start e = let z : count - 0 ≡ count = omega arith in rw (zero-mul bytes, z, e)

-- past blocks that begin with another byte than the cell
pub find_next : (bytes : ℕ) (image cell : List ℕ) (count n r : ℕ) → 0 < bytes → count ≡ parts_for bytes (length image) → n ≤ r → r ≤ count → ((k : ℕ) → n ≤ k → k < r → get_or image (k * bytes) 0 ≡ get_or cell 0 0 → ⊥)
    → first_from (same_numbers cell) n (blocks_from bytes image (n * bytes) (count - n)) ≡ first_from (same_numbers cell) r (blocks_from bytes image (r * bytes) (count - r))
find_next bytes image cell count n r z e l h g =
    same_over (λ k. first_from (same_numbers cell) k (blocks_from bytes image (k * bytes) (count - k))) n r l
    (λ k i m. find_no bytes (same_numbers cell) image count k (omega arith) (first_apart bytes image cell (k * bytes) z (begins_in bytes k (length image) z (omega (arith, e))) (g k i m)))

-- ---- the target of a word

kind_none : (w kind n : ℕ) (storage : Storage) (image : List Block) → (kind ≡ 1 → ⊥) → target with_blanks storage image (pointer_of kind n) ≡ none
unfolding target pointer_of
kind_none w zero n storage image h = refl
kind_none w (suc zero) n storage image h = absurd (h refl)
kind_none w (suc (suc zero)) n storage image h = refl
kind_none w (suc (suc (suc zero))) n storage image h = refl
kind_none w (suc (suc (suc (suc k)))) n storage image h = refl

pub target_none : (m : Measures) (image pool ws : List ℕ) (w : ℕ) → (w / 16777216 ≡ 1 → ⊥) → w ≡ target_of m image pool ws w
unfolding target_of target_word word_to_pointer
target_none m image pool ws w h = rw (kind_none w (w / 16777216) (w % 16777216) (storage_in m pool ws) (image_blocks m.block_bytes image) h)

-- a word of kind 1 and its cell
module _ (m : Measures) (image pool ws : List ℕ) (st : Stored m pool ws) (w : ℕ) (one : w / 16777216 ≡ 1) where
  abbrev k : ℕ
  k = w % 16777216 / 16

  abbrev i : ℕ
  i = w % 16777216 % 16

  pub there : WithinRecords m.segment_blocks (length ws) (word_to_pointer w) → (k * record_words m.segment_blocks + record_words m.segment_blocks ≤ length ws) × (i < m.segment_blocks)
  unfolding word_to_pointer pointer_of WithinRecords
  there f = rw one at f

  module _ (c : ℕ) (ec : c ≡ cell_of (get_or (get_or (records_in m.segment_blocks ws) k []) i null_position)) where
    inside : c < length (cells_in m.block_bytes pool)
    unfolding storage_in
    inside = subst (λ (x : ℕ). x < length (cells_in m.block_bytes pool)) (sym ec) (cell_inside st k i)

    pub cell_fits : c * m.block_bytes + m.block_bytes ≤ length pool
    unfolding storage_in
    cell_fits = cell_room st c inside

    -- with the cell's first byte as the code has it
    pub target_is : (start r : ℕ) → start ≡ c * m.block_bytes
        → r ≡ target_word w (turns_to with_blanks (image_blocks m.block_bytes image) (take (start + m.block_bytes - start) (drop start pool))) → r ≡ target_of m image pool ws w
    unfolding target_of word_to_pointer pointer_of target position_at cell_at storage_in
    target_is start r es e =
        let z : start + m.block_bytes - start ≡ m.block_bytes = omega arith in
        e ∙ rw (one, ← ec, z, es, cell_bytes m.block_bytes pool c (omega (arith, st.measured.some_bytes)) cell_fits)

-- ---- what a cell turns into

pub blank_turns : (w : ℕ) (image : List Block) (cell : Block) → true ≡ every (λ x. eqb x 255) cell → pointer_word blank_pointer ≡ target_word w (turns_to with_blanks image cell)
unfolding target_word turns_to is_blank
blank_turns w image cell e = rw (← e)

pub other_turns : (w : ℕ) (image : List Block) (cell : Block) → false ≡ every (λ x. eqb x 255) cell
    → target_word w (indirect_at (first_from (same_numbers cell) 0 image)) ≡ target_word w (turns_to with_blanks image cell)
unfolding turns_to is_blank
other_turns w image cell e = rw (← e)

-- ---- words and pointers

-- a pointer that has another word
abbrev Apart : ℕ → Option Pointer → Type 0
Apart w none = Unit {0}
Apart w (some q) = pointer_word q ≡ w → ⊥

word_turns : (w : ℕ) (p : Pointer) (o : Option Pointer) → pointer_word p ≡ w → target_word w o ≡ pointer_word (found_or p o)
unfolding target_word
word_turns w p none e = sym e
word_turns w p (some q) e = refl

word_kept : (w : ℕ) (p : Pointer) (o : Option Pointer) (ws : List ℕ) (ps : List Pointer) → pointer_word p ≡ w → Apart w o → ws ≡ map pointer_word ps
    → cond (eqb (target_word w o) w) ws (w ∷ ws) ≡ map pointer_word (cond (is_some o) (p ∷ ps) ps)
unfolding target_word is_some
word_kept w p none ws ps e ok f = rw (eq-eqb w w refl) f
word_kept w p (some q) ws ps e ok f = rw (ne_eqb (pointer_word q) w ok, e, f)

-- what a word of kind 1 turns into is of another kind
found_apart : (w : ℕ) → w / 16777216 ≡ 1 → (o : Option ℕ) → Apart w (indirect_at o)
unfolding pointer_word
found_apart w one none = tt
found_apart w one (some k) = λ e. omega (arith, one, e)

turns_apart : (w : ℕ) → w / 16777216 ≡ 1 → (image : List Block) (b : Block) → Apart w (turns_to with_blanks image b)
unfolding turns_to
turns_apart w one image b = by_test (Apart w) (is_blank with_blanks b) (λ e. blank_apart) (λ e. found_apart w one (first_from (same_numbers b) 0 image))
  where
    blank_apart : pointer_word blank_pointer ≡ w → ⊥
    blank_apart e = unfold pointer_word in omega (arith, one, e)

kind_apart : (w kind n : ℕ) (storage : Storage) (image : List Block) → w / 16777216 ≡ kind → Apart w (target with_blanks storage image (pointer_of kind n))
unfolding target pointer_of
kind_apart w zero n storage image e = tt
kind_apart w (suc zero) n storage image e = turns_apart w e image (cell_at storage (cell_of (position_at storage (n / 16) (n % 16))))
kind_apart w (suc (suc zero)) n storage image e = tt
kind_apart w (suc (suc (suc zero))) n storage image e = tt
kind_apart w (suc (suc (suc (suc k)))) n storage image e = tt

target_apart : (w : ℕ) (storage : Storage) (image : List Block) → Apart w (target with_blanks storage image (word_to_pointer w))
unfolding word_to_pointer
target_apart w storage image = kind_apart w (w / 16777216) (w % 16777216) storage image refl

module _ (m : Measures) (image pool ws : List ℕ) (n l : ℕ) where
  abbrev storage : Storage
  storage = storage_in m pool ws

  abbrev blocks : List Block
  blocks = image_blocks m.block_bytes image

  pub turned_all : (vs : List ℕ) → ((b : ℕ) → b < length vs → WordFits n l (get_or vs b 0)) → map (target_of m image pool ws) vs ≡ map pointer_word (turn with_blanks storage blocks (map word_to_pointer vs))
  unfolding turn target_of
  turned_all [] f = refl
  turned_all (v ∷ vs) f =
      ap₂ (λ (x : ℕ) (xs : List ℕ). x ∷ xs) (word_turns v (word_to_pointer v) (target with_blanks storage blocks (word_to_pointer v)) (f 0 (omega arith)).canonical) (turned_all vs (λ b h. f (suc b) (omega arith)))

  pub released_all : (vs : List ℕ) → ((b : ℕ) → b < length vs → WordFits n l (get_or vs b 0))
      → released_of vs (map (target_of m image pool ws) vs) ≡ map pointer_word (turning with_blanks storage blocks (map word_to_pointer vs))
  unfolding turning keep target_of released_of
  released_all [] f = refl
  released_all (v ∷ vs) f =
      word_kept v (word_to_pointer v) (target with_blanks storage blocks (word_to_pointer v)) (released_of vs (map (target_of m image pool ws) vs)) (turning with_blanks storage blocks (map word_to_pointer vs)) (f 0 (omega arith)).canonical
      (target_apart v storage blocks) (released_all vs (λ b h. f (suc b) (omega arith)))

-- ---- the words that are released, one by one

-- a word is looked at, of those that are left
pub released_next : (ps ts ps' ts' done done' all : List ℕ) (w t : ℕ) → ps ≡ w ∷ ps' → ts ≡ t ∷ ts' → done' ≡ done ++ word_if w t → done ++ released_of ps ts ≡ all → done' ++ released_of ps' ts' ≡ all
unfolding released_of
released_next ps ts ps' ts' done done' all w t e f d h = rw (d, append_assoc) (ap (λ (x : List ℕ). done ++ x) (go (eqb t w)) ∙ (rw (e, f) at h))
  where
    go : (b : Bool) → cond b [] (w ∷ []) ++ released_of ps' ts' ≡ cond b (released_of ps' ts') (w ∷ released_of ps' ts')
    go true = refl
    go false = refl

pub released_last : (ps ts done all : List ℕ) → ps ≡ [] → done ++ released_of ps ts ≡ all → done ≡ all
unfolding released_of
released_last ps ts done all e h = sym (append-nil done) ∙ (rw e at h)

pub kept_not : (w t m : ℕ) (out : List ℕ) → t ≡ w → take m out ≡ take m out ++ word_if w t
kept_not w t m out e = rw (eq-eqb t w e) (sym (append-nil (take m out)))

pub kept_put : (w t m : ℕ) (out : List ℕ) → (t ≡ w → ⊥) → m < length out → take (m + 1) (set out m w) ≡ take m out ++ word_if w t
kept_put w t m out n h = rw (ne_eqb t w n, add-one m) (take-suc-set out m w h)
