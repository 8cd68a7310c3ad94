-- Whether a record equals a segment of the image, position by position.
use mathlib.Core.Path.{◌∙◌, ◌≡◌, ap, ap₂, refl, sym}
use mathlib.Core.Bool.{Bool, cond, false, false≢true, not, true}
use mathlib.Core.List.{List, [], ◌∷◌}
use mathlib.Core.Option.{none}
use Prim.Native.Nat.{◌%◌, ◌*◌, ◌+◌, ◌-◌, ◌/◌, ◌<◌, ◌≤◌, suc, zero, zero-le, ℕ}
use native.Mathlib.Omega.{arith}
use lib.Dec.{eqb, leb}
use borrow.Author.Tests.{leb-false, leb-true}
use lib.ListN.{drop, get_or, length, take}
use Rattle.lists.specs.Each.{Each}
use Rattle.lists.specs.Lists.{all_zero, first_from, same_numbers}
use Rattle.lists.specs.Masks.{mask_of}
use Rattle.lists.specs.Rows.{fill}
use Rattle.lists.proofs.Masks.{bit_false}
use Rattle.lists.proofs.Rows.{zeros_fill}
use Rattle.lists.proofs.Same.{same_eq}
use Rattle.lists.proofs.Slices.{drop_end, drop_next, part_get}
use Rattle.lists.proofs.Tests.{cond_never, cond_true}
use Rattle.lists.proofs.Walks.{mask_after, mask_here}
use Rattle.model.specs.Image.{block_from, blocks_from, is_bare, is_blank, with_blanks}
use Rattle.model.specs.Records.{cell_at, cell_of, equals, holds, is_blank_position, is_free, is_held, is_removed}
use Rattle.model.specs.State.{Block, Position, Segment, Storage, held, null_position, blank_position, removed}
use Rattle.model.specs.Table.{cells_in, record_to_words}
use Rattle.laws.proofs.Bare.{blank_bare, null_bare}
use Rattle.laws.proofs.Image.{blocks_next}
use Rattle.storage.proofs.Inside.{cell_bytes}
use Rattle.place_words.specs.Marks.{blank_mask, is_erased, stored_bit, stored_mask}
use Rattle.place_free.specs.Free.{RestFree}
use Rattle.storage.proofs.Free.{free_masks}
use Rattle.place_words.proofs.Marks.{blanks_div, blanks_mod, mark_bit}
use Rattle.storage.proofs.Row.{blank_word, cell_word, held_word, removed_word}
use Rattle.place_match.proofs.Blank.{bare_full, bare_not, erased_is}

-- ---- what is left to compare

none_removed : (seg : Segment) → mask_of is_removed seg ≡ 0 → (i : ℕ) → is_removed (get_or seg i null_position) ≡ false
unfolding mask_of
none_removed [] e i = refl
none_removed (p ∷ seg) e zero = bit_false (is_removed p) (omega arith)
none_removed (p ∷ seg) e (suc i) = none_removed seg (omega arith) i

bit_same : (a b : Bool) → ◌≡◌ {A = ℕ} (cond a 1 0) (cond b 1 0) → a ≡ b
bit_same true true e = refl
bit_same true false e = absurd (omega arith)
bit_same false true e = absurd (omega arith)
bit_same false false e = refl

-- i positions are equal: what is left decides
pub record EqualTo (s : Storage) (bytes : ℕ) (image : List ℕ) (from n : ℕ) (seg : Segment) (h at i : ℕ) : Type 0 where
  pub mask : h ≡ mask_of is_held (drop i seg)
  pub whole : mask_of is_removed seg ≡ 0
  pub blank : mask_of is_blank_position (drop i seg) ≡ blank_mask (blocks_from bytes image at (n - i))
  pub left : equals with_blanks s (blocks_from bytes image at (n - i)) (drop i seg) ≡ equals with_blanks s (blocks_from bytes image from n) seg

pub equal_start : (s : Storage) (bytes : ℕ) (image : List ℕ) (from n : ℕ) (seg : Segment) (row : List ℕ) → row ≡ record_to_words seg → get_or row 1 0 ≡ 0
    → get_or row 2 0 ≡ blank_mask (blocks_from bytes image from n) → EqualTo s bytes image from n seg (get_or row 0 0) from 0
equal_start s bytes image from n seg row e z b = record {
  mask = ap (λ (l : List ℕ). get_or l 0 0) e ∙ held_word seg;
  whole = sym (ap (λ (l : List ℕ). get_or l 1 0) e ∙ removed_word seg) ∙ z;
  blank = let y : n - 0 ≡ n = omega arith in rw y (sym (ap (λ (l : List ℕ). get_or l 2 0) e ∙ blank_word seg) ∙ b);
  left = let y : n - 0 ≡ n = omega arith in rw y;
}

module _ {s : Storage} {bytes : ℕ} {image : List ℕ} {from n : ℕ} {seg : Segment} {h at i : ℕ} (t : EqualTo s bytes image from n seg h at i) (sz : length seg ≡ n) where
  module _ (l : i < n) (row : List ℕ) (e : row ≡ record_to_words seg) where
    abbrev p : Position
    p = get_or seg i null_position

    -- the position is blank just where the block is
    same_blank : is_blank_position p ≡ is_erased (block_from bytes image at)
    same_blank =
        bit_same _ _
        (sym (mask_here is_blank_position seg i null_position (omega arith)) ∙ ap (λ (m : ℕ). m % 2) (t.blank ∙ ap blank_mask (blocks_next bytes image at n i l)) ∙ blanks_mod (block_from bytes image at) _)

    -- what is answered of position i, from its three bits and its cell word
    pub equal_here : (r : Bool) → ((p : Position) → h % 2 ≡ cond (is_held p) 1 0 → get_or row (3 + i) 0 ≡ cell_of p → is_removed p ≡ false → is_blank_position p ≡ is_erased (block_from bytes image at) → r ≡ holds with_blanks s p (block_from bytes image at))
        → r ≡ holds with_blanks s p (block_from bytes image at)
    equal_here r f =
        f p (rw t.mask (mask_here is_held seg i null_position (omega arith))) (rw e (cell_word seg i (omega arith))) (none_removed seg t.whole i) same_blank

    step : equals with_blanks s (blocks_from bytes image at (n - i)) (drop i seg) ≡ cond (holds with_blanks s p (block_from bytes image at)) (equals with_blanks s (blocks_from bytes image (at + bytes) (n - (i + 1))) (drop (i + 1) seg)) false
    unfolding equals
    step = rw (blocks_next bytes image at n i l, drop_next seg i null_position (omega arith))

    pub equal_yes : true ≡ holds with_blanks s p (block_from bytes image at) → EqualTo s bytes image from n seg (h / 2) (at + bytes) (i + 1)
    equal_yes q = record {
      mask = rw t.mask (mask_after is_held seg i null_position (omega arith));
      whole = t.whole;
      blank =
          sym (mask_after is_blank_position seg i null_position (omega arith))
          ∙ ap (λ (m : ℕ). m / 2) (t.blank ∙ ap blank_mask (blocks_next bytes image at n i l)) ∙ blanks_div (block_from bytes image at) _;
      left = sym (step ∙ rw (← q)) ∙ t.left;
    }

    pub equal_no : false ≡ holds with_blanks s p (block_from bytes image at) → false ≡ equals with_blanks s (blocks_from bytes image from n) seg
    equal_no q = sym (step ∙ rw (← q)) ∙ t.left

  pub equal_end : n ≤ i → true ≡ equals with_blanks s (blocks_from bytes image from n) seg
  unfolding equals blocks_from
  equal_end l =
      let z : n - i ≡ 0 = omega arith in
      rw (z, drop_end seg i (omega arith)) at t.left

-- ---- what a position holds

not_held_lem : (e t : Bool) → cond e false t ≡ true → e ≡ false
not_held_lem true t h = absurd (false≢true h)
not_held_lem false t h = refl

held_same : (e t : Bool) → cond e false t ≡ true → t ≡ true
held_same true t h = absurd (false≢true h)
held_same false t h = h

module _ (s : Storage) (b : Block) (h c : ℕ) (z : 0 < length b) where
  pub holds_held : (p : Position) → h ≡ cond (is_held p) 1 0 → c ≡ cell_of p → is_blank_position p ≡ is_erased b → h ≡ 1 → holds with_blanks s p b ≡ same_numbers (cell_at s c) b
  holds_held null_position e q k o = absurd (omega arith)
  holds_held blank_position e q k o = absurd (omega arith)
  holds_held (held d n) e q k o = rw (sym (k ∙ erased_is b z), q)
  holds_held removed e q k o = absurd (omega arith)

  pub holds_bare : (p : Position) → h ≡ cond (is_held p) 1 0 → is_removed p ≡ false → is_blank_position p ≡ is_erased b → (h ≡ 1 → ⊥) → holds with_blanks s p b ≡ is_bare with_blanks b
  holds_bare null_position e q k o = sym (bare_not b (sym (k ∙ erased_is b z)))
  holds_bare blank_position e q k o = let y : is_blank with_blanks b ≡ true = sym (k ∙ erased_is b z) in y ∙ sym (blank_bare with_blanks b y)
  holds_bare (held d n) e q k o = absurd (o e)
  holds_bare removed e q k o = absurd (false≢true (sym q))

-- a cell's block, from its bytes
pub cell_same : (s : Storage) (bytes : ℕ) (pool : List ℕ) (c : ℕ) → s.cells ≡ cells_in bytes pool → 0 < bytes → c * bytes + bytes ≤ length pool → cell_at s c ≡ take bytes (drop (c * bytes) pool)
unfolding cell_at
cell_same s bytes pool c e z room = ap (λ (l : List Block). get_or l c []) e ∙ cell_bytes bytes pool c z room

pub bare_bit : (b : Block) → eqb (stored_bit b) 0 ≡ is_bare with_blanks b
bare_bit b = go (is_bare with_blanks b)
  where
    go : (t : Bool) → eqb (cond (not t) 1 0) 0 ≡ t
    go true = refl
    go false = refl

-- ---- the first byte

-- a stored block begins within the image
pub mark_inside : (bytes : ℕ) (image : List ℕ) (at : ℕ) → stored_bit (block_from bytes image at) ≡ 1 → at < length image
mark_inside bytes image at e = go (leb (length image) at) refl
  where
    past : length image ≤ at → all_zero (block_from bytes image at) ≡ true
    past h = unfold block_from in (ap (λ (l : List ℕ). all_zero (fill bytes l)) (drop_end image at h) ∙ zeros_fill bytes)

    go : (t : Bool) → leb (length image) at ≡ t → at < length image
    go true q = absurd (omega (arith, e, ap {B = ℕ} (λ (t : Bool). cond (not t) 1 0) (null_bare with_blanks (block_from bytes image at) (past (leb-true (length image) at q)))))
    go false q = leb-false (length image) at q

first_of : (bytes : ℕ) (image : List ℕ) (at : ℕ) → 0 < bytes → at < length image → get_or (block_from bytes image at) 0 0 ≡ get_or image at 0
unfolding block_from
first_of zero image at z h = absurd (omega arith)
first_of (suc b) image at z h = rw (drop_next image at 0 h) (unfold fill in refl)

-- a block whose bit is set is neither null nor blank
stored_is : (b : Block) → stored_bit b ≡ 1 → (all_zero b ≡ false) × (is_blank with_blanks b ≡ false)
stored_is b k = bare_full b (go (is_bare with_blanks b) k)
  where
    go : (t : Bool) → ◌≡◌ {A = ℕ} (cond (not t) 1 0) 1 → t ≡ false
    go true x = absurd (omega (arith, x))
    go false x = refl

pub first_apart : (bytes : ℕ) (image : List ℕ) (from : ℕ) (pool : List ℕ) (c : ℕ) → 0 < bytes → c * bytes + bytes ≤ length pool → stored_bit (block_from bytes image from) ≡ 1
    → (get_or pool (c * bytes) 0 ≡ get_or image from 0 → ⊥) → (s : Storage) (p : Position) → s.cells ≡ cells_in bytes pool → c ≡ cell_of p → false ≡ holds with_blanks s p (block_from bytes image from)
first_apart bytes image from pool c z room k d s null_position e q = sym (stored_is (block_from bytes image from) k).0
first_apart bytes image from pool c z room k d s blank_position e q = sym (stored_is (block_from bytes image from) k).1
first_apart bytes image from pool c z room k d s (held b n) e q = go (same_numbers (cell_at s b) (block_from bytes image from)) refl
  where
    same : same_numbers (cell_at s b) (block_from bytes image from) ≡ true → get_or pool (c * bytes) 0 ≡ get_or image from 0
    same t =
        let cell : cell_at s b ≡ take bytes (drop (c * bytes) pool) = ap (cell_at s) (sym q) ∙ cell_same s bytes pool c e z room in
        let here : c * bytes + 0 ≡ c * bytes = omega arith in
        sym (ap (λ (l : List ℕ). get_or l 0 0) cell ∙ part_get pool (c * bytes) bytes 0 0 z ∙ rw here)
        ∙ ap (λ (l : List ℕ). get_or l 0 0) (same_eq (cell_at s b) (block_from bytes image from) t)
        ∙ first_of bytes image from z (mark_inside bytes image from k)

    go : (t : Bool) → same_numbers (cell_at s b) (block_from bytes image from) ≡ t → false ≡ cond (is_blank with_blanks (block_from bytes image from)) false t
    go true t = absurd (d (same t))
    go false t = sym (cond_never (is_blank with_blanks (block_from bytes image from)))
first_apart bytes image from pool c z room k d s removed e q = refl

-- ---- a record that equals a segment has lost no position, holds each block that is stored, and is blank just where the segment is

module _ (storage : Storage) where
  equal_head : (b : Block) (bs : List Block) (p : Position) (ps : Segment) → equals with_blanks storage (b ∷ bs) (p ∷ ps) ≡ true
      → (holds with_blanks storage p b ≡ true) × (equals with_blanks storage bs ps ≡ true)
  unfolding equals
  equal_head b bs p ps e = cond_true (holds with_blanks storage p b) (equals with_blanks storage bs ps) e

  pub equal_whole : (bs : List Block) (ps : Segment) → equals with_blanks storage bs ps ≡ true → mask_of is_removed ps ≡ 0
  unfolding equals mask_of
  equal_whole [] [] e = refl
  equal_whole [] (p ∷ ps) e = absurd (false≢true e)
  equal_whole (b ∷ bs) [] e = absurd (false≢true e)
  equal_whole (b ∷ bs) (null_position ∷ ps) e = let r = equal_whole bs ps (equal_head b bs null_position ps e).1 in omega arith
  equal_whole (b ∷ bs) (blank_position ∷ ps) e = let r = equal_whole bs ps (equal_head b bs blank_position ps e).1 in omega arith
  equal_whole (b ∷ bs) (held c n ∷ ps) e = let r = equal_whole bs ps (equal_head b bs (held c n) ps e).1 in omega arith
  equal_whole (b ∷ bs) (removed ∷ ps) e = absurd (false≢true (equal_head b bs removed ps e).0)

  pub equal_more : (bs : List Block) (ps : Segment) → equals with_blanks storage bs ps ≡ true → stored_mask bs ≤ mask_of is_held ps
  unfolding equals mask_of
  equal_more [] [] e = zero-le
  equal_more [] (p ∷ ps) e = absurd (false≢true e)
  equal_more (b ∷ bs) [] e = absurd (false≢true e)
  equal_more (b ∷ bs) (null_position ∷ ps) e =
      let z = equal_head b bs null_position ps e in
      let r = equal_more bs ps z.1 in
      rw (null_bare with_blanks b z.0) (omega arith)
  equal_more (b ∷ bs) (blank_position ∷ ps) e =
      let z = equal_head b bs blank_position ps e in
      let r = equal_more bs ps z.1 in
      rw (blank_bare with_blanks b z.0) (omega arith)
  equal_more (b ∷ bs) (held c n ∷ ps) e =
      let r = equal_more bs ps (equal_head b bs (held c n) ps e).1 in
      omega (arith, mark_bit b)
  equal_more (b ∷ bs) (removed ∷ ps) e = absurd (false≢true (equal_head b bs removed ps e).0)

  -- no more than those, where each cell that is named has a byte other than zero
  pub equal_less : (bs : List Block) (ps : Segment) → ((i : ℕ) → is_held (get_or ps i null_position) ≡ true → all_zero (cell_at storage (cell_of (get_or ps i null_position))) ≡ false)
      → equals with_blanks storage bs ps ≡ true → mask_of is_held ps ≤ stored_mask bs
  unfolding equals mask_of
  equal_less [] [] f e = zero-le
  equal_less [] (p ∷ ps) f e = absurd (false≢true e)
  equal_less (b ∷ bs) [] f e = absurd (false≢true e)
  equal_less (b ∷ bs) (null_position ∷ ps) f e = let r = equal_less bs ps (λ i. f (suc i)) (equal_head b bs null_position ps e).1 in omega arith
  equal_less (b ∷ bs) (blank_position ∷ ps) f e = let r = equal_less bs ps (λ i. f (suc i)) (equal_head b bs blank_position ps e).1 in omega arith
  equal_less (b ∷ bs) (held c n ∷ ps) f e =
      let z = equal_head b bs (held c n) ps e in
      let r = equal_less bs ps (λ i. f (suc i)) z.1 in
      let filled : all_zero b ≡ false = sym (ap all_zero (same_eq (cell_at storage c) b (held_same (is_blank with_blanks b) _ z.0))) ∙ f 0 refl in
      rw (bare_not b (not_held_lem (is_blank with_blanks b) _ z.0), filled) (omega arith)
  equal_less (b ∷ bs) (removed ∷ ps) f e = absurd (false≢true (equal_head b bs removed ps e).0)

  pub equal_blank : (bs : List Block) (ps : Segment) → Each (λ (b : Block). 0 < length b) bs → equals with_blanks storage bs ps ≡ true → mask_of is_blank_position ps ≡ blank_mask bs
  unfolding equals mask_of
  equal_blank [] [] w e = refl
  equal_blank [] (p ∷ ps) w e = absurd (false≢true e)
  equal_blank (b ∷ bs) [] w e = absurd (false≢true e)
  equal_blank (b ∷ bs) (p ∷ ps) w e =
      let z = equal_head b bs p ps e in
      ap₂ (λ (t : Bool) (m : ℕ). cond t 1 0 + 2 * m) (go p z.0) (equal_blank bs ps w.1 z.1)
    where
      go : (p : Position) → holds with_blanks storage p b ≡ true → is_blank_position p ≡ is_erased b
      go null_position h = rw h
      go blank_position h = sym (erased_is b w.0 ∙ h)
      go (held c n) h = sym (erased_is b w.0 ∙ not_held_lem (is_blank with_blanks b) (same_numbers (cell_at storage c) b) h)
      go removed h = absurd (false≢true h)

  -- ---- a free record equals no segment that has a stored block

  module _ (bs : List Block) (n : 0 < stored_mask bs) where
    unused : (ps : Segment) → is_free ps ≡ true → equals with_blanks storage bs ps ≡ false
    unused ps f = go (equals with_blanks storage bs ps) refl
      where
        go : (t : Bool) → equals with_blanks storage bs ps ≡ t → t ≡ false
        go true e = absurd (omega (arith, equal_more bs ps e, (free_masks ps f).0))
        go false e = refl

    none_free : (i : ℕ) (rs : List Segment) → RestFree 0 rs → first_from (equals with_blanks storage bs) i rs ≡ none
    unfolding first_from
    none_free i [] r = refl
    none_free i (ps ∷ rs) r =
        rw (unused ps (r 0 (omega arith) (omega arith))) (none_free (suc i) rs (λ j h l. r (suc j) (omega arith) (omega arith)))

    -- so the search ends where all others are free
    pub none_rest : (u i : ℕ) (rs : List Segment) → RestFree u rs → first_from (equals with_blanks storage bs) i (drop u rs) ≡ none
    none_rest zero i rs r = none_free i rs r
    none_rest (suc u) i [] r = unfold first_from in refl
    none_rest (suc u) i (ps ∷ rs) r = none_rest u i rs (λ j h l. r (suc j) (omega arith) (omega arith))
