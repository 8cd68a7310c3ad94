-- Which blocks of an image are blank.
use mathlib.Core.Path.{◌≡◌, refl, sym}
use mathlib.Core.Bool.{Bool, cond, false, false≢true, true}
use mathlib.Core.List.{List, [], ◌∷◌}
use Prim.Native.Nat.{◌+◌, ◌<◌, suc, zero, ℕ}
use native.Mathlib.Omega.{arith}
use lib.Dec.{eqb}
use lib.ListN.{drop, length, length-drop}
use borrow.Author.Tests.{eqb-true}
use Rattle.lists.specs.Each.{Each}
use Rattle.lists.specs.Lists.{all_zero, every}
use Rattle.lists.specs.Rows.{fill}
use Rattle.lists.proofs.Tests.{cond_never, every_head}
use Rattle.model.specs.Image.{block_from, blocks_from, is_bare, is_blank, with_blanks}
use Rattle.model.specs.State.{Block}
use Rattle.laws.proofs.Image.{length_block}
use Rattle.place_words.specs.Marks.{blank_bit, is_erased, stored_bit}

null_not_blank : (b : Block) → 0 < length b → all_zero b ≡ true → is_blank with_blanks b ≡ false
unfolding is_blank every all_zero
null_not_blank [] h e = absurd (omega arith)
null_not_blank (x ∷ b) h e = let z : x ≡ 0 = eqb-true x 0 (every_head (λ x. eqb x 0) x b e) in rw z

pub erased_is : (b : Block) → 0 < length b → is_erased b ≡ is_blank with_blanks b
erased_is b h = go (all_zero b) refl
  where
    go : (z : Bool) → all_zero b ≡ z → cond z false (is_blank with_blanks b) ≡ is_blank with_blanks b
    go true e = sym (null_not_blank b h e)
    go false e = refl

pub bare_not : (b : Block) → is_blank with_blanks b ≡ false → is_bare with_blanks b ≡ all_zero b
unfolding is_bare
bare_not b e = rw e (go (all_zero b))
  where
    go : (z : Bool) → cond z true false ≡ z
    go true = refl
    go false = refl

pub bare_full : (b : Block) → is_bare with_blanks b ≡ false → (all_zero b ≡ false) × (is_blank with_blanks b ≡ false)
unfolding is_bare
bare_full b = go (all_zero b) (is_blank with_blanks b)
  where
    go : (z e : Bool) → cond z true e ≡ false → (z ≡ false) × (e ≡ false)
    go true e h = absurd (false≢true (sym h))
    go false e h = (refl, h)

-- a block that is filled up with zeros is not blank
short_fill : (n : ℕ) (xs : List ℕ) → length xs < n → is_blank with_blanks (fill n xs) ≡ false
unfolding is_blank every fill
short_fill zero xs h = absurd (omega arith)
short_fill (suc n) [] h = refl
short_fill (suc n) (x ∷ xs) h = rw (short_fill n xs (omega arith)) (cond_never (eqb x 255))

pub cut_not_blank : (bytes : ℕ) (image : List ℕ) (at : ℕ) → 0 < bytes → length image < at + bytes → false ≡ is_blank with_blanks (block_from bytes image at)
unfolding block_from
cut_not_blank bytes image at z h = sym (short_fill bytes (drop at image) (omega (arith, length-drop at image)))

pub some_block : (bytes : ℕ) (image : List ℕ) (at : ℕ) → 0 < bytes → 0 < length (block_from bytes image at)
some_block bytes image at z = omega (arith, length_block bytes image at)

pub each_some : (bytes : ℕ) (image : List ℕ) → 0 < bytes → (at n : ℕ) → Each (λ (b : Block). 0 < length b) (blocks_from bytes image at n)
unfolding blocks_from
each_some bytes image z at zero = tt
each_some bytes image z at (suc n) = (some_block bytes image at z, each_some bytes image z (at + bytes) n)

-- ---- a block's marks

module _ (b : Block) where
  pub null_marks : true ≡ all_zero b → (0 ≡ stored_bit b) × (0 ≡ blank_bit b)
  unfolding is_bare
  null_marks e = rw (← e) (refl, refl)

  pub blank_marks : false ≡ all_zero b → true ≡ is_blank with_blanks b → (0 ≡ stored_bit b) × (1 ≡ blank_bit b)
  unfolding is_bare
  blank_marks e f = rw (← e, ← f) (refl, refl)

  pub stored_marks : false ≡ all_zero b → false ≡ is_blank with_blanks b → (1 ≡ stored_bit b) × (0 ≡ blank_bit b)
  unfolding is_bare
  stored_marks e f = rw (← e, ← f) (refl, refl)
