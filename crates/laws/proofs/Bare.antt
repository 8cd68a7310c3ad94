-- Blocks that are null or blank, and their pointers and positions.
use mathlib.Core.Path.{◌≡◌, refl, sym}
use mathlib.Core.Bool.{Bool, true, false, cond, false≢true}
use Prim.Native.Nat.{ℕ}
use Rattle.lists.specs.Lists.{all_zero}
use Rattle.lists.proofs.Same.{all_eq, zeros_eq}
use Rattle.lists.proofs.Tests.{by_test}
use Rattle.model.specs.Measures.{Measures}
use Rattle.model.specs.State.{Block, Pointer, null_pointer, blank_pointer, direct, indirect, Position, null_position, blank_position, Storage}
use Rattle.model.specs.Image.{zero_block, blank_block, Era, before_blanks, with_blanks, is_blank, is_bare}
use Rattle.model.specs.Place.{bare_pointer, bare_position}
use Rattle.model.specs.Trace.{block_at}
use Rattle.model.specs.Sound.{is_null, leads_to}
use Rattle.laws.proofs.Clean.{HasBytes}

pub zero_eq : (m : Measures) (b : Block) → all_zero b ≡ true → HasBytes m b → zero_block m.block_bytes ≡ b
unfolding zero_block
zero_eq m b h e = zeros_eq b m.block_bytes h e

pub blank_eq : (era : Era) (m : Measures) (b : Block) → is_blank era b ≡ true → HasBytes m b → blank_block m.block_bytes ≡ b
unfolding blank_block is_blank
blank_eq before_blanks m b h e = absurd (false≢true h)
blank_eq with_blanks m b h e = all_eq 255 b m.block_bytes h e

-- ---- which blocks are null or blank

pub null_bare : (era : Era) (b : Block) → all_zero b ≡ true → is_bare era b ≡ true
unfolding is_bare
null_bare era b h = rw h refl

pub blank_bare : (era : Era) (b : Block) → is_blank era b ≡ true → is_bare era b ≡ true
unfolding is_bare
blank_bare era b h = rw h (by_test (λ (t : Bool). t ≡ true) (all_zero b) (λ e. refl) (λ e. refl))

pub full_stored : (era : Era) (b : Block) → all_zero b ≡ false → is_blank era b ≡ false → is_bare era b ≡ false
unfolding is_bare
full_stored era b h g = rw (h, g) refl

pub stored_full : (era : Era) (b : Block) → is_bare era b ≡ false → all_zero b ≡ false
unfolding is_bare
stored_full era b = go (all_zero b)
  where
    go : (z : Bool) → cond z true (is_blank era b) ≡ false → z ≡ false
    go true h = absurd (false≢true (sym h))
    go false h = refl

pub bare_eq : (era : Era) (m : Measures) (a : Storage) (b : Block) → is_bare era b ≡ true → HasBytes m b → block_at m.block_bytes a (bare_pointer b) ≡ b
unfolding is_bare bare_pointer block_at
bare_eq era m a b h w = go (all_zero b) refl h
  where
    go : (z : Bool) → all_zero b ≡ z → cond z true (is_blank era b) ≡ true → block_at m.block_bytes a (cond z null_pointer blank_pointer) ≡ b
    go true e h = unfold block_at in zero_eq m b e w
    go false e h = unfold block_at in blank_eq era m b h w

-- ---- the pointer and the position of one

abbrev pub is_indirect : Pointer → Bool
is_indirect null_pointer = false
is_indirect blank_pointer = false
is_indirect (direct k i) = false
is_indirect (indirect n) = true

abbrev pub is_bare_pointer : Pointer → Bool
is_bare_pointer null_pointer = true
is_bare_pointer blank_pointer = true
is_bare_pointer (direct k i) = false
is_bare_pointer (indirect n) = false

module _ (b : Block) where
  by_bare : (P : Pointer → Type 0) → P null_pointer → P blank_pointer → P (bare_pointer b)
  unfolding bare_pointer
  by_bare P n q = by_test P (all_zero b) (λ e. n) (λ e. q)

  pub bare_leads : (k i : ℕ) → leads_to k i (bare_pointer b) ≡ false
  bare_leads k i = by_bare (λ (p : Pointer). leads_to k i p ≡ false) refl refl

  pub bare_plain : is_indirect (bare_pointer b) ≡ false
  bare_plain = by_bare (λ (p : Pointer). is_indirect p ≡ false) refl refl

  pub bare_bare : is_bare_pointer (bare_pointer b) ≡ true
  bare_bare = by_bare (λ (p : Pointer). is_bare_pointer p ≡ true) refl refl

  pub bare_null : is_null (bare_pointer b) ≡ all_zero b
  unfolding bare_pointer
  bare_null = go (all_zero b)
    where
      go : (z : Bool) → is_null (cond z null_pointer blank_pointer) ≡ z
      go true = refl
      go false = refl

  pub by_bare_position : (P : Position → Type 0) → P null_position → P blank_position → P (bare_position b)
  unfolding bare_position
  by_bare_position P n q = by_test P (all_zero b) (λ e. n) (λ e. q)
