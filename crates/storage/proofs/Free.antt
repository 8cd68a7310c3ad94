-- A record is free just where its three masks are 0, and names no cell where the mask of its held positions is.
use mathlib.Core.Path.{◌∙◌, ◌≡◌, ap, refl, sym}
use mathlib.Core.Bool.{Bool, false, false≢true, true}
use mathlib.Core.List.{List, [], ◌∷◌}
use Prim.Native.Nat.{ℕ}
use native.Mathlib.Omega.{arith}
use lib.ListN.{get_or}
use lib.Dec.{eqb}
use borrow.Author.Tests.{eqb-false, eqb-true}
use Rattle.lists.specs.Lists.{every}
use Rattle.lists.specs.Masks.{mask_of}
use Rattle.model.specs.Records.{cells_of, is_blank_position, is_free, is_held, is_removed}
use Rattle.model.specs.State.{Segment, held, null_position, blank_position, removed}
use Rattle.model.specs.Table.{record_to_words}
use Rattle.storage.proofs.Row.{blank_word, held_word, removed_word}

free_yes : (ps : Segment) → mask_of is_held ps ≡ 0 → mask_of is_removed ps ≡ 0 → mask_of is_blank_position ps ≡ 0 → is_free ps ≡ true
unfolding is_free every mask_of
free_yes [] h r b = refl
free_yes (null_position ∷ ps) h r b = free_yes ps (omega arith) (omega arith) (omega arith)
free_yes (blank_position ∷ ps) h r b = absurd (omega arith)
free_yes (held c n ∷ ps) h r b = absurd (omega arith)
free_yes (removed ∷ ps) h r b = absurd (omega arith)

pub free_masks : (ps : Segment) → is_free ps ≡ true → (mask_of is_held ps ≡ 0) × (mask_of is_removed ps ≡ 0) × (mask_of is_blank_position ps ≡ 0)
unfolding is_free every mask_of
free_masks [] e = (refl, refl, refl)
free_masks (null_position ∷ ps) e = let r = free_masks ps e in (omega arith, omega arith, omega arith)
free_masks (blank_position ∷ ps) e = absurd (false≢true e)
free_masks (held c n ∷ ps) e = absurd (false≢true e)
free_masks (removed ∷ ps) e = absurd (false≢true e)

by_masks : (ps : Segment) (t : Bool) → is_free ps ≡ t → ((mask_of is_held ps ≡ 0) × (mask_of is_removed ps ≡ 0) × (mask_of is_blank_position ps ≡ 0) → ⊥) → false ≡ is_free ps
by_masks ps true e n = absurd (n (free_masks ps e))
by_masks ps false e n = sym e

-- no cell without a held position
pub cells_none : (ps : Segment) → mask_of is_held ps ≡ 0 → cells_of ps ≡ []
unfolding cells_of mask_of
cells_none [] e = refl
cells_none (null_position ∷ ps) e = cells_none ps (omega arith)
cells_none (blank_position ∷ ps) e = cells_none ps (omega arith)
cells_none (held c n ∷ ps) e = absurd (omega arith)
cells_none (removed ∷ ps) e = cells_none ps (omega arith)

module _ (seg : Segment) (row : List ℕ) (s : row ≡ record_to_words seg) where
  pub held_is : get_or row 0 0 ≡ mask_of is_held seg
  held_is = ap (λ (l : List ℕ). get_or l 0 0) s ∙ held_word seg

  pub removed_is : get_or row 1 0 ≡ mask_of is_removed seg
  removed_is = ap (λ (l : List ℕ). get_or l 1 0) s ∙ removed_word seg

  pub blank_is : get_or row 2 0 ≡ mask_of is_blank_position seg
  blank_is = ap (λ (l : List ℕ). get_or l 2 0) s ∙ blank_word seg

  pub row_names_none : get_or row 0 0 ≡ 0 → cells_of seg ≡ []
  row_names_none z = cells_none seg (sym held_is ∙ z)

  pub row_not_held : (get_or row 0 0 ≡ 0 → ⊥) → false ≡ is_free seg
  row_not_held n = by_masks seg _ refl (λ z. n (held_is ∙ z.0))

  pub row_not_whole : (get_or row 1 0 ≡ 0 → ⊥) → false ≡ is_free seg
  row_not_whole n = by_masks seg _ refl (λ z. n (removed_is ∙ z.1))

  pub row_by : get_or row 0 0 ≡ 0 → get_or row 1 0 ≡ 0 → eqb (get_or row 2 0) 0 ≡ is_free seg
  row_by z y = go (eqb (get_or row 2 0) 0) refl
    where
      go : (t : Bool) → eqb (get_or row 2 0) 0 ≡ t → t ≡ is_free seg
      go true e = sym (free_yes seg (sym held_is ∙ z) (sym removed_is ∙ y) (sym blank_is ∙ eqb-true _ _ e))
      go false e = by_masks seg _ refl (λ x. eqb-false _ _ e (blank_is ∙ x.2))
