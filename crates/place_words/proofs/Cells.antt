-- The cells that a record's held positions name, one after the other along the mask.
use mathlib.Core.Path.{◌∙◌, ◌≡◌, ap, refl, sym}
use mathlib.Core.Bool.{cond}
use mathlib.Core.List.{List, [], ◌++◌, ◌∷◌}
use Prim.Native.Nat.{◌%◌, ◌+◌, ◌/◌, ◌<◌, ◌≤◌, ℕ}
use lib.ListN.{drop, get_or, length}
use Rattle.lists.specs.Masks.{mask_of}
use Rattle.lists.proofs.Slices.{drop_end, drop_next}
use Rattle.lists.proofs.Walks.{mask_after, mask_here}
use Rattle.model.specs.Records.{cell_of, cells_of, is_held}
use Rattle.model.specs.State.{Position, Segment, held, null_position, blank_position, removed}
use Rattle.model.specs.Table.{record_to_words}
use Rattle.place_words.specs.Words.{cell_if}
use Rattle.storage.proofs.Row.{cell_word, held_word}

-- a position's cell, if it is held
position_cell : (p : Position) (ps : Segment) → cells_of (p ∷ ps) ≡ cell_if (cond (is_held p) 1 0) (cell_of p) ++ cells_of ps
unfolding cells_of
position_cell null_position ps = refl
position_cell blank_position ps = refl
position_cell (held c n) ps = refl
position_cell removed ps = refl

-- ---- what is done to the cells one after the other

-- i positions are done, and what is left gives the whole
pub record Acted {S : Type 0} (act : List ℕ → S → S) (seg : Segment) (s₀ : S) (m i : ℕ) (s : S) : Type 0 where
  pub mask : m ≡ mask_of is_held (drop i seg)
  pub left : act (cells_of (drop i seg)) s ≡ act (cells_of seg) s₀

module _ {S : Type 0} (act : List ℕ → S → S) (seg : Segment) (row : List ℕ) (e : row ≡ record_to_words seg) (s₀ : S) where
  pub acted_start : Acted act seg s₀ (get_or row 0 0) 0 s₀
  acted_start = record { mask = ap (λ (l : List ℕ). get_or l 0 0) e ∙ held_word seg; left = refl }

  module _ (m i : ℕ) (s : S) (t : Acted act seg s₀ m i s) where
    -- at position i, as the row has it
    pub acted_next : ((xs ys : List ℕ) → act (xs ++ ys) s ≡ act ys (act xs s)) → i < length seg → Acted act seg s₀ (m / 2) (i + 1) (act (cell_if (m % 2) (get_or row (3 + i) 0)) s)
    acted_next f h =
        let b : m % 2 ≡ cond (is_held (get_or seg i null_position)) 1 0 = rw t.mask (mask_here is_held seg i null_position h) in
        let here : cells_of (drop i seg) ≡ cell_if (m % 2) (get_or row (3 + i) 0) ++ cells_of (drop (i + 1) seg) =
        ap cells_of (drop_next seg i null_position h) ∙ position_cell (get_or seg i null_position) (drop (i + 1) seg) ∙ rw (b, e, cell_word seg i h) in
        record {
          mask = rw t.mask (mask_after is_held seg i null_position h);
          left = sym (f (cell_if (m % 2) (get_or row (3 + i) 0)) (cells_of (drop (i + 1) seg))) ∙ ap (λ (l : List ℕ). act l s) (sym here) ∙ t.left;
        }

    pub acted_end : act [] s ≡ s → length seg ≤ i → s ≡ act (cells_of seg) s₀
    unfolding cells_of
    acted_end z h = sym z ∙ rw (drop_end seg i h) at t.left
