-- A loop that marks the cells of one record after the other.
use Rattle.std.proofs.Common.{◌≡◌, ℕ, ◌<◌, Bool, true, false, List, ◌++◌, length, refl, sym, ap, ◌∙◌}
use Rattle.lists.specs.Marks.{fits, marked, MarkResult}
use Rattle.lists.proofs.Checkers.{clash}
use Rattle.lists.proofs.Marks.{fits_append, fits_stop, marked_append}
use Rattle.model.specs.Measures.{record_words}
use Rattle.model.specs.Records.{cells_of, named_cells}
use Rattle.model.specs.Table.{segment_in, records_in}
use Rattle.audit_cells.proofs.Cells.{named_row, named_end}

-- the records of `ws` are left
pub record Going (n top : ℕ) (all ws : List ℕ) (occ₀ occ : List Bool) : Type 0 where
  pub kept : length occ ≡ length occ₀
  pub ok : fits top (named_cells (records_in n ws)) occ ≡ fits top (named_cells (records_in n all)) occ₀
  pub done : marked (named_cells (records_in n ws)) occ ≡ marked (named_cells (records_in n all)) occ₀

module _ (n top : ℕ) (all ws : List ℕ) (occ₀ occ : List Bool) (w : Going n top all ws occ₀ occ) where
  module _ (x rest : List ℕ) (occ' : List Bool) (r : Bool) (e : ws ≡ x ++ rest) (l : length x ≡ record_words n) (m : MarkResult r top (cells_of (segment_in n x)) occ occ') where
    pub again : length occ' ≡ length occ → r ≡ true → Going n top all rest occ₀ occ'
    again k t =
        let f : fits top (cells_of (segment_in n x)) occ ≡ true = sym m.ok ∙ t in
        record {
          kept = k ∙ w.kept;
          ok = rw (m.done t) (sym (fits_append top (cells_of (segment_in n x)) (named_cells (records_in n rest)) occ f) ∙ ap (λ (cs : List ℕ). fits top cs occ) (sym (named_row n ws x rest e l)) ∙ w.ok);
          done = rw (m.done t) (sym (marked_append (cells_of (segment_in n x)) (named_cells (records_in n rest)) occ) ∙ ap (λ (cs : List ℕ). marked cs occ) (sym (named_row n ws x rest e l)) ∙ w.done);
        }

    pub fails : r ≡ false → MarkResult false top (named_cells (records_in n all)) occ₀ occ'
    fails t =
        record {
          ok = sym (fits_stop top (cells_of (segment_in n x)) (named_cells (records_in n rest)) occ (sym m.ok ∙ t)) ∙ ap (λ (cs : List ℕ). fits top cs occ) (sym (named_row n ws x rest e l)) ∙ w.ok;
          done = λ u. absurd (clash refl u);
        }

  pub ends : length ws < record_words n → MarkResult true top (named_cells (records_in n all)) occ₀ occ
  unfolding fits marked
  ends h = let z = named_end n ws h in record { ok = rw z at w.ok; done = λ t. rw z at w.done }
