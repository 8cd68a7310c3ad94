-- What the marks and the bytes say of the cells is what sound asks.
use mathlib.Core.Path.{◌≡◌, refl, sym, ap, ◌∙◌}
use mathlib.Core.Bool.{Bool, true, false, beq}
use mathlib.Core.List.{List, [], ◌∷◌, ◌++◌, map}
use Prim.Native.Nat.{ℕ, zero, suc, ◌+◌, ◌*◌, ◌/◌, ◌≤◌, ◌<◌}
use native.Mathlib.Nat.{not-suc-le-zero, le_of_suc-le-suc, zero-add, add-zero}
use native.Mathlib.Omega.{arith}
use lib.ListN.{length, get_or, take, drop, replicate, length-replicate}
use Rattle.lists.specs.Lists.{is_in}
use Rattle.lists.specs.Rows.{joined}
use Rattle.lists.specs.Marks.{fits, marked}
use Rattle.lists.proofs.Checkers.{clash}
use Rattle.lists.proofs.Tests.{clause, all_true}
use Rattle.lists.proofs.Cuts.{length_chunks, chunk_at}
use Rattle.model.specs.State.{Block}
use Rattle.model.specs.Measures.{Measures, record_words}
use Rattle.model.specs.Records.{cells_of, named_cells}
use Rattle.model.specs.Table.{segment_in, records_in, cells_in, storage_in}
use Rattle.model.specs.Sound.{has_cells, are_filled, is_filled}
use Rattle.audit_words.proofs.Chunks.{chunks_row, chunks_end}
use Rattle.audit_cells.specs.Cells.{CellsSound}
use Rattle.lists.proofs.Apart.{Apart, fits_apart, apart_fits, none_marked, marked_all}

-- ---- the cells named, record by record

-- those of the next record, and of the others
pub named_row : (n : ℕ) (ws x rest : List ℕ) → ws ≡ x ++ rest → length x ≡ record_words n → named_cells (records_in n ws) ≡ cells_of (segment_in n x) ++ named_cells (records_in n rest)
unfolding named_cells records_in joined
named_row n ws x rest e l = ap (λ (rs : List (List ℕ)). named_cells (map (segment_in n) rs)) (chunks_row (record_words n) ws x rest e l (omega arith))

pub named_end : (n : ℕ) (ws : List ℕ) → length ws < record_words n → named_cells (records_in n ws) ≡ []
unfolding named_cells records_in joined
named_end n ws h = ap (λ (rs : List (List ℕ)). named_cells (map (segment_in n) rs)) (chunks_end (record_words n) ws h)

-- ---- are_filled

beq_eq : (a b : Bool) → beq a b ≡ true → a ≡ b
beq_eq true true h = refl
beq_eq true false h = absurd (clash refl h)
beq_eq false true h = absurd (clash refl h)
beq_eq false false h = refl

eq_beq : (a b : Bool) → a ≡ b → beq a b ≡ true
eq_beq true true h = refl
eq_beq true false h = absurd (clash h refl)
eq_beq false true h = absurd (clash refl h)
eq_beq false false h = refl

filled_of : (named : List ℕ) (i : ℕ) (bs : List Block) → ((k : ℕ) → k < length bs → is_in (i + k) named ≡ is_filled (get_or bs k [])) → are_filled named i bs ≡ true
unfolding are_filled
filled_of named i [] h = refl
filled_of named i (b ∷ bs) h =
    all_true _ (
      eq_beq _ _ (ap (λ (n : ℕ). is_in n named) (sym (add-zero i)) ∙ h 0 (omega arith)),
      (filled_of named (suc i) bs (λ k g. ap (λ (n : ℕ). is_in n named) (let e : suc i + k ≡ i + suc k = omega arith in e) ∙ h (suc k) (omega arith)), tt),
    )

filled_at : (named : List ℕ) (i : ℕ) (bs : List Block) → are_filled named i bs ≡ true → (k : ℕ) → k < length bs → is_in (i + k) named ≡ is_filled (get_or bs k [])
unfolding are_filled
filled_at named i [] h k g = absurd (not-suc-le-zero g)
filled_at named i (b ∷ bs) h zero g = ap (λ (n : ℕ). is_in n named) (add-zero i) ∙ beq_eq _ _ (clause _ 0 h)
filled_at named i (b ∷ bs) h (suc k) g =
    ap (λ (n : ℕ). is_in n named) (let e : i + suc k ≡ suc i + k = omega arith in e) ∙ filled_at named (suc i) bs (clause _ 1 h) k (le_of_suc-le-suc g)

-- ---- CellsSound

-- by the marks that are made from none, and by the bytes
pub record Marked (sz : Measures) (m : ℕ) (pool ws : List ℕ) : Type 0 where
  pub named : fits (length pool / sz.block_bytes) (named_cells (records_in sz.segment_blocks ws)) (replicate m false) ≡ true
  pub filled : (c : ℕ) → c < length pool / sz.block_bytes
      → get_or (marked (named_cells (records_in sz.segment_blocks ws)) (replicate m false)) c false ≡ is_filled (take sz.block_bytes (drop (c * sz.block_bytes) pool))

module _ (sz : Measures) (m : ℕ) (pool ws : List ℕ) (most : length pool / sz.block_bytes ≤ m) where
  abbrev named : List ℕ
  named = named_cells (records_in sz.segment_blocks ws)

  cells_long : length (cells_in sz.block_bytes pool) ≡ length pool / sz.block_bytes
  unfolding cells_in
  cells_long = length_chunks sz.block_bytes pool

  cell_is : (k : ℕ) → k < length pool / sz.block_bytes → get_or (cells_in sz.block_bytes pool) k [] ≡ take sz.block_bytes (drop (k * sz.block_bytes) pool)
  unfolding cells_in
  cell_is k h = chunk_at sz.block_bytes pool k h

  pub marked_sound : Marked sz m pool ws → CellsSound (storage_in sz pool ws)
  unfolding storage_in has_cells
  marked_sound s =
      let p : Apart (length pool / sz.block_bytes) named (replicate m false) = fits_apart (length pool / sz.block_bytes) named (replicate m false) (rw (length-replicate m false) most) s.named in
      record {
        named = all_true _ (rw cells_long p.below, (p.apart, tt));
        filled = filled_of named 0 (cells_in sz.block_bytes pool) (λ k h.
            let g : k < length pool / sz.block_bytes = rw cells_long at h in
            ap (λ (x : ℕ). is_in x named) (zero-add k) ∙ sym (marked_all m named k (omega (arith, g, most))) ∙ s.filled k g
            ∙ ap (λ (l : List ℕ). is_filled l) (sym (cell_is k g)));
      }

  pub sound_marked : CellsSound (storage_in sz pool ws) → Marked sz m pool ws
  unfolding storage_in has_cells
  sound_marked s =
      record {
        named = apart_fits (length pool / sz.block_bytes) named (replicate m false)
            (record { below = rw cells_long at (clause _ 0 s.named); apart = clause _ 1 s.named; free = λ x e. none_marked m x });
        filled = λ k g.
            marked_all m named k (omega (arith, g, most)) ∙ ap (λ (x : ℕ). is_in x named) (sym (zero-add k))
            ∙ filled_at named 0 (cells_in sz.block_bytes pool) s.filled k (rw cells_long g) ∙ ap (λ (l : List ℕ). is_filled l) (cell_is k g);
      }
