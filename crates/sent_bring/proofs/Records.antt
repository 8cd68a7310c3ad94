-- A stored record's row and content, as code has them.
use mathlib.Core.Path.{◌≡◌, refl, ap, ◌∙◌, sym}
use mathlib.Core.List.{List, []}
use Prim.Native.Nat.{ℕ, ◌+◌, ◌*◌, ◌≤◌, ◌<◌}
use native.Mathlib.Omega.{arith}
use lib.ListN.{length, get_or}
use Rattle.lists.specs.Rows.{rows}
use Rattle.lists.proofs.Places.{row_room}
use Rattle.model.specs.Measures.{Measures}
use Rattle.model.specs.State.{Segment, Storage}
use Rattle.model.specs.Table.{cells_in, record_to_words, records_in, storage_in}
use Rattle.storage.specs.Stored.{Stored}
use Rattle.storage.proofs.Inside.{cell_inside, cell_room}
use Rattle.storage.proofs.Read.{cells_of, count_at, records_of, stored_records}
use Rattle.storage.proofs.Row.{cells_below}
use Rattle.sent.specs.Sent.{segment_bytes, content_of, content_in}

pub segment_long : (m : Measures) → segment_bytes m ≡ m.segment_blocks * m.block_bytes
unfolding segment_bytes
segment_long m = refl

-- a segment that was sent is within those sent
pub sent_room : (m : Measures) (w i s l : ℕ) → w ≡ m.segment_blocks * m.block_bytes → i < s → s * segment_bytes m ≤ l → i * w + w ≤ l
sent_room m w i s l e h r = let z : w ≡ segment_bytes m = e ∙ sym (segment_long m) in rw z (omega (arith, r, row_room i s (segment_bytes m) h))

module _ {m : Measures} {pool words : List ℕ} (t : Stored m pool words) (k : ℕ) (h : k < length (records_in m.segment_blocks words)) (row : List ℕ)
    (e : row ≡ record_to_words (get_or (records_in m.segment_blocks words) k [])) where
  abbrev seg : Segment
  seg = get_or (records_in m.segment_blocks words) k []

  sized : length seg ≡ m.segment_blocks
  sized = count_at m.segment_blocks words (records_in m.segment_blocks words) (stored_records m t) k h

  -- each of its cells is in the pool
  pub row_cells : (i : ℕ) → i < m.segment_blocks → get_or row (3 + i) 0 * m.block_bytes + m.block_bytes ≤ length pool
  row_cells i l =
      cell_room t (get_or row (3 + i) 0)
      (cells_below m.segment_blocks (length (cells_in m.block_bytes pool)) seg sized (cell_inside t k) row e i l)

  -- its content is the record's
  pub row_content : (out : List ℕ)
      → ((s : Storage) (seg : Segment) → s.cells ≡ cells_in m.block_bytes pool → length seg ≡ m.segment_blocks → row ≡ record_to_words seg → out ≡ rows (content_of m.block_bytes s) seg)
      → out ≡ content_in m (storage_in m pool words) (get_or (storage_in m pool words).records k [])
  row_content out f =
      f (storage_in m pool words) seg (cells_of m pool words) sized e
      ∙ ap (λ (l : List Segment). content_in m (storage_in m pool words) (get_or l k [])) (sym (records_of m pool words))
