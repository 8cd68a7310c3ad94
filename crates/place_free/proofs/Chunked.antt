-- The records' words cut into rows from the front: what is left at row k, and the row that is cut off there.
use Rattle.std.proofs.Common.{◌≡◌, ◌∙◌, ap, sym, refl, arith, ℕ, ◌+◌, ◌*◌, ◌≤◌, ◌<◌, ltb, Bool, true, false, List, [], ◌++◌, length, get_or, take, drop, length-append, length-drop}
use native.Mathlib.Nat.{zero-mul}
use lib.Seq.{drop_at, drop-drop, take_at}
use borrow.Author.Tests.{ltb-false, ltb-true}
use Rattle.lists.proofs.Places.{row_next, rows_few}
use Rattle.model.specs.Measures.{record_words}
use Rattle.model.specs.Table.{record_to_words, records_in}
use Rattle.storage.specs.Stored.{EncodesRecords}
use Rattle.storage.proofs.Read.{count_at, records_count, room_at, row_at, row_inside}

-- k rows of this width are cut off
pub record Chunked (n : ℕ) (ws : List ℕ) (width k : ℕ) (rest : List ℕ) : Type 0 where
  pub within : k ≤ length (records_in n ws)
  pub wide : width ≡ record_words n
  pub left : rest ≡ drop (k * record_words n) ws

pub chunk_start : (n : ℕ) (ws : List ℕ) (width : ℕ) (rest : List ℕ) → width ≡ record_words n → rest ≡ ws → Chunked n ws width 0 rest
chunk_start n ws width rest e s = record { within = omega arith; wide = e; left = s ∙ ap (λ (m : ℕ). drop m ws) (sym (zero-mul (record_words n))) }

module _ {n : ℕ} {ws : List ℕ} {width k : ℕ} {rest : List ℕ} (a : Chunked n ws width k rest) where
  pub chunk_few : length ws ≤ 4096 * record_words n → k ≤ 4096
  chunk_few h = omega (arith, a.within, records_count n ws, rows_few (length ws) (record_words n) (omega arith) 4096 h)

  module _ (r : EncodesRecords n ws (records_in n ws)) where
    module _ (row more : List ℕ) (s : rest ≡ row ++ more) (l : length row ≡ width) where
      chunk_room : k * record_words n + record_words n ≤ length ws
      chunk_room = omega (arith, l, a.wide, ap length s, ap length a.left, length-append row more, length-drop (k * record_words n) ws)

      pub chunk_inside : k < length (records_in n ws)
      chunk_inside = row_inside n ws (records_in n ws) r k chunk_room

      pub chunk_sized : length (get_or (records_in n ws) k []) ≡ n
      chunk_sized = count_at n ws (records_in n ws) r k chunk_inside

      pub chunk_length : length row ≡ record_words n
      chunk_length = l ∙ a.wide

      pub chunk_row : row ≡ record_to_words (get_or (records_in n ws) k [])
      chunk_row =
          sym (take_at row more (record_words n) chunk_length)
          ∙ ap (take (record_words n)) (sym s ∙ a.left)
          ∙ row_at n ws (records_in n ws) r k chunk_inside

      pub chunk_next : Chunked n ws width (k + 1) more
      chunk_next = record {
        within = omega (arith, chunk_inside);
        wide = a.wide;
        left =
            sym (drop_at row more (record_words n) chunk_length)
            ∙ ap (drop (record_words n)) (sym s ∙ a.left)
            ∙ drop-drop (record_words n) (k * record_words n) ws
            ∙ ap (λ (m : ℕ). drop m ws) (sym (row_next k (record_words n)));
      }

    -- no row is left
    pub chunk_end : length rest < width → length (records_in n ws) ≤ k
    chunk_end h = go (ltb k (length (records_in n ws))) refl
      where
        go : (t : Bool) → ltb k (length (records_in n ws)) ≡ t → length (records_in n ws) ≤ k
        go true e = absurd (omega (arith, h, a.wide, ap length a.left, length-drop (k * record_words n) ws, room_at n ws (records_in n ws) r k (ltb-true k _ e)))
        go false e = ltb-false k _ e
