-- A walk along the records' words, row by row: where it stands, and the row there.
use mathlib.Core.Path.{◌≡◌, sym, ◌∙◌}
use mathlib.Core.List.{List, []}
use Prim.Native.Nat.{ℕ, ◌+◌, ◌-◌, ◌*◌, ◌/◌, ◌≤◌, ◌<◌}
use native.Mathlib.Nat.{zero-mul}
use native.Mathlib.Omega.{arith}
use lib.ListN.{length, get_or, take, drop}
use Rattle.lists.proofs.Places.{row_next, rows_few}
use Rattle.model.specs.Measures.{record_words}
use Rattle.model.specs.Table.{record_to_words, records_in}
use Rattle.storage.specs.Stored.{EncodesRecords}
use Rattle.storage.proofs.Read.{count_at, part_length, records_count, room_at, row_part_lem}

-- at record k of all
pub record AtRow (n : ℕ) (ws : List ℕ) (width count at k : ℕ) : Type 0 where
  pub within : k ≤ count
  pub all : count ≡ length (records_in n ws)
  pub wide : width ≡ record_words n
  pub place : at ≡ k * record_words n

pub at_start : (n : ℕ) (ws : List ℕ) (width count : ℕ) → width ≡ record_words n → count ≡ length ws / record_words n → AtRow n ws width count 0 0
at_start n ws width count e c = record { within = omega arith; all = c ∙ sym (records_count n ws); wide = e; place = sym (zero-mul (record_words n)) }

module _ {n : ℕ} {ws : List ℕ} {width count at k : ℕ} (a : AtRow n ws width count at k) (h : k < count) (r : EncodesRecords n ws (records_in n ws)) where
  inside : k < length (records_in n ws)
  inside = omega (arith, a.all)

  pub at_next : AtRow n ws width count (at + width) (k + 1)
  at_next = record { within = omega arith; all = a.all; wide = a.wide; place = omega (arith, a.wide, a.place, row_next k (record_words n)) }

  pub at_room : at + width ≤ length ws
  at_room = omega (arith, a.wide, a.place, room_at n ws (records_in n ws) r k inside)

  pub at_sized : length (get_or (records_in n ws) k []) ≡ n
  at_sized = count_at n ws (records_in n ws) r k inside

  pub at_row : take (at + width - at) (drop at ws) ≡ record_to_words (get_or (records_in n ws) k [])
  at_row = row_part_lem n ws (records_in n ws) r k inside at width a.place a.wide

  pub at_length : length (take (at + width - at) (drop at ws)) ≡ record_words n
  at_length = part_length n ws (records_in n ws) r k inside at width a.place a.wide

pub at_few : {n : ℕ} {ws : List ℕ} {width count at k : ℕ} → AtRow n ws width count at k → length ws ≤ 4096 * record_words n → count ≤ 4096
at_few {n} {ws} a h = omega (arith, a.all, records_count n ws, rows_few (length ws) (record_words n) (omega arith) 4096 h)
