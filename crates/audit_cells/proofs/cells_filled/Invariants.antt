use Rattle.std.proofs.Common.{◌≡◌, ℕ, ◌*◌, ◌<◌, false, length, get_or, take, drop}
use Rattle.std.specs.Iterator.Adapters.{zip_first, zip_second}
use Rattle.model.specs.Sound.{is_filled}
use Rattle.audit_cells.proofs.cells_filled.Given as goal

abbrev pub invariant-loop-cell : goal.invariant-loop-cell
invariant-loop-cell l = record {
  can_next : (goal.iterator-loop-cell).can_next l.cell-iterator;
  is_finite : (goal.iterator-loop-cell).is_finite l.cell-iterator;
  size : (zip_first l.cell-iterator).size ≡ l.bytes;
  pool : drop (length l.yielded * l.bytes) l.pool ≡ (zip_first l.cell-iterator).rest.now;
  occupied : drop (length l.yielded) l.occupied ≡ (zip_second l.cell-iterator).rest.now;
  upto : (k : ℕ) → k < length l.yielded → get_or l.occupied k false ≡ is_filled (take l.bytes (drop (k * l.bytes) l.pool));
}
