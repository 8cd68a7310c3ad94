-- A record as the code has it, and the positions that it stands for.
use Rattle.std.specs.Prelude.{◌≡◌, List, map, ℕ, ◌+◌, ◌≤◌, length, get_or, take, drop}
use Rattle.lists.specs.Masks.{mask_of}
use Rattle.lists.specs.Rows.{fill}
use Rattle.model.specs.Records.{is_held, is_removed, is_blank_position, cell_of, count_of}
use Rattle.model.specs.State.{Segment}
use Rattle.model.specs.Table.{positions_in}
use Rattle.records.specs.declared.Record.{Record}

-- the record of a list of positions, with zeros in the room that is left
unfoldable pub record_of : Segment → Record
record_of seg = record {
  held = mask_of is_held seg;
  removed = mask_of is_removed seg;
  blank = mask_of is_blank_position seg;
  used = length seg;
  cells = fill 16 (map cell_of seg);
  counts = fill 16 (map count_of seg);
}

-- the positions that a record stands for
unfoldable pub positions : Record → Segment
positions r = positions_in r.held r.removed r.blank (take r.used r.cells) (take r.used r.counts)

-- the record of a row of words: it stands for the positions that `segment_in n` reads there
unfoldable pub record_in : ℕ → List ℕ → Record
record_in n row = record {
  held = get_or row 0 0;
  removed = get_or row 1 0;
  blank = get_or row 2 0;
  used = n;
  cells = fill 16 (take n (drop 3 row));
  counts = fill 16 (take n (drop (3 + n) row));
}

-- the record is that of at most sixteen positions: no other bit is set, and what is not held has cell 0 and count 0
pub record Formed (r : Record) : Type 0 where
  pub few : length (positions r) ≤ 16
  pub same : r ≡ record_of (positions r)
