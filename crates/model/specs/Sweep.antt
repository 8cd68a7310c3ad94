-- Counts rise (retire) and fall (backup, step 2, and retire), then step 3: positions whose count is 0 are removed.
use Rattle.std.specs.Prelude.{ℕ, zero, suc, ◌-◌, ◌*◌, pred, Bool, true, false, cond, List, [], ◌∷◌, map, length, get_or, set, eqb, ltb}
use Rattle.std.proofs.Math.Option.{Option, none, some}
use Rattle.std.proofs.lemmas.List.Edits.{sets}
use Rattle.lists.specs.Lists.{keep, count}
use Rattle.model.specs.Measures.{Measures}
use Rattle.model.specs.State.{Block, Pointer, null_pointer, blank_pointer, direct, indirect, Position, null_position, blank_position, held, removed, Segment, Storage}
use Rattle.model.specs.Image.{zero_block}
use Rattle.model.specs.Records.{free_segment, is_held, cells_of, cell_at}
use Rattle.model.specs.Runs.{Run, find_run}
use Rattle.model.specs.Place.{one_more}

-- ---- counts: each direct pointer of a list changes its position's

unfoldable pub change_at : (Position → Position) → List Segment → Pointer → List Segment
change_at f segs null_pointer = segs
change_at f segs blank_pointer = segs
change_at f segs (direct k i) = set segs k (set (get_or segs k []) i (f (get_or (get_or segs k []) i null_position)))
change_at f segs (indirect n) = segs

unfoldable pub change_all : (Position → Position) → List Segment → List Pointer → List Segment
change_all f segs [] = segs
change_all f segs (p ∷ ps) = change_all f (change_at f segs p) ps

abbrev pub one_less : Position → Position
one_less null_position = null_position
one_less blank_position = blank_position
one_less (held c n) = held c (pred n)
one_less removed = removed

-- each lowers its position's count by 1
unfoldable pub release : Storage → List Pointer → Storage
release storage ps = record { records = change_all one_less storage.records ps; cells = storage.cells }

-- each adds 1 to its position's count
unfoldable pub claim : Storage → List Pointer → Storage
claim storage ps = record { records = change_all one_more storage.records ps; cells = storage.cells }

-- ---- the positions of one record

-- a held position is unreferenced if its count is 0, and then it goes; else it stays
abbrev pub is_unreferenced : Position → Bool
is_unreferenced null_position = false
is_unreferenced blank_position = false
is_unreferenced (held c zero) = true
is_unreferenced (held c (suc n)) = false
is_unreferenced removed = false

abbrev pub is_referenced : Position → Bool
is_referenced null_position = false
is_referenced blank_position = false
is_referenced (held c zero) = false
is_referenced (held c (suc n)) = true
is_referenced removed = false

abbrev pub struck : Position → Position
struck null_position = null_position
struck blank_position = blank_position
struck (held c zero) = removed
struck (held c (suc n)) = held c (suc n)
struck removed = removed

-- the positions that stay, in consecutive cells from `c`; the others struck
unfoldable pub moved : ℕ → Segment → Segment
moved c [] = []
moved c (null_position ∷ ps) = null_position ∷ moved c ps
moved c (blank_position ∷ ps) = blank_position ∷ moved c ps
moved c (held b zero ∷ ps) = removed ∷ moved c ps
moved c (held b (suc n) ∷ ps) = held c (suc n) ∷ moved (suc c) ps
moved c (removed ∷ ps) = removed ∷ moved c ps

unfoldable pub clear_cells : ℕ → List Block → List ℕ → List Block
clear_cells bytes cells [] = cells
clear_cells bytes cells (c ∷ cs) = clear_cells bytes (set cells c (zero_block bytes)) cs

-- ---- one record: record `k`, whose positions are `seg`

-- all of it goes
unfoldable pub free_record : Measures → Storage → ℕ → Segment → Storage
free_record m storage k seg = record {
  records = set storage.records k (free_segment m.segment_blocks);
  cells = clear_cells m.block_bytes storage.cells (cells_of seg);
}

-- only the freed cells are cleared
unfoldable pub strike_only : Measures → Storage → ℕ → Segment → Storage
strike_only m storage k seg = record {
  records = set storage.records k (map struck seg);
  cells = clear_cells m.block_bytes storage.cells (cells_of (keep is_unreferenced seg));
}

-- the blocks that stay are copied, in order, into the run's first cells, and all old cells are cleared; with no run only the freed ones
unfoldable pub compact : Measures → Storage → ℕ → Segment → Option Run → Storage
compact m storage k seg none = strike_only m storage k seg
compact m storage k seg (some run) = record {
  records = set storage.records k (moved run.start seg);
  cells = clear_cells m.block_bytes (sets storage.cells run.start (map (cell_at storage) (cells_of (keep is_referenced seg)))) (cells_of seg);
}

-- Of its positions `r` are to go and `s` are held. At 20 percent 100 × r < 20 × s is 01's 5 × r < s. The record's old cells still count as occupied in
-- `find_run`, which sees the storage as it is before the removal.
unfoldable pub remove_from : Measures → Storage → ℕ → Segment → ℕ → ℕ → Storage
remove_from m storage k seg r s =
    cond (eqb r 0) storage
    (cond (eqb r s) (free_record m storage k seg)
    (cond (ltb (100 * r) (m.rebuild_percent * s)) (strike_only m storage k seg)
    (compact m storage k seg (find_run storage (s - r)))))

unfoldable pub sweep_record : Measures → Storage → ℕ → Storage
sweep_record m storage k =
    remove_from m storage k (get_or storage.records k []) (count is_unreferenced (get_or storage.records k [])) (count is_held (get_or storage.records k []))

-- ---- record by record in rising number: `n` records from number `k`

unfoldable pub sweep_from : Measures → Storage → ℕ → ℕ → Storage
sweep_from m storage k zero = storage
sweep_from m storage k (suc n) = sweep_from m (sweep_record m storage k) (suc k) n

unfoldable pub sweep : Measures → Storage → Storage
sweep m storage = sweep_from m storage 0 (length storage.records)
