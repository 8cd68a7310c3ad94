-- Backup, step 1: the segments of the new image are placed.
use Rattle.std.specs.Prelude.{ℕ, suc, cond, not, List, [], ◌∷◌, ◌++◌, map, length, get_or, set}
use Rattle.std.proofs.Math.Option.{Option, none, some}
use Rattle.std.proofs.lemmas.List.Edits.{sets}
use Rattle.lists.specs.Lists.{every, keep, first_from, all_zero}
use Rattle.model.specs.State.{Block, Pointer, null_pointer, blank_pointer, direct, Position, null_position, blank_position, held, removed, Segment, Storage, Outcome, refused, done}
use Rattle.model.specs.Image.{Era, is_bare}
use Rattle.model.specs.Records.{is_free, equals}
use Rattle.model.specs.Runs.{Run, find_run}

-- the storage after some segments, and their pointers
pub record Placed : Type 0 where
  pub storage : Storage
  pub pointers : List Pointer

-- of a block that is null or blank
unfoldable pub bare_pointer : Block → Pointer
bare_pointer b = cond (all_zero b) null_pointer blank_pointer

unfoldable pub bare_position : Block → Position
bare_position b = cond (all_zero b) null_position blank_position

-- null, blank, or direct to record `k`, at the places from `i`
unfoldable pub pointers_to : Era → ℕ → ℕ → List Block → List Pointer
pointers_to era k i [] = []
pointers_to era k i (b ∷ bs) = cond (is_bare era b) (bare_pointer b) (direct k i) ∷ pointers_to era k (suc i) bs

-- every direct pointer adds 1 to its position's count
abbrev pub one_more : Position → Position
one_more null_position = null_position
one_more blank_position = blank_position
one_more (held c n) = held c (suc n)
one_more removed = removed

-- null, blank, or held with count 1, in consecutive cells from `c`
unfoldable pub new_positions : Era → ℕ → List Block → Segment
new_positions era c [] = []
new_positions era c (b ∷ bs) = cond (is_bare era b) (bare_position b) (held c 1) ∷ new_positions era (cond (is_bare era b) c (suc c)) bs

-- the blocks that go into cells
unfoldable pub stored_blocks : Era → List Block → List Block
stored_blocks era bs = keep (λ b. not (is_bare era b)) bs

-- record `k` is equal to the segment, and serves it
unfoldable pub share : Era → Storage → List Block → ℕ → Placed
share era storage seg k = record {
  storage = record { records = set storage.records k (map one_more (get_or storage.records k [])); cells = storage.cells };
  pointers = pointers_to era k 0 seg;
}

-- the segment takes record `k`, and its blocks, null and blank ones apart, go in order into the run's first cells
unfoldable pub write : Era → Storage → List Block → ℕ → Run → Placed
write era storage seg k run = record {
  storage = record { records = set storage.records k (new_positions era run.start seg); cells = sets storage.cells run.start (stored_blocks era seg) };
  pointers = pointers_to era k 0 seg;
}

unfoldable pub write_run : Era → Storage → List Block → ℕ → Option Run → Outcome Placed
write_run era storage seg k none = refused 16
write_run era storage seg k (some run) = done (write era storage seg k run)

-- 14 before 16
unfoldable pub write_record : Era → Storage → List Block → Option ℕ → Outcome Placed
write_record era storage seg none = refused 14
write_record era storage seg (some k) = write_run era storage seg k (find_run storage (length (stored_blocks era seg)))

-- the record found serves; else the lowest free record is taken
unfoldable pub share_or_write : Era → Storage → List Block → Option ℕ → Outcome Placed
share_or_write era storage seg none = write_record era storage seg (first_from is_free 0 storage.records)
share_or_write era storage seg (some k) = done (share era storage seg k)

-- a segment of null and blank blocks only needs no record; one equal to a whole record uses it, the lowest number if several
unfoldable pub place_segment : Era → Storage → List Block → Outcome Placed
place_segment era storage seg =
    cond (every (is_bare era) seg)
    (done (record { storage = storage; pointers = map bare_pointer seg }))
    (share_or_write era storage seg (first_from (equals era storage seg) 0 storage.records))

unfoldable pub after_some : List Pointer → Outcome Placed → Outcome Placed
after_some ps (refused n) = refused n
after_some ps (done p) = done (record { storage = p.storage; pointers = ps ++ p.pointers })

unfoldable pub place_next : Era → Outcome Placed → List Block → Outcome Placed
place_next era (refused n) seg = refused n
place_next era (done p) seg = after_some p.pointers (place_segment era p.storage seg)

-- segment by segment; the first that cannot be placed refuses
unfoldable pub place_all : Era → Outcome Placed → List (List Block) → Outcome Placed
place_all era p [] = p
place_all era p (seg ∷ segs) = place_all era (place_next era p seg) segs
