-- After placing: the buffers hold what turning and the sweep require.
use mathlib.Core.Path.{◌≡◌, sym, ap, ◌∙◌, subst}
use mathlib.Core.List.{List, [], ◌∷◌}
use mathlib.Core.Option.{Option, none, some}
use Prim.Native.Nat.{ℕ, ◌*◌, ◌<◌}
use native.Mathlib.Omega.{arith}
use lib.ListN.{length}
use lib.Dec.{lit<}
use Rattle.lists.specs.Lists.{every, first_from}
use Rattle.lists.specs.Rows.{joined}
use Rattle.lists.proofs.Tests.{by_test}
use Rattle.model.specs.Image.{image_segments, is_bare, with_blanks}
use Rattle.model.specs.Measures.{Measures, record_words}
use Rattle.model.specs.Place.{Placed, stored_blocks, write_run, write_record, share_or_write, place_segment, after_some, place_next, place_all}
use Rattle.model.specs.Records.{is_free, equals}
use Rattle.model.specs.Runs.{Run, find_run}
use Rattle.model.specs.State.{Block, Pointer, Storage, Outcome, refused, done}
use Rattle.model.specs.Table.{storage_in}
use Rattle.laws.specs.Storage.{StorageFits, Suffices}
use Rattle.laws.proofs.Image.{segments_ok}
use Rattle.laws.proofs.Remaining.{placed_suffices}
use Rattle.laws.proofs.Place.{PlacedOk}
use Rattle.laws.proofs.Segments.{PlaceOk, place_ok}
use Rattle.place.specs.All.{placed_in}
use Rattle.storage.specs.Stored.{Encodes, Stored}
use Rattle.storage.proofs.Inside.{stored_cells, stored_words}
use Rattle.storage.proofs.Read.{records_length, cells_length, storage_read, stored_again}

module _ (m : Measures) (image pool ws : List ℕ) (st : Stored m pool ws) (f : StorageFits m (storage_in m pool ws)) (p : Placed) (e : placed_in m image pool ws ≡ done p) where
  placed_ok : PlacedOk with_blanks m (storage_in m pool ws) p.storage (joined (image_segments m.block_bytes m.segment_blocks image)) p.pointers
  placed_ok =
      subst (PlaceOk with_blanks m (storage_in m pool ws) (joined (image_segments m.block_bytes m.segment_blocks image))) e
      (place_ok with_blanks m (storage_in m pool ws) (image_segments m.block_bytes m.segment_blocks image) f st.exact
      (segments_ok m (record { bytes = omega (arith, st.measured.some_bytes); blocks = omega (arith, st.measured.some_blocks) }) image))

  module _ (pool' ws' : List ℕ) (d : Encodes m pool' ws' p.storage) where
    -- as many words and bytes as before
    pub placed_words : length ws' ≡ length ws
    unfolding storage_in
    placed_words =
        records_length m.segment_blocks ws' p.storage.records d.records ∙ ap (λ (n : ℕ). n * record_words m.segment_blocks) placed_ok.record_count ∙ sym (stored_words st)

    placed_bytes : length pool' ≡ length pool
    unfolding storage_in
    placed_bytes = cells_length m.block_bytes pool' p.storage.cells d.cells ∙ ap (λ (n : ℕ). n * m.block_bytes) placed_ok.cell_count ∙ sym (stored_cells st)

    pub placed_stored : Stored m pool' ws'
    placed_stored = stored_again m pool ws pool' ws' p.storage st d placed_ok.exact placed_bytes placed_words

    pub placed_storage : storage_in m pool' ws' ≡ p.storage
    placed_storage = storage_read m st.measured pool' ws' p.storage d

  -- the counts that sufficed for pointers to be let go still do
  pub placed_enough : (ps : List Pointer) → Suffices (storage_in m pool ws).records ps → Suffices p.storage.records ps
  placed_enough ps h =
      placed_suffices with_blanks m (storage_in m pool ws) p.storage (joined (image_segments m.block_bytes m.segment_blocks image)) p.pointers ps placed_ok h

-- ---- a refusal has a number

abbrev Positive : Outcome Placed → Type 0
Positive (refused n) = 0 < n
Positive (done p) = Unit {0}

run_positive : (a : Storage) (seg : List Block) (k : ℕ) (o : Option Run) → Positive (write_run with_blanks a seg k o)
unfolding write_run
run_positive a seg k none = lit< tt
run_positive a seg k (some r) = tt

record_positive : (a : Storage) (seg : List Block) (o : Option ℕ) → Positive (write_record with_blanks a seg o)
unfolding write_record
record_positive a seg none = lit< tt
record_positive a seg (some k) = run_positive a seg k (find_run a (length (stored_blocks with_blanks seg)))

either_positive : (a : Storage) (seg : List Block) (o : Option ℕ) → Positive (share_or_write with_blanks a seg o)
unfolding share_or_write
either_positive a seg none = record_positive a seg (first_from is_free 0 a.records)
either_positive a seg (some k) = tt

segment_positive : (a : Storage) (seg : List Block) → Positive (place_segment with_blanks a seg)
unfolding place_segment
segment_positive a seg = by_test Positive (every (is_bare with_blanks) seg) (λ e. tt) (λ e. either_positive a seg (first_from (equals with_blanks a seg) 0 a.records))

next_positive : (o : Outcome Placed) (seg : List Block) → Positive o → Positive (place_next with_blanks o seg)
unfolding place_next
next_positive (refused n) seg h = h
next_positive (done p) seg h = go (place_segment with_blanks p.storage seg) (segment_positive p.storage seg)
  where
    go : (o : Outcome Placed) → Positive o → Positive (after_some p.pointers o)
    go (refused n) h = unfold after_some in h
    go (done q) h = unfold after_some in tt

all_positive : (o : Outcome Placed) (segs : List (List Block)) → Positive o → Positive (place_all with_blanks o segs)
unfolding place_all
all_positive o [] h = h
all_positive o (seg ∷ segs) h = all_positive (place_next with_blanks o seg) segs (next_positive o seg h)

pub refusal_positive : (a : Storage) (segs : List (List Block)) (n : ℕ) → place_all with_blanks (done (record { storage = a; pointers = [] })) segs ≡ refused n → 0 < n
refusal_positive a segs n e = subst Positive e (all_positive (done (record { storage = a; pointers = [] })) segs tt)
