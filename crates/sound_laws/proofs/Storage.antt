-- A sound state's bytes and records' words are what the sweep requires.
use mathlib.Core.Path.{◌≡◌, refl, sym, ap, ◌∙◌, subst}
use mathlib.Core.Bool.{true}
use mathlib.Core.List.{List}
use Prim.Native.Nat.{ℕ, ◌*◌, ◌≤◌}
use native.Mathlib.Nat.{mul-le-mul_right}
use native.Mathlib.Omega.{arith}
use lib.ListN.{length}
use Rattle.model.specs.Measures.{Capacities, Shape, record_words}
use Rattle.model.specs.Sound.{is_sound}
use Rattle.model.specs.State.{State, Storage}
use Rattle.model.specs.Table.{records_part, state_to_words, state_to_bytes, storage_in}
use Rattle.laws.proofs.Fits.{StateFits, state_fits}
use Rattle.laws.proofs.RoundTrip.{records_part_lem}
use Rattle.laws.proofs.Serves.{sound_valid}
use Rattle.laws.specs.Storage.{Exact}
use Rattle.laws.specs.Ranges.{Ranges}
use Rattle.laws.proofs.Ranges.{ranges}
use Rattle.storage.specs.Stored.{Encodes, Stored}
use Rattle.storage.proofs.Read.{storage_read, records_length, cells_length}

module _ (s : Shape) (st : State) (sound : is_sound s st ≡ true) where
  abbrev c : Capacities
  c = s.capacities

  abbrev bytes : ℕ
  bytes = s.measures.block_bytes

  abbrev width : ℕ
  width = record_words s.measures.segment_blocks

  range : Ranges s
  range = ranges s (sound_valid s st sound).range

  -- the records' words of the table
  abbrev pub words_of : List ℕ
  words_of = records_part c (state_to_words s st)

  pub fits : StateFits s st
  fits = state_fits s st (omega (arith, range.measured.some_bytes)) range.measured.most_blocks sound

  pub sound_encodes : Encodes s.measures (state_to_bytes st) words_of st.storage
  unfolding state_to_bytes
  sound_encodes = record {
    cells = record { blocks = fits.cells; joins = refl };
    records = record { sized = fits.records; words = records_part_lem s st fits };
  }

  -- the storage that the bytes and words are read as is the state's
  pub sound_storage : storage_in s.measures (state_to_bytes st) words_of ≡ st.storage
  sound_storage = storage_read s.measures range.measured (state_to_bytes st) words_of st.storage sound_encodes

  pub few_versions : c.versions ≤ 64
  few_versions = range.versions

  pub few_blocks : c.blocks ≤ 1024
  few_blocks = range.blocks

  pub words_length : length words_of ≡ length st.storage.records * width
  words_length = records_length s.measures.segment_blocks words_of st.storage.records sound_encodes.records

  pub sound_stored : Stored s.measures (state_to_bytes st) words_of
  sound_stored =
      let size : length (state_to_bytes st) ≡ c.cells * bytes = cells_length bytes (state_to_bytes st) st.storage.cells sound_encodes.cells ∙ ap (λ (n : ℕ). n * bytes) fits.cell_count in
      let words : length words_of ≡ c.records * width = words_length ∙ ap (λ (n : ℕ). n * width) fits.record_count in
      record {
        measured = range.measured;
        encodes = subst (λ (x : Storage). Encodes s.measures (state_to_bytes st) words_of x) (sym sound_storage) sound_encodes;
        exact = subst (λ (x : Storage). Exact x) (sym sound_storage) (sound_valid s st sound).exact;
        some = let m : 1 * bytes ≤ c.cells * bytes = mul-le-mul_right bytes range.some_cells in omega (arith, size);
        few = let m : c.cells * bytes ≤ 32768 * bytes = mul-le-mul_right bytes range.cells in omega (arith, size);
        short = let m : c.records * width ≤ 4096 * width = mul-le-mul_right width range.records in omega (arith, words);
      }
