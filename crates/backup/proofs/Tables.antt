-- The records of a sound table: lent to the steps, and back.
use mathlib.Core.Path.{◌≡◌, refl, sym, ap, ◌∙◌, subst}
use mathlib.Core.List.{List, [], ◌++◌, map}
use Prim.Native.Nat.{ℕ, ◌*◌, ◌-◌, ◌≤◌}
use native.Mathlib.Omega.{arith}
use lib.ListN.{length, get_or, take, drop}
use borrow.Rule.Slice.PartMut.{mid_of, put_mid}
use Rattle.lists.specs.Rows.{rows}
use Rattle.model.specs.Image.{image_blocks, image_segments, with_blanks}
use Rattle.lists.proofs.Rows.{length_rows}
use Rattle.model.specs.Measures.{Measures, record_words, table_words, records_at}
use Rattle.model.specs.Place.{Placed, place_all}
use Rattle.model.specs.State.{Pointer, Storage, State, Outcome, refused, done}
use Rattle.model.specs.Table.{shape_of, state_in, storage_in, state_to_words, state_to_bytes, record_to_words, word_to_pointer}
use Rattle.laws.specs.Storage.{StorageFits, Suffices}
use Rattle.laws.specs.Stores.{Sound}
use Rattle.laws.proofs.Stores.{records_is, records_put, found, fits, valid, long, header}
use Rattle.laws.proofs.Measures.{sizes}
use Rattle.sound_laws.proofs.Records.{storage_is, stored_read}
use Rattle.place.specs.All.{segments_in, placed_in}
use Rattle.backup_laws.proofs.Storage.{sound_counts}
use Rattle.storage.specs.Stored.{Countable}
use Rattle.storage.proofs.Read.{wide_of}
use Rattle.backup_steps.specs.Limit.{limited}
use Rattle.backup_steps.specs.Steps.{Pointed, StorePre, StoreResult}
use Rattle.backup.specs.Backup.{measures_on, blocks_on, limited_on, StoreInPre, swept_state, StoreInResult}

module _ {pool table : List ℕ} (h : Sound pool table) where
  abbrev st : State
  st = state_in (shape_of table) pool table

  abbrev part : List ℕ
  part = mid_of (records_at (shape_of table).capacities) (length table - records_at (shape_of table).capacities) table

  count : length st.tills ≡ (shape_of table).capacities.tills
  count = (fits h).till_count

  part_is : part ≡ rows record_to_words st.storage.records
  part_is =
      subst (λ (ws : List ℕ). take (length ws - records_at (shape_of table).capacities) (drop (records_at (shape_of table).capacities) ws) ≡ rows record_to_words st.storage.records)
      (found h).words (records_is (shape_of table) st count)

  part_put : (storage : Storage) (ws : List ℕ) → ws ≡ rows record_to_words storage.records
      → put_mid (records_at (shape_of table).capacities) (length table - records_at (shape_of table).capacities) table ws ≡ state_to_words (shape_of table) (record { tills = st.tills; storage = storage })
  part_put storage ws e =
      ap (λ (x : List ℕ). put_mid (records_at (shape_of table).capacities) (length table - records_at (shape_of table).capacities) table x) e
      ∙ subst (λ (l : List ℕ). take (records_at (shape_of table).capacities) l ++ (rows record_to_words storage.records ++ drop (length l - records_at (shape_of table).capacities) (drop (records_at (shape_of table).capacities) l)) ≡ state_to_words (shape_of table) (record { tills = st.tills; storage = storage }))
      (found h).words (records_put (shape_of table) st count storage.records storage.cells)

  storage_back : storage_in (measures_on table) pool part ≡ st.storage
  storage_back = storage_is h (records_at (shape_of table).capacities) refl

  part_length : length part ≡ get_or table 3 0 * record_words (measures_on table).segment_blocks
  unfolding shape_of
  part_length =
      ap length part_is ∙ length_rows record_to_words (record_words (measures_on table).segment_blocks) st.storage.records (wide_of (measures_on table).segment_blocks st.storage.records (fits h).records)
      ∙ ap (λ (n : ℕ). n * record_words (measures_on table).segment_blocks) (fits h).record_count

module _ (m : Measures) (image pool table : List ℕ) (from : ℕ) (words prev : List ℕ) (r : StoreInPre m image pool table from words prev) where
  pub from_in : from ≤ length table
  from_in = go (long r.sound) r.begins
    where
      go : length table ≡ table_words (shape_of table) → from ≡ records_at (shape_of table).capacities → from ≤ length table
      go l b = unfold table_words in omega (arith, l, b)

  -- where the records begin, and with the table's measures
  readied_on : StorePre (measures_on table) image pool (part r.sound) words prev
  readied_on = record {
    ready = record {
      most = r.short;
      stored = stored_read r.sound (records_at (shape_of table).capacities) refl (measures_on table) refl;
      counts =
          unfold storage_in in subst (λ (x : Storage). Countable 2147483648 x.records) (sym (storage_back r.sound)) (sound_counts (shape_of table) (st r.sound) (found r.sound).sound);
      room = r.room ∙ ap (λ (n : Measures). segments_in n image * n.segment_blocks) r.measures;
    };
    fits = subst (λ (x : Storage). StorageFits (measures_on table) x) (sym (storage_back r.sound)) (valid r.sound).fits;
    pointers = subst (λ (l : ℕ). Pointed (measures_on table).segment_blocks l prev) (sym (part_length r.sound)) r.pointers;
    suffices = unfold storage_in in subst (λ (x : Storage). Suffices x.records (map word_to_pointer prev)) (sym (storage_back r.sound)) r.suffices;
  }

  pub readied : StorePre m image pool (mid_of from (length table - from) table) words prev
  readied =
      subst (λ (n : Measures). StorePre n image pool (mid_of from (length table - from) table) words prev) (sym r.measures)
      (subst (λ (k : ℕ). StorePre (measures_on table) image pool (mid_of k (length table - k) table) words prev) (sym r.begins) readied_on)

  -- the steps' result, on the table
  pub done_on : (others most : ℕ) (ps : List Pointer) (n : ℕ) (pool' ws' words' prev' : List ℕ)
      → StoreResult m image ps (limited others most m (image_blocks m.block_bytes image) ps (placed_in m image pool (mid_of from (length table - from) table))) n pool (mid_of from (length table - from) table) pool' ws' words' prev'
      → StoreInResult image ps pool table (limited_on others most pool table image ps) n pool' (put_mid from (length table - from) table ws') words' prev'
  done_on others most ps n pool' ws' words' prev' d =
      subst (λ (k : ℕ). StoreResult (measures_on table) image ps (limited others most (measures_on table) (blocks_on table image) ps (placed_in (measures_on table) image pool (mid_of k (length table - k) table))) n pool (mid_of k (length table - k) table) pool' ws' words' prev'
      → StoreInResult image ps pool table (limited_on others most pool table image ps) n pool' (put_mid k (length table - k) table ws') words' prev')
      (sym r.begins)
      (λ q. go (limited_on others most pool table image ps)
      (subst (λ (x : Storage). StoreResult (measures_on table) image ps (limited others most (measures_on table) (blocks_on table image) ps (place_all with_blanks (done (record { storage = x; pointers = [] })) (image_segments (measures_on table).block_bytes (measures_on table).segment_blocks image))) n pool (part r.sound) pool' ws' words' prev') (storage_back r.sound) q))
      (subst (λ (x : Measures). StoreResult x image ps (limited others most x (image_blocks x.block_bytes image) ps (placed_in x image pool (mid_of from (length table - from) table))) n pool (mid_of from (length table - from) table) pool' ws' words' prev') r.measures d)
    where
      go : (o : Outcome Placed) → StoreResult (measures_on table) image ps o n pool (part r.sound) pool' ws' words' prev'
          → StoreInResult image ps pool table o n pool' (put_mid (records_at (shape_of table).capacities) (length table - records_at (shape_of table).capacities) table ws') words' prev'
      go (refused k) q = (q.0, q.1, q.2, part_put r.sound (st r.sound).storage ws' (q.3 ∙ part_is r.sound) ∙ (found r.sound).words)
      go (done p) q = (
        q.0,
        record {
          bytes = unfold state_to_bytes in q.1.encodes.cells.joins;
          tables = part_put r.sound (swept_state (measures_on table) (st r.sound) (blocks_on table image) ps p.storage).storage ws' q.1.encodes.records.words;
          turned = q.1.words;
          placed = q.2;
        },
      )

  pub from_small : from ≤ 1051720
  unfolding shape_of
  from_small =
      let hd = header r.sound in
      omega (arith, r.begins, (sizes (get_or table 0 0) (get_or table 1 0) (get_or table 2 0) hd.tills hd.versions hd.blocks).1)
