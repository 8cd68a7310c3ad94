-- Laws of where the tills and the records of a state lie among its words; and of a sound store, read from its buffers.
use mathlib.Core.Path.{◌≡◌, refl, sym, ap, ◌∙◌}
use mathlib.Core.Bool.{Bool, true, false, cond, false≢true}
use mathlib.Core.Logic.{◌⊎◌, inl, inr}
use mathlib.Core.List.{List, [], ◌∷◌, ◌++◌, append_assoc}
use mathlib.Core.Option.{none, some}
use Prim.Native.Nat.{ℕ, ◌+◌, ◌*◌, ◌-◌, ◌≤◌, ◌<◌}
use native.Mathlib.Omega.{arith}
use lib.ListN.{length, get_or, set, take, drop, length-append, length-take}
use Rattle.lists.specs.Lists.{all_of, same_numbers, is_some}
use Rattle.lists.specs.Rows.{rows}
use Rattle.lists.proofs.Rows.{wide_all, length_rows}
use Rattle.lists.proofs.Slices.{tail_is, tail_put}
use Rattle.lists.proofs.Parts.{Part, within, row_part, lent, returned}
use Rattle.model.specs.Measures.{Shape, till_words, records_at, table_words}
use Rattle.model.specs.State.{Block, Segment, Till, State}
use Rattle.model.specs.Table.{record_to_words, till_to_words, header_to_words, state_to_words, shape_of, state_in}
use Rattle.model.specs.Sound.{is_sound, if_sound, has_lengths, store_as, store_of}
use Rattle.model.specs.Calls.{empty_till, till_of}
use Rattle.laws.specs.Ranges.{Ranges}
use Rattle.laws.specs.Stores.{till_at, store_read, Sound, HeaderRanges}
use Rattle.laws.proofs.Measures.{sizes}
use Rattle.laws.proofs.Ranges.{ranges}
use Rattle.laws.proofs.Fits.{Fit, range_fit, StateFits, state_fits}
use Rattle.laws.proofs.RoundTrip.{length_till, table_length_lem, Found, store_found}
use Rattle.laws.proofs.Serves.{Valid, sound_valid}

-- ---- parts of the table

module _ (s : Shape) (st : State) where
  tills_of : Part (state_to_words s) (rows (till_to_words s.capacities.versions s.capacities.blocks)) st
  unfolding state_to_words
  tills_of = record {
    get = st.tills;
    put = λ ts. record { tills = ts; storage = st.storage };
    before = header_to_words s;
    after = rows record_to_words st.storage.records;
    same = refl;
    words = λ ts n. refl;
  }

  tills_front : (ts : List Till) → length (header_to_words s ++ rows (till_to_words s.capacities.versions s.capacities.blocks) ts) ≡ 8 + length ts * till_words s.capacities.versions s.capacities.blocks
  unfolding header_to_words
  tills_front ts =
      omega (
        arith,
        length-append (header_to_words s) (rows (till_to_words s.capacities.versions s.capacities.blocks) ts),
        length_rows (till_to_words s.capacities.versions s.capacities.blocks) (till_words s.capacities.versions s.capacities.blocks) ts
            (wide_all (till_to_words s.capacities.versions s.capacities.blocks) (till_words s.capacities.versions s.capacities.blocks) (length_till s.capacities.versions s.capacities.blocks) ts),
      )

  -- one till's
  module _ (t : ℕ) (h : t < length st.tills) where
    of_till : Part (state_to_words s) (till_to_words s.capacities.versions s.capacities.blocks) st
    unfolding tills_of
    of_till = within tills_of (row_part (till_to_words s.capacities.versions s.capacities.blocks) empty_till st.tills t h)

    front : length of_till.before ≡ till_at s t
    unfolding of_till tills_of
    front =
        let n : length (take t st.tills) ≡ t = omega (arith, length-take t st.tills) in
        tills_front (take t st.tills) ∙ ap (till_at s) n

    pub till_is : take (till_words s.capacities.versions s.capacities.blocks) (drop (till_at s t) (state_to_words s st))
        ≡ till_to_words s.capacities.versions s.capacities.blocks (till_of st t)
    unfolding of_till tills_of till_of
    till_is = lent of_till (state_to_words s st) refl (till_at s t) _ front (length_till _ _ (get_or st.tills t empty_till))

    pub till_put : (till : Till)
        → take (till_at s t) (state_to_words s st) ++ (till_to_words s.capacities.versions s.capacities.blocks till ++ drop (till_words s.capacities.versions s.capacities.blocks) (drop (till_at s t) (state_to_words s st)))
        ≡ state_to_words s (record { tills = set st.tills t till; storage = st.storage })
    unfolding of_till tills_of
    till_put till = returned of_till (state_to_words s st) refl (till_at s t) _ front (length_till _ _ (get_or st.tills t empty_till)) till (length_till _ _ till)

  -- the records', which go to the end
  module _ (n : length st.tills ≡ s.capacities.tills) where
    words_split : (rs : List Segment) (cells : List Block) → state_to_words s (record { tills = st.tills; storage = record { records = rs; cells = cells } })
        ≡ (header_to_words s ++ rows (till_to_words s.capacities.versions s.capacities.blocks) st.tills) ++ rows record_to_words rs
    unfolding state_to_words
    words_split rs cells = sym (append_assoc (header_to_words s) (rows (till_to_words s.capacities.versions s.capacities.blocks) st.tills) (rows record_to_words rs))

    records_front : length (header_to_words s ++ rows (till_to_words s.capacities.versions s.capacities.blocks) st.tills) ≡ (records_at s.capacities)
    records_front = tills_front st.tills ∙ ap (λ (k : ℕ). 8 + k * till_words s.capacities.versions s.capacities.blocks) n

    pub records_is : take (length (state_to_words s st) - (records_at s.capacities)) (drop (records_at s.capacities) (state_to_words s st)) ≡ rows record_to_words st.storage.records
    records_is = tail_is (header_to_words s ++ rows (till_to_words s.capacities.versions s.capacities.blocks) st.tills) (rows record_to_words st.storage.records) (state_to_words s st) (records_at s.capacities) (words_split st.storage.records st.storage.cells) records_front

    pub records_put : (rs : List Segment) (cells : List Block)
        → take (records_at s.capacities) (state_to_words s st) ++ (rows record_to_words rs ++ drop (length (state_to_words s st) - (records_at s.capacities)) (drop (records_at s.capacities) (state_to_words s st)))
        ≡ state_to_words s (record { tills = st.tills; storage = record { records = rs; cells = cells } })
    records_put rs cells =
        tail_put (header_to_words s ++ rows (till_to_words s.capacities.versions s.capacities.blocks) st.tills) (rows record_to_words st.storage.records) (state_to_words s st) (records_at s.capacities) (words_split st.storage.records st.storage.cells) records_front (rows record_to_words rs)
        ∙ sym (words_split rs cells)

-- ---- a sound store

module _ (pool table : List ℕ) where
  pub read_or_none : store_of pool table ≡ none ⊎ store_of pool table ≡ some (store_read pool table)
  unfolding store_of store_as if_sound
  read_or_none = go (has_lengths (shape_of table) pool table) (all_of (same_numbers (state_to_words (shape_of table) (state_in (shape_of table) pool table)) table ∷ is_sound (shape_of table) (state_in (shape_of table) pool table) ∷ []))
    where
      go : (a b : Bool) → cond a (cond b (some (store_read pool table)) none) none ≡ none ⊎ cond a (cond b (some (store_read pool table)) none) none ≡ some (store_read pool table)
      go true true = inr refl
      go true false = inl refl
      go false b = inl refl

  pub sound_if : true ≡ is_some (store_of pool table) → Sound pool table
  unfolding is_some
  sound_if h = go read_or_none
    where
      go : store_of pool table ≡ none ⊎ store_of pool table ≡ some (store_read pool table) → Sound pool table
      go (inl e) = absurd (false≢true (sym (h ∙ ap is_some e)))
      go (inr e) = record { is = e }

  pub none_if : false ≡ is_some (store_of pool table) → store_of pool table ≡ none
  unfolding is_some
  none_if h = go read_or_none
    where
      go : store_of pool table ≡ none ⊎ store_of pool table ≡ some (store_read pool table) → store_of pool table ≡ none
      go (inl e) = e
      go (inr e) = absurd (false≢true (h ∙ ap is_some e))

-- a header whose capacities are in range
pub header_ranges : (table : List ℕ) → Ranges (shape_of table) → 8 ≤ length table → HeaderRanges table
unfolding shape_of
header_ranges table r e = record {
  eight = e;
  tills = r.tills;
  versions = r.versions;
  blocks = r.blocks;
  records = r.records;
  cells = r.cells;
  measured = r.measured;
  image = r.image;
}

module _ {pool table : List ℕ} (h : Sound pool table) where
  pub found : Found pool table (store_read pool table)
  found = store_found pool table (store_read pool table) h.is

  pub valid : Valid (shape_of table) (state_in (shape_of table) pool table)
  valid = sound_valid (shape_of table) (state_in (shape_of table) pool table) found.sound

  pub fit : Fit (shape_of table)
  fit = range_fit (shape_of table) valid.range

  pub fits : StateFits (shape_of table) (state_in (shape_of table) pool table)
  fits = state_fits (shape_of table) (state_in (shape_of table) pool table) fit.proper.bytes fit.most found.sound

  pub long : length table ≡ table_words (shape_of table)
  long = ap length (sym found.words) ∙ table_length_lem (shape_of table) (state_in (shape_of table) pool table) fits

  pub header : HeaderRanges table
  unfolding table_words
  header = header_ranges table (ranges (shape_of table) valid.range) (omega (arith, long))

  -- where the records' words begin, there is room
  pub records_room : (at : ℕ) → at ≡ records_at (shape_of table).capacities → (at ≤ length table) × (at ≤ 1051720)
  unfolding shape_of table_words
  records_room at e =
      let (a, b) = sizes (get_or table 0 0) (get_or table 1 0) (get_or table 2 0) header.tills header.versions header.blocks in
      (omega (arith, e, long), omega (arith, e, b))
