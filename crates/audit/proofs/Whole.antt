-- What the checks ask of the words behind the header, and of the pool, is that they are a sound store; for any shape whose measures code can have.
use mathlib.Core.Path.{◌≡◌, refl, sym, ap, ap₂, ◌∙◌}
use mathlib.Core.Bool.{Bool, true, false, cond}
use mathlib.Core.List.{List, [], ◌∷◌, ◌++◌, map, map-map}
use mathlib.Core.Option.{Option, none, some}
use Prim.Native.Nat.{ℕ, ◌+◌, ◌*◌, ◌/◌, ◌≤◌, ◌<◌}
use native.Mathlib.Omega.{arith}
use borrow.Author.Tests.{eqb-true, eq-eqb}
use lib.Dec.{eqb}
use lib.ListN.{length, take, drop, length-drop, length-map, take-append-drop}
use lib.Seq.{take_at, drop_at, drop-drop, take_all, length-take-le}
use Rattle.lists.specs.Lists.{every, count, same_numbers, is_some}
use Rattle.lists.specs.Rows.{joined, rows, parts, chunks}
use Rattle.lists.specs.Each.{Each}
use Rattle.lists.proofs.Checkers.{clash}
use Rattle.lists.proofs.Tests.{clause, all_true}
use Rattle.lists.proofs.Each.{each_all, each_weaken, each_both, each_map, each_every, every_each}
use Rattle.lists.proofs.Same.{same_refl, same_eq}
use Rattle.lists.proofs.Rows.{length_rows, wide_all}
use Rattle.lists.proofs.Cuts.{length_parts, each_part, part_each, chunks_parts, rows_chunks}
use Rattle.lists.proofs.Places.{rows_few}
use Rattle.model.specs.Measures.{Shape, in_range, till_words, record_words, records_at, table_words, pool_bytes}
use Rattle.model.specs.State.{Block, Pointer, Storage, Version, Till, State, Segment}
use Rattle.model.specs.Table.{header_to_words, record_to_words, till_to_words, state_to_words, segment_in, records_in, cells_in, storage_in, till_in, tills_in, tills_part, records_part, state_in}
use Rattle.model.specs.Sound.{is_shaped, is_free_or_holds, is_till, leads_to, all_pointers, all_counted, is_sound, if_sound, has_lengths, store_as}
use Rattle.laws.specs.Ranges.{Measured}
use Rattle.laws.proofs.RoundTrip.{length_till, length_record}
use Rattle.laws.proofs.Ranges.{ranges}
use Rattle.audit_words.specs.Words.{RecordForm}
use Rattle.lists.proofs.Answers.{every_map}
use Rattle.audit_words.proofs.Positions.{segment_long}
use Rattle.audit_words.proofs.Records.{IsRecordRow, record_canonical, canonical_record}
use Rattle.audit_cells.specs.Cells.{CellsSound}
use Rattle.audit_counts.specs.Counters.{count_to}
use Rattle.audit_counts.proofs.Pointers.{rows_count}
use Rattle.audit_counts.proofs.Counts.{counts_sound, sound_counts}
use Rattle.audit_tills.specs.Sound.{till_pointers, tills_pointers, TillSound}
use Rattle.audit.specs.Sound.{Body}
use Rattle.lists.proofs.Filled.{rows_fixed, parts_wide, with_long}
use Rattle.audit.proofs.Tills.{TillFine, till_fine, fine_till, till_count_lem}

-- ---- the answer

some_of {ℓ} : {A : Type ℓ} (a b : Bool) (x : A) → a ≡ true → b ≡ true → is_some (cond a (cond b (some x) none) none) ≡ true
unfolding is_some
some_of a b x e f = rw (e, f)

of_some {ℓ} : {A : Type ℓ} (a b : Bool) (x : A) → is_some (cond a (cond b (some x) none) none) ≡ true → (a ≡ true) × (b ≡ true)
unfolding is_some
of_some true true x h = (refl, refl)
of_some true false x h = absurd (clash refl h)
of_some false b x h = absurd (clash refl h)

first_of {ℓ} : {A : Type ℓ} (a : Bool) (o : Option A) → is_some (cond a o none) ≡ true → a ≡ true
unfolding is_some
first_of true o h = refl
first_of false o h = absurd (clash refl h)

-- ---- the whole, of a shape whose measures and lengths are in order

module _ (s : Shape) (ok : Measured s.measures) (pool ws : List ℕ) (h : has_lengths s pool ws ≡ true) where
  abbrev nt : ℕ
  nt = s.capacities.tills

  abbrev nv : ℕ
  nv = s.capacities.versions

  abbrev nb : ℕ
  nb = s.capacities.blocks

  abbrev nr : ℕ
  nr = s.capacities.records

  abbrev nc : ℕ
  nc = s.capacities.cells

  abbrev bytes : ℕ
  bytes = s.measures.block_bytes

  abbrev n : ℕ
  n = s.measures.segment_blocks

  abbrev tw : ℕ
  tw = till_words nv nb

  abbrev sw : ℕ
  sw = record_words n

  abbrev tills : List ℕ
  tills = tills_part s.capacities ws

  abbrev records : List ℕ
  records = records_part s.capacities ws

  abbrev storage : Storage
  storage = storage_in s.measures pool records

  abbrev state : State
  state = state_in s pool ws

  in_range_lem : in_range s ≡ true
  unfolding has_lengths
  in_range_lem = clause _ 0 h

  few_versions : nv ≤ 64
  few_versions = (ranges s in_range_lem).versions

  few_blocks : nb ≤ 1024
  few_blocks = (ranges s in_range_lem).blocks

  few_records : nr ≤ 4096
  few_records = (ranges s in_range_lem).records

  pool_long : length pool ≡ nc * bytes
  unfolding has_lengths pool_bytes
  pool_long = eqb-true _ _ (clause _ 1 h)

  table_long : length ws ≡ records_at s.capacities + nr * sw
  unfolding has_lengths table_words
  table_long = eqb-true _ _ (clause _ 2 h)

  some_bytes : 0 < bytes
  some_bytes = omega (arith, ok.some_bytes)

  tills_long : length tills ≡ nt * tw
  tills_long = length-take-le (nt * tw) (drop 8 ws) (omega (arith, length-drop 8 ws, table_long))

  records_long : length records ≡ nr * sw
  records_long = omega (arith, length-drop (8 + nt * tw) ws, table_long)

  -- ---- words

  Tilled : List ℕ → Type 0
  Tilled row = till_to_words nv nb (till_in bytes nv nb row) ≡ row

  Recorded : List ℕ → Type 0
  Recorded row = record_to_words (segment_in n row) ≡ row

  words_of : header_to_words s ≡ take 8 ws → Each Tilled (chunks tw tills) → Each Recorded (chunks sw records) → state_to_words s state ≡ ws
  unfolding Tilled Recorded state_to_words state_in storage_in tills_in records_in
  words_of z t s =
      ap₂ ◌++◌ z
      (ap₂ ◌++◌ (rows_chunks (till_to_words nv nb) (till_in bytes nv nb) tw nt tills tills_long (omega arith) t)
      (rows_chunks record_to_words (segment_in n) sw nr records records_long (omega arith) s ∙ sym (drop-drop (nt * tw) 8 ws))
      ∙ take-append-drop (nt * tw) (drop 8 ws))
      ∙ take-append-drop 8 ws

  module _ (e : state_to_words s state ≡ ws) where
    abbrev till_rows : List ℕ
    till_rows = rows (till_to_words nv nb) (map (till_in bytes nv nb) (chunks tw tills))

    abbrev record_rows : List ℕ
    record_rows = rows record_to_words (map (segment_in n) (chunks sw records))

    behind : drop 8 ws ≡ till_rows ++ record_rows
    unfolding state_to_words header_to_words state_in storage_in tills_in records_in
    behind = ap (drop 8) (sym e)

    header_at : header_to_words s ≡ take 8 ws
    unfolding state_to_words header_to_words
    header_at = ap (take 8) e

    chunk_tills : chunks tw tills ≡ parts tw nt tills
    chunk_tills = chunks_parts tw nt tills tills_long (omega arith)

    tills_rows : length till_rows ≡ nt * tw
    tills_rows =
        length_rows (till_to_words nv nb) tw (map (till_in bytes nv nb) (chunks tw tills)) (wide_all (till_to_words nv nb) tw (length_till nv nb) (map (till_in bytes nv nb) (chunks tw tills)))
        ∙ ap (λ (n : ℕ). n * tw) (length-map (chunks tw tills) (till_in bytes nv nb) ∙ ap length chunk_tills ∙ length_parts tw nt tills)

    tills_are : rows (till_to_words nv nb) (map (till_in bytes nv nb) (parts tw nt tills)) ≡ take (nt * tw) tills
    tills_are =
        ap (λ (p : List (List ℕ)). rows (till_to_words nv nb) (map (till_in bytes nv nb) p)) (sym chunk_tills)
        ∙ sym (take_at till_rows record_rows (nt * tw) tills_rows) ∙ ap (take (nt * tw)) (sym behind) ∙ sym (take_all (nt * tw) tills (omega (arith, tills_long)))

    tilled_at : Each Tilled (parts tw nt tills)
    unfolding Tilled
    tilled_at = rows_fixed (till_to_words nv nb) (till_in bytes nv nb) tw nt tills (each_all _ (λ x. length_till nv nb (till_in bytes nv nb x)) (parts tw nt tills)) (omega (arith, tills_long)) tills_are

    tilled_all : Each Tilled (chunks tw tills)
    tilled_all = rw chunk_tills tilled_at

    chunk_records : chunks sw records ≡ parts sw nr records
    chunk_records = chunks_parts sw nr records records_long (omega arith)

    records_are : rows record_to_words (map (segment_in n) (parts sw nr records)) ≡ take (nr * sw) records
    records_are =
        ap (λ (p : List (List ℕ)). rows record_to_words (map (segment_in n) p)) (sym chunk_records)
        ∙ sym (drop_at till_rows record_rows (nt * tw) tills_rows) ∙ ap (drop (nt * tw)) (sym behind) ∙ drop-drop (nt * tw) 8 ws
        ∙ sym (take_all (nr * sw) records (omega (arith, records_long)))

    recorded_at : Each Recorded (parts sw nr records)
    unfolding Recorded
    recorded_at =
        rows_fixed record_to_words (segment_in n) sw nr records
        (each_weaken (λ (x : List ℕ). length x ≡ sw) (λ x. length (record_to_words (segment_in n x)) ≡ sw) (λ x e. length_record n (segment_in n x) (segment_long n x e)) (parts sw nr records)
        (parts_wide sw nr records (omega (arith, records_long)))) (omega (arith, records_long)) records_are

    recorded_all : Each Recorded (chunks sw records)
    recorded_all = rw chunk_records recorded_at

  -- ---- soundness

  long_records : Each (λ (x : List ℕ). length x ≡ sw) (chunks sw records)
  long_records = rw (chunks_parts sw nr records records_long (omega arith)) (parts_wide sw nr records (omega (arith, records_long)))

  long_tills : Each (λ (x : List ℕ). length x ≡ tw) (chunks tw tills)
  long_tills = rw (chunks_parts tw nt tills tills_long (omega arith)) (parts_wide tw nt tills (omega (arith, tills_long)))

  long_cells : Each (λ (x : List ℕ). length x ≡ bytes) (chunks bytes pool)
  long_cells = rw (chunks_parts bytes nc pool pool_long some_bytes) (parts_wide bytes nc pool (omega (arith, pool_long)))

  shaped : is_shaped s state ≡ true
  unfolding is_shaped state_in storage_in tills_in records_in cells_in
  shaped =
      all_true _ (
        eq-eqb _ _ (length-map (chunks tw tills) (till_in bytes nv nb) ∙ ap length (chunks_parts tw nt tills tills_long (omega arith)) ∙ length_parts tw nt tills),
        (
          eq-eqb _ _ (length-map (chunks sw records) (segment_in n) ∙ ap length (chunks_parts sw nr records records_long (omega arith)) ∙ length_parts sw nr records),
          (
            each_every (λ (g : Segment). length g ≡ n) (λ g. eqb (length g) n) (λ g. eq-eqb (length g) n) (map (segment_in n) (chunks sw records))
                (each_map (λ (g : Segment). length g ≡ n) (segment_in n) (chunks sw records) (each_weaken (λ (x : List ℕ). length x ≡ sw) (λ x. length (segment_in n x) ≡ n) (segment_long n) (chunks sw records) long_records)),
            (
              eq-eqb _ _ (ap length (chunks_parts bytes nc pool pool_long some_bytes) ∙ length_parts bytes nc pool),
              (each_every (λ (x : Block). length x ≡ bytes) (λ x. eqb (length x) bytes) (λ x. eq-eqb (length x) bytes) (chunks bytes pool) long_cells, tt),
            ),
          ),
        ),
      )

  -- what is asked of every till and every record, as a list
  tills_each : ((t : ℕ) → t < nt → TillSound bytes storage nv nb (take tw (drop (t * tw) tills))) → Each (TillSound bytes storage nv nb) (chunks tw tills)
  tills_each f = rw (chunks_parts tw nt tills tills_long (omega arith)) (each_part (TillSound bytes storage nv nb) tw nt tills f)

  each_tills : Each (TillSound bytes storage nv nb) (chunks tw tills) → (t : ℕ) → t < nt → TillSound bytes storage nv nb (take tw (drop (t * tw) tills))
  each_tills e = part_each (TillSound bytes storage nv nb) tw nt tills (rw (chunks_parts tw nt tills tills_long (omega arith)) at e)

  -- a till's pointers
  abbrev held : Till → List Pointer
  held t = rows (λ (v : Version). v.pointers) t.versions

  -- the direct pointers among a till's pointer words are those of its versions
  abbrev Counted : ℕ → ℕ → List ℕ → Type 0
  Counted k i x = count_to (k * 16 + i) (till_pointers bytes nb x) ≡ count (leads_to k i) (held (till_in bytes nv nb x))

  counted : Each (TillSound bytes storage nv nb) (chunks tw tills) → (k i : ℕ) → k < length records / sw → i < n
      → count_to (k * 16 + i) (tills_pointers bytes nv nb nt tills) ≡ count (leads_to k i) (all_pointers (map (till_in bytes nv nb) (chunks tw tills)))
  unfolding all_pointers
  counted e k i hk hi =
      let few : k < 4096 = omega (arith, hk, rows_few (length records) sw (omega arith) nr (omega (arith, records_long)), few_records) in
      let low : i < 16 = omega (arith, hi, ok.most_blocks) in
      let here : k * 16 + i < 16777216 = omega (arith, few, low) in
      ap (λ (rs : List (List ℕ)). count_to (k * 16 + i) (rows (till_pointers bytes nb) rs)) (sym (chunks_parts tw nt tills tills_long (omega arith)))
      ∙ rows_count k i low here (Counted k i) (till_pointers bytes nb) (λ x. held (till_in bytes nv nb x)) (λ x c. c) (chunks tw tills)
      (with_long (TillSound bytes storage nv nb) (Counted k i) tw (λ x l t. till_count_lem s some_bytes storage x l k i low here t) (chunks tw tills) long_tills e)
      ∙ ap (λ (ps : List (List Pointer)). count (leads_to k i) (joined ps)) (sym (map-map held (till_in bytes nv nb) (chunks tw tills)))

  module _ (b : Body s.measures pool tills records nt nv nb) where
    canonical : Each (TillSound bytes storage nv nb) (chunks tw tills)
    canonical = tills_each b.tills_sound

    fines : Each (TillFine s storage) (chunks tw tills)
    fines = with_long (TillSound bytes storage nv nb) (TillFine s storage) tw (λ x e t. till_fine s some_bytes storage x e t) (chunks tw tills) long_tills canonical

    record_fines : Each (IsRecordRow n) (chunks sw records)
    record_fines = with_long (RecordForm n) (IsRecordRow n) sw (record_canonical n) (chunks sw records) long_records b.forms

    tilled : Each Tilled (chunks tw tills)
    unfolding Tilled
    tilled = each_weaken (TillFine s storage) (λ x. till_to_words nv nb (till_in bytes nv nb x) ≡ x) (λ x f. f.words) (chunks tw tills) fines

    recorded : Each Recorded (chunks sw records)
    unfolding Recorded
    recorded = each_weaken (IsRecordRow n) (λ x. record_to_words (segment_in n x) ≡ x) (λ x f. f.words) (chunks sw records) record_fines

    body_sound : is_sound s state ≡ true
    unfolding is_sound state_in tills_in
    body_sound =
        all_true _ (
          in_range_lem,
          (
            shaped,
            (
              used,
              (
                b.cells.named,
                (
                  every_till,
                  (
                    right,
                    (b.cells.filled, tt),
                  ),
                ),
              ),
            ),
          ),
        )
      where
        right : all_counted (all_pointers (map (till_in bytes nv nb) (chunks tw tills))) 0 storage.records ≡ true
        right = unfold storage_in in counts_sound n (all_pointers (map (till_in bytes nv nb) (chunks tw tills))) (tills_pointers bytes nv nb nt tills) records (counted canonical) b.counts

        used : every is_free_or_holds storage.records ≡ true
        used = unfold storage_in records_in in each_every (λ g. is_free_or_holds g ≡ true) is_free_or_holds (λ g e. e) (map (segment_in n) (chunks sw records)) (each_map (λ g. is_free_or_holds g ≡ true) (segment_in n) (chunks sw records) (each_weaken (IsRecordRow n) (λ x. is_free_or_holds (segment_in n x) ≡ true) (λ x f. f.used) (chunks sw records) record_fines))

        every_till : every (is_till s storage) (map (till_in bytes nv nb) (chunks tw tills)) ≡ true
        every_till = each_every (λ t. is_till s storage t ≡ true) (is_till s storage) (λ t e. e) (map (till_in bytes nv nb) (chunks tw tills)) (each_map (λ t. is_till s storage t ≡ true) (till_in bytes nv nb) (chunks tw tills) (each_weaken (TillFine s storage) (λ x. is_till s storage (till_in bytes nv nb x) ≡ true) (λ x f. f.sound) (chunks tw tills) fines))

  -- back
  module _ (tilled : Each Tilled (chunks tw tills)) (recorded : Each Recorded (chunks sw records)) (sound : is_sound s state ≡ true) where
    used_at : every is_free_or_holds (map (segment_in n) (chunks sw records)) ≡ true
    unfolding is_sound state_in storage_in records_in
    used_at = clause _ 2 sound

    every_till : every (is_till s storage) (map (till_in bytes nv nb) (chunks tw tills)) ≡ true
    unfolding is_sound state_in tills_in
    every_till = clause _ 4 sound

    right_at_lem : all_counted (all_pointers (map (till_in bytes nv nb) (chunks tw tills))) 0 (records_in n records) ≡ true
    unfolding is_sound state_in tills_in storage_in
    right_at_lem = clause _ 5 sound

    cells_at : CellsSound storage
    unfolding is_sound state_in
    cells_at = record { named = clause _ 3 sound; filled = clause _ 6 sound }

    tills_sound_at : Each (TillSound bytes storage nv nb) (chunks tw tills)
    unfolding Tilled
    tills_sound_at =
        with_long (TillFine s storage) (TillSound bytes storage nv nb) tw (λ x e f. fine_till s some_bytes storage x e f) (chunks tw tills) long_tills
        (each_weaken (λ x. (till_to_words nv nb (till_in bytes nv nb x) ≡ x) × (is_till s storage (till_in bytes nv nb x) ≡ true)) (TillFine s storage) (λ x p. record { words = p.0; sound = p.1 }) (chunks tw tills)
        (each_both (λ x. till_to_words nv nb (till_in bytes nv nb x) ≡ x) (λ x. is_till s storage (till_in bytes nv nb x) ≡ true) (chunks tw tills) tilled
        (every_each (λ x. is_till s storage (till_in bytes nv nb x)) (λ x. is_till s storage (till_in bytes nv nb x) ≡ true) (λ x e. e) (chunks tw tills)
        (sym (every_map (is_till s storage) (till_in bytes nv nb) (chunks tw tills)) ∙ every_till))))

    forms_at : Each (RecordForm n) (chunks sw records)
    unfolding Recorded
    forms_at =
        with_long (IsRecordRow n) (RecordForm n) sw (canonical_record n) (chunks sw records) long_records
        (each_weaken (λ x. (record_to_words (segment_in n x) ≡ x) × (is_free_or_holds (segment_in n x) ≡ true)) (IsRecordRow n) (λ x p. record { words = p.0; used = p.1 }) (chunks sw records)
        (each_both (λ x. record_to_words (segment_in n x) ≡ x) (λ x. is_free_or_holds (segment_in n x) ≡ true) (chunks sw records) recorded
        (every_each (λ x. is_free_or_holds (segment_in n x)) (λ x. is_free_or_holds (segment_in n x) ≡ true) (λ x e. e) (chunks sw records) (sym (every_map is_free_or_holds (segment_in n) (chunks sw records)) ∙ used_at))))

    sound_body : Body s.measures pool tills records nt nv nb
    sound_body = record {
      forms = forms_at;
      cells = cells_at;
      tills_sound = each_tills tills_sound_at;
      counts = sound_counts n (all_pointers (map (till_in bytes nv nb) (chunks tw tills))) (tills_pointers bytes nv nb nt tills) records (counted tills_sound_at) right_at_lem;
    }

  -- ---- the store

  pub body_store : header_to_words s ≡ take 8 ws → Body s.measures pool tills records nt nv nb → is_some (store_as s pool ws) ≡ true
  unfolding store_as if_sound
  body_store z b =
      let e : state_to_words s state ≡ ws = words_of z (tilled b) (recorded b) in
      some_of (has_lengths s pool ws) _ _ h
      (all_true (same_numbers (state_to_words s state) ws ∷ is_sound s state ∷ []) (ap (λ (x : List ℕ). same_numbers x ws) e ∙ same_refl ws, (body_sound b, tt)))

  pub store_body : is_some (store_as s pool ws) ≡ true → (header_to_words s ≡ take 8 ws) × Body s.measures pool tills records nt nv nb
  unfolding store_as if_sound
  store_body g =
      let q = (of_some (has_lengths s pool ws) _ _ g).1 in
      let e : state_to_words s state ≡ ws = same_eq _ _ (clause _ 0 q) in
      (header_at e, sound_body (tilled_all e) (recorded_all e) (clause _ 1 q))

-- a store has its lengths
pub store_long : (s : Shape) (pool ws : List ℕ) → is_some (store_as s pool ws) ≡ true → has_lengths s pool ws ≡ true
unfolding store_as
store_long s pool ws g = first_of (has_lengths s pool ws) (if_sound s ws (state_in s pool ws)) g
