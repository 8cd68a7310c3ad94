-- A sound till's slots are what tracing requires.
use mathlib.Core.Path.{◌≡◌, refl, sym, ap, ◌∙◌, subst}
use mathlib.Core.Bool.{Bool, true}
use mathlib.Core.List.{List, [], ◌∷◌, ◌++◌, map, append-nil}
use Prim.Native.Nat.{ℕ, zero, suc, ◌+◌, ◌-◌, ◌*◌, ◌≤◌, ◌<◌}
use native.Mathlib.Nat.{mul-le-mul_right}
use native.Mathlib.Omega.{arith}
use lib.ListN.{length, get_or, take, drop, length-drop}
use lib.Seq.{take_at, drop-drop, drop-append-le}
use Rattle.lists.specs.Each.{Each}
use Rattle.lists.specs.Lists.{every}
use Rattle.lists.specs.Rows.{rows, fill, parts, joined}
use Rattle.lists.proofs.Cuts.{parts_rows}
use Rattle.lists.proofs.Each.{each_at, each_drop, each_weaken}
use Rattle.lists.proofs.Places.{row_room}
use Rattle.lists.proofs.Rows.{Wide, wide_all, length_rows, fill_split, drop_rows}
use Rattle.lists.proofs.Tests.{every_head, every_tail, clause, every_at}
use Rattle.model.specs.Measures.{Capacities, Shape, parts_for, record_words}
use Rattle.model.specs.Records.{position_at}
use Rattle.model.specs.Sound.{next_pointers, resolves, are_traceable, is_sound, is_till}
use Rattle.model.specs.Calls.{empty_till}
use Rattle.model.specs.State.{Storage, Version, Pointer, null_pointer, blank_pointer, direct, indirect, State, Till, Segment}
use Rattle.model.specs.Table.{version_in, version_to_words, till_to_words, versions_in}
use Rattle.laws.proofs.Fits.{record_in_lem, held_in, TillFits, VersionFits, pointer_in}
use Rattle.laws.proofs.RoundTrip.{length_version, version_back}
use Rattle.storage.specs.Fits.{WithinRecords, NamesHeld}
use Rattle.restore_trace.specs.Versions.{no_version, pointers_at, IndirectBelow, Traceable, DirectWithin}
use Rattle.sound_laws.proofs.Storage.{fits, few_versions, few_blocks, words_of, words_length}

-- ---- pointers that lead somewhere

module _ (n : ℕ) (storage : Storage) (most : (k : ℕ) → length (get_or storage.records k []) ≤ n) where
  next_length : (vs : List Version) → length (next_pointers vs) ≡ length (pointers_at vs 0)
  unfolding next_pointers
  next_length [] = refl
  next_length (v ∷ vs) = refl

  resolves_below : (ps : List Pointer) (p : Pointer) → resolves storage ps p ≡ true → IndirectBelow (length ps) p
  unfolding IndirectBelow
  resolves_below ps null_pointer e = tt
  resolves_below ps blank_pointer e = tt
  resolves_below ps (direct k i) e = tt
  resolves_below ps (indirect k) e = pointer_in ps k e

  one_fits : (next : List Pointer) (p : Pointer) → resolves storage next p ≡ true → WithinRecords n (length storage.records * record_words n) p
  unfolding WithinRecords position_at
  one_fits next null_pointer e = tt
  one_fits next blank_pointer e = tt
  one_fits next (direct k i) e = (row_room k (length storage.records) (record_words n) (record_in_lem storage.records k i e), omega (arith, held_in (get_or storage.records k []) i e, most k))
  one_fits next (indirect k) e = tt

  one_held : (next : List Pointer) (p : Pointer) → resolves storage next p ≡ true → NamesHeld storage.records p
  unfolding NamesHeld position_at
  one_held next null_pointer e = tt
  one_held next blank_pointer e = tt
  one_held next (direct k i) e = e
  one_held next (indirect k) e = tt

  -- of each pointer, and past the end
  by_place : (P : Pointer → Type 0) → P null_pointer → (f : Pointer → Bool) → ((p : Pointer) → f p ≡ true → P p) → (ps : List Pointer) → every f ps ≡ true
      → (j : ℕ) → P (get_or ps j null_pointer)
  by_place P z f g [] e j = z
  by_place P z f g (p ∷ ps) e zero = g p (every_head f p ps e)
  by_place P z f g (p ∷ ps) e (suc j) = by_place P z f g ps (every_tail f p ps e) j

  module _ (bytes b : ℕ) where
    all_lead : (vs : List Version) → are_traceable bytes b storage vs ≡ true → (i j : ℕ) → IndirectBelow (length (pointers_at vs (suc i))) (get_or (pointers_at vs i) j null_pointer)
    unfolding are_traceable
    all_lead [] e i j = unfold IndirectBelow in tt
    all_lead (v ∷ vs) e zero j =
        subst (λ (l : ℕ). IndirectBelow l (get_or v.pointers j null_pointer)) (next_length vs)
        (by_place (IndirectBelow (length (next_pointers vs))) (unfold IndirectBelow in tt) (resolves storage (next_pointers vs)) (resolves_below (next_pointers vs)) v.pointers (clause _ 1 e) j)
    all_lead (v ∷ vs) e (suc i) j = all_lead vs (clause _ 3 e) i j

    all_fit : (vs : List Version) → are_traceable bytes b storage vs ≡ true → (i j : ℕ) → WithinRecords n (length storage.records * record_words n) (get_or (pointers_at vs i) j null_pointer)
    unfolding are_traceable
    all_fit [] e i j = unfold WithinRecords in tt
    all_fit (v ∷ vs) e zero j =
        by_place (WithinRecords n (length storage.records * record_words n)) (unfold WithinRecords in tt) (resolves storage (next_pointers vs)) (one_fits (next_pointers vs)) v.pointers (clause _ 1 e) j
    all_fit (v ∷ vs) e (suc i) j = all_fit vs (clause _ 3 e) i j

    all_held : (vs : List Version) → are_traceable bytes b storage vs ≡ true → (i j : ℕ) → NamesHeld storage.records (get_or (pointers_at vs i) j null_pointer)
    unfolding are_traceable
    all_held [] e i j = unfold NamesHeld in tt
    all_held (v ∷ vs) e zero j =
        by_place (NamesHeld storage.records) (unfold NamesHeld in tt) (resolves storage (next_pointers vs)) (one_held (next_pointers vs)) v.pointers (clause _ 1 e) j
    all_held (v ∷ vs) e (suc i) j = all_held vs (clause _ 3 e) i j

    -- the newer ones are traceable too
    traceable_from : (i : ℕ) (vs : List Version) → are_traceable bytes b storage vs ≡ true → are_traceable bytes b storage (drop i vs) ≡ true
    unfolding are_traceable
    traceable_from zero vs e = e
    traceable_from (suc i) [] e = refl
    traceable_from (suc i) (v ∷ vs) e = traceable_from i vs (clause _ 3 e)

-- ---- a sound store's till

module _ (s : Shape) (st : State) (sound : is_sound s st ≡ true) (t : ℕ) (ht : t < length st.tills) where
  abbrev c : Capacities
  c = s.capacities

  abbrev bytes : ℕ
  bytes = s.measures.block_bytes

  abbrev n : ℕ
  n = s.measures.segment_blocks

  abbrev b : ℕ
  b = c.blocks

  abbrev pub till : Till
  till = get_or st.tills t empty_till

  traceable : are_traceable bytes b st.storage till.versions ≡ true
  unfolding is_sound is_till
  traceable = clause _ 1 (every_at (is_till s st.storage) empty_till st.tills (clause _ 4 sound) t ht)

  pub till_fits : TillFits s till
  till_fits = each_at (TillFits s) empty_till st.tills (fits s st sound).tills t ht

  positions_most : (k : ℕ) → length (get_or st.storage.records k []) ≤ n
  positions_most k = go st.storage.records (fits s st sound).records k
    where
      go : (segs : List Segment) → Each (λ (g : Segment). length g ≡ n) segs → (k : ℕ) → length (get_or segs k []) ≤ n
      go [] e k = omega arith
      go (g ∷ segs) e zero = omega (arith, e.0)
      go (g ∷ segs) e (suc k) = go segs e.1 k

  -- each pointer of a version names what is there
  pub pointers_fit : (i j : ℕ) → WithinRecords n (length st.storage.records * record_words n) (get_or (pointers_at till.versions i) j null_pointer)
  pointers_fit i j = all_fit n st.storage positions_most bytes b till.versions traceable i j

  pub pointers_held_lem : (i j : ℕ) → NamesHeld st.storage.records (get_or (pointers_at till.versions i) j null_pointer)
  pointers_held_lem i j = all_held n st.storage positions_most bytes b till.versions traceable i j

  -- the versions from the i-th oldest on
  module _ (i : ℕ) (hi : i < length till.versions) where
    abbrev pub vs : List Version
    vs = drop i till.versions

    pub held_versions_lem : length vs ≡ length till.versions - i
    held_versions_lem = length-drop i till.versions

    vs_fit : Each (VersionFits s) vs
    vs_fit = each_drop (VersionFits s) i till.versions till_fits.versions

    wide : (us : List Version) → Wide (version_to_words b) (3 + b) us
    wide us = wide_all (version_to_words b) (3 + b) (length_version b) us

    -- their slots, within the till's words
    pub slots_are : take (length vs * (3 + b)) (drop (4 + i * (3 + b)) (till_to_words c.versions b till)) ≡ rows (version_to_words b) vs
    unfolding till_to_words
    slots_are =
        let all : List ℕ = rows (version_to_words b) till.versions in
        let la : length all ≡ length till.versions * (3 + b) = length_rows (version_to_words b) (3 + b) till.versions (wide till.versions) in
        let lv : length (rows (version_to_words b) vs) ≡ length vs * (3 + b) = length_rows (version_to_words b) (3 + b) vs (wide vs) in
        let most : length till.versions * (3 + b) ≤ c.versions * (3 + b) = mul-le-mul_right (3 + b) till_fits.most in
        let low : i * (3 + b) ≤ length till.versions * (3 + b) = mul-le-mul_right (3 + b) (omega arith) in
        let rest : List ℕ = fill (c.versions * (3 + b) - length all) [] in
        ap (take (length vs * (3 + b)))
        (sym (drop-drop (i * (3 + b)) 4 (till_to_words c.versions b till))
        ∙ ap (drop (i * (3 + b))) (fill_split (c.versions * (3 + b)) all (omega (arith, la)))
        ∙ drop-append-le (i * (3 + b)) all rest (omega (arith, la))
        ∙ ap (λ (l : List ℕ). l ++ rest) (drop_rows (version_to_words b) (3 + b) i till.versions (wide till.versions)))
        ∙ take_at (rows (version_to_words b) vs) rest (length vs * (3 + b)) lv

    pub slots_read : versions_in bytes b (length vs) (rows (version_to_words b) vs) ≡ vs
    unfolding versions_in
    slots_read =
        ap (λ (ws : List ℕ). map (version_in bytes) (parts (3 + b) (length vs) ws)) (sym (append-nil (rows (version_to_words b) vs)))
        ∙ parts_rows (version_to_words b) (version_in bytes) (3 + b) vs (wide vs) (each_weaken (VersionFits s) _ (version_back s) vs vs_fit) []

    most_blocks_lem : (us : List Version) → Each (VersionFits s) us → (j : ℕ) → length (pointers_at us j) ≤ b
    most_blocks_lem [] e j = omega arith
    most_blocks_lem (u ∷ us) e zero = e.0.most
    most_blocks_lem (u ∷ us) e (suc j) = most_blocks_lem us e.1 j

    pub sound_traceable : Traceable bytes b (length vs) (rows (version_to_words b) vs)
    sound_traceable = record {
      rows = length_rows (version_to_words b) (3 + b) vs (wide vs);
      some = omega (arith, held_versions_lem);
      few = omega (arith, held_versions_lem, till_fits.most, few_versions s st sound);
      small = few_blocks s st sound;
      fits = subst (λ (us : List Version). (j : ℕ) → length (pointers_at us j) ≤ b) (sym slots_read) (most_blocks_lem vs vs_fit);
      resolves =
          subst (λ (us : List Version). (k j : ℕ) → IndirectBelow (length (pointers_at us (suc k))) (get_or (pointers_at us k) j null_pointer)) (sym slots_read)
          (all_lead n st.storage positions_most bytes b vs (traceable_from n st.storage positions_most bytes b i till.versions traceable));
    }

    pub sound_direct : DirectWithin n bytes b (length vs) (rows (version_to_words b) vs) (length (words_of s st sound))
    sound_direct = record {
      fit =
          subst (λ (us : List Version). (k j : ℕ) → WithinRecords n (length (words_of s st sound)) (get_or (pointers_at us k) j null_pointer)) (sym slots_read)
          (subst (λ (l : ℕ). (k j : ℕ) → WithinRecords n l (get_or (pointers_at vs k) j null_pointer)) (sym (words_length s st sound))
          (all_fit n st.storage positions_most bytes b vs (traceable_from n st.storage positions_most bytes b i till.versions traceable)));
    }

    -- the first version's length, and as many pointers as it has blocks
    first : (us : List Version) → 0 < length us → Each (VersionFits s) us
        → (get_or (rows (version_to_words b) us) 1 0 ≡ (get_or us 0 no_version).length) × (length (pointers_at us 0) ≡ parts_for bytes (get_or us 0 no_version).length)
    unfolding joined version_to_words
    first [] h e = absurd (omega arith)
    first (u ∷ us) h e = (refl, e.0.blocks)

    pub sound_blocks : length (pointers_at (versions_in bytes b (length vs) (rows (version_to_words b) vs)) 0) ≡ parts_for bytes (get_or (rows (version_to_words b) vs) 1 0)
    sound_blocks =
        let (l, m) = first vs (omega (arith, held_versions_lem)) vs_fit in
        ap (λ (us : List Version). length (pointers_at us 0)) slots_read ∙ m ∙ ap (parts_for bytes) (sym l)
