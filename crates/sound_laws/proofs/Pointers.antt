-- The pointer words of a sound till's version: what is let go, or turned.
use mathlib.Core.Path.{◌≡◌, refl, sym, ap, ◌∙◌, subst}
use mathlib.Core.Bool.{true}
use mathlib.Core.List.{List, [], map}
use Prim.Native.Nat.{ℕ, ◌+◌, ◌*◌, ◌≤◌, ◌<◌, ◌-◌}
use native.Mathlib.Nat.{mul-le-mul_right}
use native.Mathlib.Omega.{arith}
use lib.ListN.{length, get_or, take, drop, length-map, get_or-map}
use lib.Seq.{take_at, drop-drop}
use Rattle.lists.specs.Each.{Each}
use Rattle.lists.specs.Rows.{fill, rows}
use Rattle.lists.proofs.Each.{each_at}
use Rattle.lists.proofs.Rows.{fill_split, Wide, wide_all, length_rows, row_append}
use Rattle.model.specs.Measures.{Capacities, Shape, parts_for}
use Rattle.model.specs.Sound.{is_sound}
use Rattle.model.specs.State.{null_pointer, Pointer, Version, State}
use Rattle.model.specs.Table.{word_to_pointer, pointer_of, pointer_word, version_to_words, till_to_words}
use Rattle.laws.proofs.Fits.{PointerFits, VersionFits}
use Rattle.laws.proofs.RoundTrip.{pointers_back, length_version}
use Rattle.restore_trace.specs.Versions.{no_version}
use Rattle.storage.specs.Fits.{WithinRecords, NamesHeld}
use Rattle.sound_laws.proofs.Storage.{words_of, words_length}
use Rattle.sound_laws.proofs.Slots.{till, till_fits, pointers_fit, pointers_held_lem}

pub null_word : word_to_pointer 0 ≡ null_pointer
unfolding word_to_pointer pointer_of
null_word = refl

-- what holds of each pointer holds of each word's
words_each : (P : Pointer → Type 0) (ps : List Pointer) → Each PointerFits ps → ((j : ℕ) → P (get_or ps j null_pointer)) → (i : ℕ) → P (word_to_pointer (get_or (map pointer_word ps) i 0))
words_each P ps e f i =
    subst P
    (ap (λ (qs : List Pointer). get_or qs i null_pointer) (sym (pointers_back ps e))
    ∙ ap (λ (p : Pointer). get_or (map word_to_pointer (map pointer_word ps)) i p) (sym null_word)
    ∙ get_or-map word_to_pointer (map pointer_word ps) i 0)
    (f i)

-- in a slot: as many as the length has blocks
slot_pointers : (s : Shape) (u : Version) → VersionFits s u
    → take (parts_for s.measures.block_bytes (get_or (version_to_words s.capacities.blocks u) 1 0)) (drop 3 (version_to_words s.capacities.blocks u)) ≡ map pointer_word u.pointers
unfolding version_to_words
slot_pointers s u f =
    let n : ℕ = parts_for s.measures.block_bytes u.length in
    let ws : List ℕ = map pointer_word u.pointers in
    let l : length ws ≡ length u.pointers = length-map u.pointers pointer_word in
    ap (take n) (fill_split s.capacities.blocks ws (omega (arith, f.most))) ∙ take_at ws (fill (s.capacities.blocks - length ws) []) n (l ∙ f.blocks)

module _ (s : Shape) (st : State) (sound : is_sound s st ≡ true) (t : ℕ) (ht : t < length st.tills) (i : ℕ)
    (hi : i < length (till s st sound t ht).versions) where
  abbrev c : Capacities
  c = s.capacities

  abbrev b : ℕ
  b = c.blocks

  -- version i
  abbrev pub version : Version
  version = get_or (till s st sound t ht).versions i no_version

  version_fits : VersionFits s version
  version_fits = each_at (VersionFits s) no_version (till s st sound t ht).versions (till_fits s st sound t ht).versions i hi

  -- its slot among the till's words
  pub slot_row : take (3 + b) (drop (4 + i * (3 + b)) (till_to_words c.versions b (till s st sound t ht))) ≡ version_to_words b version
  unfolding till_to_words
  slot_row =
      let us : List Version = (till s st sound t ht).versions in
      let all : List ℕ = rows (version_to_words b) us in
      let w : Wide (version_to_words b) (3 + b) us = wide_all (version_to_words b) (3 + b) (length_version b) us in
      let most : length us * (3 + b) ≤ c.versions * (3 + b) = mul-le-mul_right (3 + b) (till_fits s st sound t ht).most in
      ap (take (3 + b))
      (sym (drop-drop (i * (3 + b)) 4 (till_to_words c.versions b (till s st sound t ht)))
      ∙ ap (drop (i * (3 + b))) (fill_split (c.versions * (3 + b)) all (omega (arith, length_rows (version_to_words b) (3 + b) us w))))
      ∙ row_append (version_to_words b) (3 + b) no_version us w (fill (c.versions * (3 + b) - length all) []) i hi

  -- its pointer words
  pub version_words : take (parts_for s.measures.block_bytes (get_or (version_to_words b version) 1 0)) (drop 3 (version_to_words b version)) ≡ map pointer_word version.pointers
  version_words = slot_pointers s version version_fits

  pub version_pointers : map word_to_pointer (map pointer_word version.pointers) ≡ version.pointers
  version_pointers = pointers_back version.pointers version_fits.pointers

  -- they can be followed into the records' words
  pub version_fit : (j : ℕ) → WithinRecords s.measures.segment_blocks (length (words_of s st sound)) (word_to_pointer (get_or (map pointer_word version.pointers) j 0))
  version_fit j =
      words_each (WithinRecords s.measures.segment_blocks (length (words_of s st sound))) version.pointers version_fits.pointers
      (subst (λ (l : ℕ). (k : ℕ) → WithinRecords s.measures.segment_blocks l (get_or version.pointers k null_pointer)) (sym (words_length s st sound)) (λ k. pointers_fit s st sound t ht i k)) j

  -- and name held positions
  pub version_held : (j : ℕ) → NamesHeld st.storage.records (word_to_pointer (get_or (map pointer_word version.pointers) j 0))
  version_held j = words_each (NamesHeld st.storage.records) version.pointers version_fits.pointers (λ k. pointers_held_lem s st sound t ht i k) j
