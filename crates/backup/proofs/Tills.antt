-- A sound till's words have room for its slots, and one more where it is accepted.
use mathlib.Core.Path.{◌≡◌, sym, ap, ◌∙◌, subst}
use mathlib.Core.List.{List, map}
use Prim.Native.Nat.{ℕ, ◌+◌, ◌*◌, ◌≤◌, ◌<◌}
use native.Mathlib.Nat.{mul-le-mul_right}
use native.Mathlib.Omega.{arith}
use lib.ListN.{length, get_or, length-map}
use Rattle.lists.specs.Each.{Each}
use Rattle.lists.proofs.Each.{each_at, each_weaken}
use Rattle.model.specs.Calls.{till_of, empty_till, newest_pointers}
use Rattle.model.specs.Measures.{Measures, record_words}
use Rattle.model.specs.State.{Till}
use Rattle.model.specs.Table.{shape_of, state_in, till_to_words, pointer_word, word_to_pointer}
use Rattle.laws.proofs.Fits.{VersionFits, TillFits}
use Rattle.laws.proofs.Measures.{sizes}
use Rattle.laws.proofs.RoundTrip.{length_till, held_word, last_word}
use Rattle.laws.specs.Stores.{Sound}
use Rattle.laws.proofs.Stores.{header, fits, found}
use Rattle.laws.proofs.Tills.{there, few}
use Rattle.backup_accept.specs.Accept.{HasRoomLeft}
use Rattle.backup_file.specs.Filing.{Room, HasFreeSlot, FewBlocks, HasPointers, VersionsFit}
use Rattle.backup_file.proofs.Slots.{few_blocks}
use Rattle.backup_laws.proofs.Newest.{newest_good, newest_few, words_back}
use Rattle.backup_steps.specs.Steps.{Pointed}
use Rattle.turn.specs.Turn.{Followable}

module _ {pool table : List ℕ} (h : Sound pool table) (t : ℕ) (in_table : t < get_or table 0 0) where
  abbrev v : ℕ
  v = get_or table 1 0

  abbrev b : ℕ
  b = get_or table 2 0

  abbrev till : Till
  till = till_of (state_in (shape_of table) pool table) t

  till_fit : TillFits (shape_of table) till
  unfolding till_of
  till_fit = each_at (TillFits (shape_of table)) empty_till (state_in (shape_of table) pool table).tills (fits h).tills t (there h t in_table)

  till_held : VersionsFit (shape_of table).measures.block_bytes v b till
  unfolding shape_of
  till_held = record {
    most = few h t in_table;
    versions = each_weaken (VersionFits (shape_of table)) (HasPointers (shape_of table).measures.block_bytes b) (λ u f. record { blocks = f.blocks; most = f.most }) till.versions till_fit.versions;
  }

  module _ (ws : List ℕ) (e : ws ≡ till_to_words v b till) where
    size : length ws ≡ 4 + v * (3 + b)
    size = ap length e ∙ length_till v b till

    held : get_or ws 1 0 ≡ length till.versions
    held = ap (λ (l : List ℕ). get_or l 1 0) e ∙ held_word v b till

    last : get_or ws 0 0 ≡ till.last
    last = ap (λ (l : List ℕ). get_or l 0 0) e ∙ last_word v b till

    pub till_room : Room b ws
    till_room =
        let m : length till.versions * (3 + b) ≤ v * (3 + b) = mul-le-mul_right (3 + b) (few h t in_table) in
        record {
          small = (header h).blocks;
          four = omega (arith, size);
          long = omega (arith, size, (sizes 0 v b (omega arith) (header h).versions (header h).blocks).0);
          slots = rw (held, size) (omega (arith, m));
        }

    pub till_left : HasRoomLeft pool table t → HasFreeSlot b ws
    till_left f =
        let n : length till.versions + 1 ≤ v = omega (arith, f.room) in
        let m : (length till.versions + 1) * (3 + b) ≤ v * (3 + b) = mul-le-mul_right (3 + b) n in
        record { slot = rw (held, size) (omega (arith, m)); number = omega (arith, last, f.number) }

    till_few : FewBlocks (shape_of table).measures.block_bytes b ws
    till_few = few_blocks (shape_of table).measures.block_bytes v b till ws (omega (arith, (header h).measured.some_bytes)) (header h).image till_held e

  -- with the measures as the code read them
  module _ (m : Measures) (em : m ≡ (shape_of table).measures) where
    pub held_read : VersionsFit m.block_bytes v b till
    held_read = rw em till_held

    pub few_read : (ws : List ℕ) → ws ≡ till_to_words v b till → FewBlocks m.block_bytes b ws × (0 < m.block_bytes) × (m.block_bytes ≤ 512)
    few_read ws e = rw em (till_few ws e, omega (arith, (header h).measured.some_bytes), (header h).measured.most_bytes)

  -- the newest version's pointer words
  pub prev_pointed : (prev : List ℕ) → prev ≡ map pointer_word (newest_pointers till.versions)
      → Pointed (shape_of table).measures.segment_blocks (get_or table 3 0 * record_words (shape_of table).measures.segment_blocks) prev × (map word_to_pointer prev ≡ newest_pointers till.versions)
  unfolding shape_of till_of empty_till
  prev_pointed prev e =
      let n : ℕ = (shape_of table).measures.segment_blocks in
      let l : ℕ = length (state_in (shape_of table) pool table).storage.records * record_words n in
      let g : Each (Followable n l) (newest_pointers till.versions) = newest_good (shape_of table) (state_in (shape_of table) pool table) (found h).sound t (there h t in_table) in
      let k : length (newest_pointers till.versions) ≤ b = newest_few (shape_of table) (state_in (shape_of table) pool table) (found h).sound t (there h t in_table) in
      let back : map word_to_pointer prev ≡ newest_pointers till.versions = ap (map word_to_pointer) e ∙ words_back n l (newest_pointers till.versions) g in
      let c : l ≡ get_or table 3 0 * record_words n = ap (λ (x : ℕ). x * record_words n) (fits h).record_count in (
        record {
          few = omega (arith, ap length e, length-map (newest_pointers till.versions) pointer_word, k, (header h).blocks);
          canonical = e ∙ ap (map pointer_word) (sym back);
          good = subst (λ (x : ℕ). Each (Followable n x) (map word_to_pointer prev)) c (subst (Each (Followable n l)) (sym back) g);
        },
        back,
      )
