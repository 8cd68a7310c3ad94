-- The records and the slots that the tracing is lent, and the accepted call.
use mathlib.Core.Path.{◌≡◌, sym, ap, ap₂, ◌∙◌, subst}
use mathlib.Core.Bool.{Bool, true, false, cond}
use mathlib.Core.List.{List, [], ◌∷◌, ◌++◌}
use Prim.Native.Nat.{ℕ, zero, suc, ◌+◌, ◌*◌, ◌-◌, ◌≤◌, ◌<◌}
use native.Mathlib.Nat.{mul-le-mul_right, add-mul, suc-mul, mul-le-mul}
use native.Mathlib.Omega.{arith}
use lib.ListN.{length, get_or, take, drop, length-drop}
use lib.Seq.{get_or-take}
use borrow.Author.Tests.{le-ltb, lt-ltb}
use lib.Dec.{ltb}
use Rattle.lists.specs.Rows.{parts, rows}
use Rattle.lists.proofs.Slices.{tail_all, part_part}
use Rattle.model.specs.Measures.{Measures, Shape, parts_for, till_words, record_words, table_words, records_at}
use Rattle.model.specs.State.{Storage, Version, State}
use Rattle.model.specs.Table.{shape_of, state_in, storage_in, version_in, versions_in, version_to_words, till_to_words}
use Rattle.model.specs.Sound.{is_sound}
use Rattle.model.specs.Trace.{image_of, longest_chain}
use Rattle.model.specs.Calls.{empty_till, till_of, restore_refusal, restore_from, first_of}
use Rattle.laws.proofs.Measures.{parts_enough, sizes}
use Rattle.laws.specs.Stores.{till_at, Sound}
use Rattle.laws.proofs.Stores.{found, header, long}
use Rattle.laws.proofs.Tills.{till, few, there, till_words_lem, in_words}
use Rattle.laws.specs.Ranges.{Measured}
use Rattle.tills.specs.declared.Head.{Head}
use Rattle.tills.specs.Answers.{HeadOf}
use Rattle.storage.specs.Stored.{Stored}
use Rattle.restore.specs.Answers.{Lent}
use Rattle.sound_laws.proofs.Storage.{words_of, sound_storage, sound_stored}
use Rattle.sound_laws.proofs.Slots.{slots_are, slots_read, sound_traceable, sound_direct, sound_blocks}

-- ---- the first version in the slots

module _ (bytes b h : ℕ) (storage : Storage) (slots output : List ℕ) where
  first : (n : ℕ) → 0 < n → versions_in bytes b n slots ≡ version_in bytes (take (3 + b) slots) ∷ versions_in bytes b (n - 1) (drop (3 + b) slots)
  unfolding versions_in parts
  first zero z = absurd (omega arith)
  first (suc n) z = let e : suc n - 1 ≡ n = omega arith in rw e

  first_length : (version_in bytes (take (3 + b) slots)).length ≡ get_or slots 1 0
  unfolding version_in
  first_length = get_or-take (3 + b) slots 1 0 (omega arith)

  module _ (some : 0 < h) where
    answer : (fits : Bool) → ltb (length output) (get_or slots 1 0) ≡ fits
        → restore_from bytes storage (first_of 0 [] (versions_in bytes b h slots)) output
        ≡ cond fits (restore_refusal 5 output) (record { refusal = 0; length = get_or slots 1 0; hops = longest_chain (versions_in bytes b h slots); output = image_of bytes storage (versions_in bytes b h slots) ++ drop (get_or slots 1 0) output })
    unfolding restore_from first_of
    answer fits e = rw (first h some, first_length, e)

    pub too_short : length output < get_or slots 1 0 → record { refusal = 5; length = 0; hops = 0; output = output } ≡ restore_from bytes storage (first_of 0 [] (versions_in bytes b h slots)) output
    unfolding restore_refusal
    too_short l = sym (answer true (lt-ltb _ _ l))

    pub restored : (hops : ℕ) (out : List ℕ) → get_or slots 1 0 ≤ length output → hops ≡ longest_chain (versions_in bytes b h slots)
        → out ≡ image_of bytes storage (versions_in bytes b h slots) ++ drop (get_or slots 1 0) output
        → record { refusal = 0; length = get_or slots 1 0; hops = hops; output = out } ≡ restore_from bytes storage (first_of 0 [] (versions_in bytes b h slots)) output
    restored hops out l eh eo = (λ i. record { refusal = 0; length = get_or slots 1 0; hops = eh i; output = eo i }) ∙ sym (answer false (le-ltb _ _ l))

-- a length whose blocks are few
pub first_fits : (m : Measures) (n b len : ℕ) → Measured m → n ≡ parts_for m.block_bytes len → n ≤ b → b ≤ 1024 → len < 18446744073709551616
first_fits m n b len ok e h k =
    let enough : len ≤ parts_for m.block_bytes len * m.block_bytes = parts_enough m.block_bytes len (omega (arith, ok.some_bytes)) in
    let few : parts_for m.block_bytes len ≤ 1024 = omega (arith, e, h, k) in
    let most : parts_for m.block_bytes len * m.block_bytes ≤ 1024 * 512 = mul-le-mul few ok.most_bytes in
    omega (arith, enough, most)

-- ---- the slots of a till

module _ {pool table : List ℕ} (h : Sound pool table) where
  -- the shape that the header gives
  abbrev pub s : Shape
  s = record {
    measures = (shape_of table).measures;
    capacities = record { tills = get_or table 0 0; versions = get_or table 1 0; blocks = get_or table 2 0; records = get_or table 3 0; cells = get_or table 4 0 };
  }

  abbrev pub st : State
  st = state_in (shape_of table) pool table

  pub sound : is_sound s st ≡ true
  unfolding shape_of
  sound = (found h).sound

  -- the records
  pub records_lent : take (length table - records_at (shape_of table).capacities) (drop (records_at (shape_of table).capacities) table) ≡ words_of s st sound
  unfolding shape_of
  records_lent = tail_all table (records_at (shape_of table).capacities) ∙ ap (drop (records_at (shape_of table).capacities)) (sym (found h).words)

  module _ (t : ℕ) (in_table : t < get_or table 0 0) (j : ℕ) (held : j < length (till h t in_table).versions) where
    abbrev pub vs : List Version
    vs = drop j (till h t in_table).versions

    -- the slots from version j on
    pub slots_lent : (n : ℕ) → n ≡ length vs * (3 + get_or table 2 0) → take n (drop (till_at (shape_of table) t + (4 + j * (3 + get_or table 2 0))) table) ≡ rows (version_to_words (get_or table 2 0)) vs
    unfolding shape_of till_of empty_till
    slots_lent n e =
        let w : ℕ = till_words (get_or table 1 0) (get_or table 2 0) in
        let q : length vs ≡ length (till h t in_table).versions - j = length-drop j (till h t in_table).versions in
        let a : (length vs + j) * (3 + get_or table 2 0) ≤ get_or table 1 0 * (3 + get_or table 2 0) = mul-le-mul_right (3 + get_or table 2 0) (omega (arith, q, few h t in_table)) in
        let m : 4 + j * (3 + get_or table 2 0) + n ≤ w = omega (arith, e, a, add-mul (length vs) j (3 + get_or table 2 0)) in
        sym (part_part table (till_at (shape_of table) t) w (4 + j * (3 + get_or table 2 0)) n m)
        ∙ ap (λ (ws : List ℕ). take n (drop (4 + j * (3 + get_or table 2 0)) ws)) (till_words_lem h t in_table)
        ∙ ap (λ (k : ℕ). take k (drop (4 + j * (3 + get_or table 2 0)) (till_to_words (get_or table 1 0) (get_or table 2 0) (till h t in_table)))) e
        ∙ slots_are s st sound t (there h t in_table) j held

    -- with what is lent in variables
    module _ (ws ss : List ℕ) (n : ℕ) (ew : ws ≡ words_of s st sound) (es : ss ≡ rows (version_to_words (get_or table 2 0)) vs) (en : n ≡ length vs) where
      pub storage_lent : storage_in (shape_of table).measures pool ws ≡ st.storage
      storage_lent = ap₂ (storage_in (shape_of table).measures) (sym (found h).bytes) ew ∙ sound_storage s st sound

      pub versions_lent : versions_in (shape_of table).measures.block_bytes (get_or table 2 0) n ss ≡ vs
      unfolding till_of empty_till
      versions_lent = rw (en, es) (slots_read s st sound t (there h t in_table) j held)

      pub all_lent : Lent (shape_of table).measures (get_or table 2 0) n pool ws ss
      unfolding till_of empty_till
      all_lent = record {
        stored = rw ew (subst (λ (p : List ℕ). Stored (shape_of table).measures p (words_of s st sound)) (found h).bytes (sound_stored s st sound));
        traceable = rw (en, es) (sound_traceable s st sound t (there h t in_table) j held);
        fit = rw (en, es, ew) (sound_direct s st sound t (there h t in_table) j held);
        blocks = rw (en, es) (sound_blocks s st sound t (there h t in_table) j held);
      }

-- ---- as the code has them

module _ {pool table : List ℕ} (h : Sound pool table) (t : ℕ) (in_table : t < get_or table 0 0) (r : Head) (o : HeadOf pool table t r) (j : ℕ) (hj : j < r.held)
    (base : ℕ) (eb : base ≡ records_at (shape_of table).capacities) (m : Measures) (em : m ≡ (shape_of table).measures) where
  abbrev pub w : ℕ
  w = 3 + get_or table 2 0

  held_j : j < length (till h t in_table).versions
  held_j = omega (arith, hj, o.held)

  -- where the slots lie
  pub slots_in : (j * w + w ≤ r.held * w) × (r.at + 4 + r.held * w ≤ length table) × (length table ≤ 1195080) × (w ≤ 1027) × (base ≤ length table)
  unfolding shape_of table_words
  slots_in =
      let w35 : record_words (shape_of table).measures.segment_blocks ≤ 35 = omega (arith, (header h).measured.most_blocks) in
      let rows35 : get_or table 3 0 * record_words (shape_of table).measures.segment_blocks ≤ 4096 * 35 = mul-le-mul (header h).records w35 in
      let a : suc j * w ≤ r.held * w = mul-le-mul_right w hj in
      let b : length (till h t in_table).versions * w ≤ get_or table 1 0 * w = mul-le-mul_right w (few h t in_table) in
      let q : r.held * w ≡ length (till h t in_table).versions * w = ap (λ (n : ℕ). n * w) o.held in
      let d = header h in
      let (_, e) = sizes (get_or table 0 0) (get_or table 1 0) (get_or table 2 0) d.tills d.versions d.blocks in
      (omega (arith, a, suc-mul j w), omega (arith, b, q, o.at, in_words h t in_table), omega (arith, e, long h, rows35), omega (arith, d.blocks), omega (arith, eb, long h))

  abbrev pub words_lent : List ℕ
  words_lent = take (length table - base) (drop base table)

  abbrev pub slots_part : List ℕ
  slots_part = take (r.at + 4 + r.held * w - (r.at + 4 + j * w)) (drop (r.at + 4 + j * w) table)

  words_are : words_lent ≡ words_of (s h) (st h) (sound h)
  words_are = ap (λ (k : ℕ). take (length table - k) (drop k table)) eb ∙ records_lent h

  count_is : r.held - j ≡ length (vs h t in_table j held_j)
  count_is = omega (arith, length-drop j (till h t in_table).versions, o.held)

  slots_are_lent : slots_part ≡ rows (version_to_words (get_or table 2 0)) (vs h t in_table j held_j)
  slots_are_lent =
      let a : r.at + 4 + j * w ≡ till_at (shape_of table) t + (4 + j * w) = omega (arith, o.at) in
      let whole : r.held ≡ length (vs h t in_table j held_j) + j = omega (arith, count_is, hj) in
      let n : r.at + 4 + r.held * w - (r.at + 4 + j * w) ≡ length (vs h t in_table j held_j) * w = omega (arith, add-mul (length (vs h t in_table j held_j)) j w, ap (λ (m : ℕ). m * w) whole) in
      ap (λ (m : ℕ). take (r.at + 4 + r.held * w - (r.at + 4 + j * w)) (drop m table)) a ∙ slots_lent h t in_table j held_j _ n

  pub lent : Lent m (get_or table 2 0) (r.held - j) pool words_lent slots_part
  lent = rw em (all_lent h t in_table j held_j words_lent slots_part (r.held - j) words_are slots_are_lent count_is)

  pub from_there : (output : List ℕ) → restore_from m.block_bytes (storage_in m pool words_lent) (first_of 0 [] (versions_in m.block_bytes (get_or table 2 0) (r.held - j) slots_part)) output
      ≡ restore_from (shape_of table).measures.block_bytes (state_in (shape_of table) pool table).storage (first_of 0 [] (drop j (till_of (state_in (shape_of table) pool table) t).versions)) output
  from_there output =
      rw em (ap₂ (λ (x : Storage) (us : List Version). restore_from (shape_of table).measures.block_bytes x (first_of 0 [] us) output) (storage_lent h t in_table j held_j words_lent slots_part (r.held - j) words_are slots_are_lent count_is)
      (versions_lent h t in_table j held_j words_lent slots_part (r.held - j) words_are slots_are_lent count_is))
