-- A retire, step by step and case by case.
use mathlib.Core.Path.{◌≡◌, refl, sym, ap, ap₂, ◌∙◌, subst}
use mathlib.Core.List.{List, [], ◌∷◌, ◌++◌, map}
use Prim.Native.Nat.{ℕ, suc, ◌+◌, ◌*◌, ◌-◌, ◌^◌, ◌≤◌, ◌<◌, zero-le}
use native.Mathlib.Nat.{mul-le-mul, mul-le-mul_right}
use native.Mathlib.Omega.{arith}
use lib.ListN.{length, get_or, set, take, drop, replicate, length-take, length-drop, length-map, length-append, length-replicate, take-append-drop}
use lib.Seq.{take_at, length-take-le}
use borrow.Author.Tests.{le-leb, lt-leb}
use Rattle.lists.specs.Lists.{last_of}
use Rattle.lists.proofs.Last.{last_each}
use Rattle.lists.specs.Rows.{rows}
use Rattle.lists.specs.Each.{Each}
use Rattle.lists.proofs.Each.{each_at, each_take}
use Rattle.lists.proofs.Slices.{drop_next, take_next, part_part, part_get}
use Rattle.model.specs.Measures.{Measures, Shape, Capacities, parts_for, till_words, record_words, table_words, records_at}
use Rattle.model.specs.State.{Pointer, Version, Rights, Till, Storage, State}
use Rattle.model.specs.Records.{count_of}
use Rattle.model.specs.Sweep.{release, claim, sweep}
use Rattle.model.specs.Table.{pointer_word, word_to_pointer, version_to_words, till_to_words, record_to_words, records_part, records_in, shape_of, state_in, storage_in, state_to_words, state_to_bytes}
use Rattle.model.specs.Calls.{After, empty_till, till_of, Lookup, missing, first_of, look_up, newest_pointers, with_newest_pointers, taken, take_over, close_up, with_till, retire_from, retire, retire_in, retire_of}
use Rattle.model.specs.Calls as calls
use Rattle.laws.proofs.Bounds.{count_bound}
use Rattle.laws.proofs.Fits.{VersionFits, PointerFits}
use Rattle.laws.proofs.Measures.{sizes, parts_enough}
use Rattle.laws.proofs.Newest.{newest_last}
use Rattle.laws.proofs.RoundTrip.{length_till, held_word, pointers_back}
use Rattle.laws.specs.Stores.{till_at, Sound}
use Rattle.laws.proofs.Stores.{till_is, till_put, records_put, header, found, fits, fit, long}
use Rattle.laws.proofs.Tills.{there, till_words_lem, few, in_words, slot_in}
use Rattle.sound_laws.proofs.Records.{part_is, storage_is}
use Rattle.restore_trace.specs.Versions.{no_version}
use Rattle.storage.specs.Stored.{Encodes, position_in}
use Rattle.storage.specs.Fits.{WithinRecords, NamesHeld}
use Rattle.slots.specs.Slots.{HasSlot}
use Rattle.sound_laws.proofs.Slots as slots
use Rattle.sound_laws.proofs.Pointers.{null_word, slot_row, version_words, version_pointers, version_fit, version_held}
use Rattle.std.proofs.Common.{Result, Ok, Err}
use Rattle.refusals.specs.declared.Refusal.{Refusal}
use Rattle.refusals.specs.Refusals.{number_of}
use Rattle.tills.specs.declared.Head.{Head}
use Rattle.tills.specs.Answers.{HeadOf, versions_held, LookedUp}
use Rattle.tills.proofs.Cases.{till_size}
use Rattle.retire.specs.Answers.{version_at, HoldsVersion, Copied, taken_word, take_over_word, exchanged, state_without, EncodesState, TillPlace, retired_at}
use Rattle.retire.proofs.Words.{taken_pointers, taken_each, over_words}

-- room for pointers
pub zeros_long : (n : ℕ) → length (replicate {A = ℕ} n 0) ≡ n
zeros_long n = length-replicate {0} {A = ℕ} n 0

-- a number of parts, by an equal measure
pub by_bytes : (a b n k : ℕ) → a ≡ b → k ≡ parts_for a n → k ≡ parts_for b n
by_bytes a b n k e h = h ∙ ap (λ (x : ℕ). parts_for x n) e

pub by_measures : (a b : Measures) (n k : ℕ) → a ≡ b → k ≡ parts_for a.block_bytes n → k ≡ parts_for b.block_bytes n
by_measures a b n k e h = by_bytes a.block_bytes b.block_bytes n k (ap (λ (m : Measures). m.block_bytes) e) h

-- ---- how long a table is

pub table_most : {pool table : List ℕ} → Sound pool table → (length table ≤ 1195080) × (records_at (shape_of table).capacities ≤ length table)
unfolding shape_of table_words
table_most {pool} {table} h =
    let (a, b) = sizes (get_or table 0 0) (get_or table 1 0) (get_or table 2 0) (header h).tills (header h).versions (header h).blocks in
    let w : record_words (shape_of table).measures.segment_blocks ≤ 35 = omega (arith, (header h).measured.most_blocks) in
    let rows : get_or table 3 0 * record_words (shape_of table).measures.segment_blocks ≤ 4096 * 35 = mul-le-mul (header h).records w in
    (omega (arith, b, long h, rows), omega (arith, long h))

-- ---- the slot of the version at place j

module _ {pool table : List ℕ} {t at j : ℕ} (h : HoldsVersion pool table t at j) where
  abbrev caps : Capacities
  caps = (shape_of table).capacities

  abbrev state : State
  state = state_in (shape_of table) pool table

  abbrev bytes : ℕ
  bytes = (shape_of table).measures.block_bytes

  abbrev v : ℕ
  v = get_or table 1 0

  abbrev b : ℕ
  b = get_or table 2 0

  abbrev slot : ℕ
  slot = at + (4 + j * (3 + b))

  ht : t < length state.tills
  ht = there h.sound t h.inside

  version_fits : VersionFits (shape_of table) (version_at pool table t j)
  unfolding shape_of till_of empty_till
  version_fits =
      each_at (VersionFits (shape_of table)) no_version (versions_held pool table t)
      (slots.till_fits (shape_of table) state (found h.sound).sound t ht).versions j h.held

  slot_fits : 4 + j * (3 + b) + (3 + b) ≤ till_words v b
  slot_fits = slot_in h.sound t h.inside j h.held

  slot_words_lem : take (3 + b) (drop slot table) ≡ version_to_words b (version_at pool table t j)
  unfolding shape_of till_of empty_till
  slot_words_lem =
      ap (λ (a : ℕ). take (3 + b) (drop (a + (4 + j * (3 + b))) table)) h.begins
      ∙ sym (part_part table (till_at (shape_of table) t) (till_words v b) (4 + j * (3 + b)) (3 + b) slot_fits)
      ∙ ap (λ (ws : List ℕ). take (3 + b) (drop (4 + j * (3 + b)) ws)) (till_words_lem h.sound t h.inside)
      ∙ slot_row (shape_of table) state (found h.sound).sound t ht j h.held

  pub length_word : get_or table (slot + 1) 0 ≡ (version_at pool table t j).length
  unfolding version_to_words
  length_word = sym (part_get table slot (3 + b) 1 0 (omega arith)) ∙ ap (λ (ws : List ℕ). get_or ws 1 0) slot_words_lem

  parts_are : parts_for bytes (get_or table (slot + 1) 0) ≡ length (version_at pool table t j).pointers
  unfolding shape_of
  parts_are = ap (parts_for bytes) length_word ∙ sym version_fits.blocks

  parts_most : parts_for bytes (get_or table (slot + 1) 0) ≤ b
  unfolding shape_of
  parts_most = omega (arith, parts_are, version_fits.most)

  pointer_words_lem : take (parts_for bytes (get_or table (slot + 1) 0)) (drop (slot + 3) table) ≡ map pointer_word (version_at pool table t j).pointers
  unfolding shape_of till_of empty_till version_to_words
  pointer_words_lem =
      sym (part_part table slot (3 + b) 3 (parts_for bytes (get_or table (slot + 1) 0)) (omega (arith, parts_most)))
      ∙ ap (λ (ws : List ℕ). take (parts_for bytes (get_or table (slot + 1) 0)) (drop 3 ws)) slot_words_lem
      ∙ ap (λ (n : ℕ). take (parts_for bytes n) (drop 3 (version_to_words b (version_at pool table t j)))) length_word
      ∙ version_words (shape_of table) state (found h.sound).sound t ht j h.held

  -- all that is read lies in the table
  pub room : (slot + 3 + parts_for bytes (get_or table (slot + 1) 0) ≤ length table) × (slot + 3 ≤ length table) × (parts_for bytes (get_or table (slot + 1) 0) ≤ 1024) × (get_or table (slot + 1) 0 ≤ 65536)
      × (length table ≤ 1195080) × (b ≤ 1024) × (8 ≤ length table)
  room =
      let k = parts_most in
      let d = header h.sound in
      let some : 0 < bytes = omega (arith, d.measured.some_bytes) in
      let all : parts_for bytes (get_or table (slot + 1) 0) * bytes ≤ b * bytes = mul-le-mul_right bytes k in (
        omega (arith, k, h.begins, slot_fits, in_words h.sound t h.inside),
        omega (arith, h.begins, slot_fits, in_words h.sound t h.inside),
        omega (arith, k, d.blocks),
        omega (arith, parts_enough bytes (get_or table (slot + 1) 0) some, all, d.image),
        (table_most h.sound).0,
        d.blocks,
        d.eight,
      )

  -- with the number of pointers as the code has it
  module _ (k : ℕ) (ek : k ≡ parts_for bytes (get_or table (slot + 1) 0)) where
    copied_length : length (take (slot + 3 + k - (slot + 3)) (drop (slot + 3) table)) ≡ k
    copied_length =
        let z : slot + 3 + k - (slot + 3) ≡ k = omega arith in
        rw (z, ek) (ap length pointer_words_lem ∙ length-map (version_at pool table t j).pointers pointer_word ∙ sym parts_are)

    pub copy_in_table : slot + 3 + k ≤ length table
    copy_in_table = omega (arith, room.0, ek)

    pub copy_room : (d : List ℕ) → length d ≡ 1024 → length (take (slot + 3 + k - (slot + 3)) (drop (slot + 3) table)) ≤ length d
    copy_room d l = omega (arith, l, room.2, ek, copied_length)

    pub copied : (d ws : List ℕ) → length d ≡ 1024
        → ws ≡ take (slot + 3 + k - (slot + 3)) (drop (slot + 3) table) ++ drop (length (take (slot + 3 + k - (slot + 3)) (drop (slot + 3) table))) d
        → Copied pool table t j (get_or table (slot + 1) 0) ws
    copied d ws l e =
        let src : List ℕ = take (slot + 3 + k - (slot + 3)) (drop (slot + 3) table) in
        let z : slot + 3 + k - (slot + 3) ≡ k = omega arith in
        let front : take k ws ≡ map pointer_word (version_at pool table t j).pointers =
        ap (take k) e ∙ take_at src (drop (length src) d) k copied_length ∙ ap (λ (i : ℕ). take i (drop (slot + 3) table)) z
        ∙ ap (λ (i : ℕ). take i (drop (slot + 3) table)) ek ∙ pointer_words_lem in
        record {
          bytes = length_word;
          words = ap (λ (i : ℕ). take i ws) (sym ek) ∙ front;
          room = omega (arith, ek, ap length e, length-append src (drop (length src) d), copied_length);
        }

  -- what counting its pointers requires
  pub length_most : (n : ℕ) (ws : List ℕ) → Copied pool table t j n ws → (m : ℕ) → m ≡ bytes → (0 < m) × (m ≤ 512) × (n ≤ 4294967295)
  length_most n ws o m em =
      let d = (header h.sound).measured in
      (rw em (omega (arith, d.some_bytes)), rw em d.most_bytes, omega (arith, o.bytes, length_word, room.3))

  -- the copied words are the version's pointers
  module _ (n : ℕ) (ws : List ℕ) (o : Copied pool table t j n ws) (k : ℕ) (ek : k ≡ parts_for bytes n) where
    pub front_words : take k ws ≡ map pointer_word (version_at pool table t j).pointers
    front_words = ap (λ (i : ℕ). take i ws) ek ∙ o.words

    pub front_room : (k ≤ length ws) × (k ≤ b)
    unfolding shape_of
    front_room = (omega (arith, ek, o.room), omega (arith, ek, ap (parts_for bytes) o.bytes, version_fits.blocks, version_fits.most))

    pub front_long : length (take k ws) ≡ k
    front_long = length-take-le k ws front_room.0

  -- its pointers can be followed, and name held positions
  pub gone_fit : (i : ℕ) → WithinRecords (shape_of table).measures.segment_blocks (length (drop (records_at (shape_of table).capacities) table)) (word_to_pointer (get_or (map pointer_word (version_at pool table t j).pointers) i 0))
  unfolding shape_of till_of empty_till
  gone_fit i =
      subst (λ (w : List ℕ). WithinRecords (shape_of table).measures.segment_blocks (length (records_part caps w)) (word_to_pointer (get_or (map pointer_word (version_at pool table t j).pointers) i 0))) (found h.sound).words
      (version_fit (shape_of table) state (found h.sound).sound t ht j h.held i)

  pub gone_held : (i : ℕ) → NamesHeld (records_in (shape_of table).measures.segment_blocks (drop (records_at (shape_of table).capacities) table)) (word_to_pointer (get_or (map pointer_word (version_at pool table t j).pointers) i 0))
  unfolding shape_of till_of empty_till state_in storage_in
  gone_held i = version_held (shape_of table) state (found h.sound).sound t ht j h.held i

-- ---- the older neighbour

older_is : (vs : List Version) (j : ℕ) → (j ≡ 0 → ⊥) → j ≤ length vs → newest_pointers (take j vs) ≡ (get_or vs (j - 1) no_version).pointers
older_is vs j z h =
    let e : j ≡ j - 1 + 1 = omega (arith, z) in
    ap (λ (k : ℕ). newest_pointers (take k vs)) e ∙ ap newest_pointers (take_next vs (j - 1) no_version (omega (arith, z, h))) ∙ newest_last (take (j - 1) vs) (get_or vs (j - 1) no_version)

module _ {pool table : List ℕ} {t at j : ℕ} (h : HoldsVersion pool table t at j) where
  pub holds_older : (j ≡ 0 → ⊥) → HoldsVersion pool table t at (j - 1)
  holds_older z = record { sound = h.sound; inside = h.inside; begins = h.begins; held = omega (arith, h.held) }

  pub older_none : j ≡ 0 → (ws : List ℕ) → take 0 ws ≡ map pointer_word (newest_pointers (take j (versions_held pool table t)))
  unfolding last_of newest_pointers
  older_none z ws = rw z refl

  pub older_some : (z : j ≡ 0 → ⊥) (n : ℕ) (ws : List ℕ) → Copied pool table t (j - 1) n ws → (k : ℕ) → k ≡ parts_for (shape_of table).measures.block_bytes n
      → (take k ws ≡ map pointer_word (newest_pointers (take j (versions_held pool table t)))) × (k ≤ 1024)
  older_some z n ws o k ek = (
    front_words (holds_older z) n ws o k ek ∙ ap (map pointer_word) (sym (older_is (versions_held pool table t) j z (omega (arith, h.held)))),
    omega (arith, (front_room (holds_older z) n ws o k ek).1, (header h.sound).blocks),
  )

  pointers_each : (vs : List Version) → Each (VersionFits (shape_of table)) vs → Each PointerFits (newest_pointers vs)
  unfolding newest_pointers
  pointers_each vs e = last_each (λ (v : Version). v.pointers) (VersionFits (shape_of table)) (Each PointerFits) (λ v f. f.pointers) [] tt vs e

  pub older_fit : Each PointerFits (newest_pointers (take j (versions_held pool table t)))
  unfolding shape_of till_of empty_till
  older_fit =
      pointers_each (take j (versions_held pool table t))
      (each_take (VersionFits (shape_of table)) j (versions_held pool table t) (slots.till_fits (shape_of table) (state_in (shape_of table) pool table) (found h.sound).sound t (there h.sound t h.inside)).versions)

-- ---- counts that rise and fall

module _ {pool table : List ℕ} (h : Sound pool table) (r : ℕ) (e : r ≡ records_at (shape_of table).capacities) where
  pub records_in_lem : (r ≤ length table) × (length table ≤ 1195080)
  records_in_lem = let (a, b) = table_most h in (omega (arith, e, b), a)

  exchanges : (p w : List ℕ) (ts gs : List Pointer)
      → Encodes (shape_of table).measures p w (sweep (shape_of table).measures (release (claim (storage_in (shape_of table).measures pool (take (length table - r) (drop r table))) ts) gs))
      → EncodesState (shape_of table) (exchanged pool table ts gs) p (take r table ++ (w ++ drop (length table - r) (drop r table)))
  unfolding state_to_bytes
  exchanges p w ts gs o =
      let s : Shape = shape_of table in
      let st : State = state_in (shape_of table) pool table in
      let to : Storage = sweep (shape_of table).measures (release (claim st.storage ts) gs) in
      let q : Encodes (shape_of table).measures p w to = subst (λ (x : Storage). Encodes (shape_of table).measures p w (sweep (shape_of table).measures (release (claim x ts) gs))) (storage_is h r e) o in
      record {
        bytes = q.cells.joins;
        words =
            ap (λ (k : ℕ). take k table ++ (w ++ drop (length table - k) (drop k table))) e
            ∙ ap (λ (l : List ℕ). take (records_at s.capacities) table ++ (l ++ drop (length table - records_at s.capacities) (drop (records_at s.capacities) table))) q.records.words
            ∙ subst (λ (l : List ℕ). take (records_at s.capacities) l ++ (rows record_to_words to.records ++ drop (length l - records_at s.capacities) (drop (records_at s.capacities) l)) ≡ state_to_words s (record { tills = st.tills; storage = record { records = to.records; cells = to.cells } }))
            (found h).words (records_put s st (fits h).till_count to.records to.cells);
      }

  counts_few : (k i : ℕ) → count_of (position_in (records_in (shape_of table).measures.segment_blocks (take (length table - r) (drop r table))) k i) ≤ 1048576
  unfolding storage_in
  counts_few k i =
      subst (λ (x : Storage). count_of (position_in x.records k i) ≤ 1048576) (sym (storage_is h r e))
      (count_bound (shape_of table) (fit h) (state_in (shape_of table) pool table) (found h).sound k i)

  -- with the measures as the code read them
  module _ (m : Measures) (em : m ≡ (shape_of table).measures) where
    pub there_read : (P : ℕ → List ℕ → Pointer → Type 0) (ps : List ℕ) → ((i : ℕ) → i < length ps → P (shape_of table).measures.segment_blocks (drop (records_at (shape_of table).capacities) table) (word_to_pointer (get_or ps i 0)))
        → (i : ℕ) → i < length ps → P m.segment_blocks (take (length table - r) (drop r table)) (word_to_pointer (get_or ps i 0))
    there_read P ps f i l = rw em (subst (λ (w : List ℕ). P (shape_of table).measures.segment_blocks w (word_to_pointer (get_or ps i 0))) (sym (part_is h r e)) (f i l))

    pub counts_read : (n : ℕ) → n ≤ 1024 → (k i : ℕ) → count_of (position_in (records_in m.segment_blocks (take (length table - r) (drop r table))) k i) + n < 2 ^ 32
    counts_read n l k i = rw em (omega (arith, counts_few k i, l))

    pub exchanged_read : (p w : List ℕ) (ts gs : List Pointer) → Encodes m p w (sweep m (release (claim (storage_in m pool (take (length table - r) (drop r table))) ts) gs))
        → EncodesState (shape_of table) (exchanged pool table ts gs) p (take r table ++ (w ++ drop (length table - r) (drop r table)))
    exchanged_read p w ts gs o = exchanges p w ts gs (subst (λ (n : Measures). Encodes n p w (sweep n (release (claim (storage_in n pool (take (length table - r) (drop r table))) ts) gs))) em o)

-- ---- the slot goes

module _ (s : Shape) (st : State) (t at n b : ℕ) (p : TillPlace s st t at n b) (ws : List ℕ) (e : ws ≡ state_to_words s st) where
  till_part : take n (drop at ws) ≡ till_to_words s.capacities.versions b (till_of st t)
  till_part = rw (e, p.begins, p.size, p.blocks) (till_is s st t p.there)

  part_long : length (take n (drop at ws)) ≡ n
  part_long = ap length till_part ∙ length_till s.capacities.versions b (till_of st t) ∙ ap (till_words s.capacities.versions) p.blocks ∙ sym p.size

  pub part_in : at + n ≤ length ws
  part_in = omega (arith, part_long, p.size, length-take n (drop at ws), length-drop at ws)

  pub slot_there : (j : ℕ) → j < length (till_of st t).versions → b ≤ 1024 → n ≤ 65732 → HasSlot b j (take n (drop at ws))
  slot_there j l small most =
      let w : get_or (take n (drop at ws)) 1 0 ≡ length (till_of st t).versions = ap (λ (x : List ℕ). get_or x 1 0) till_part ∙ held_word s.capacities.versions b (till_of st t) in
      let m : length (till_of st t).versions * (3 + b) ≤ s.capacities.versions * (3 + b) = mul-le-mul_right (3 + b) p.few in
      record {
        small = small;
        long = omega (arith, part_long, most);
        held = omega (arith, w, l);
        slots = rw w (omega (arith, m, ap length till_part, length_till s.capacities.versions b (till_of st t)));
      }

  pub slot_closed : (j : ℕ) (older : List Version) (u : Version) (newer : List Version) (ps : List Pointer) (pws ys : List ℕ) → (till_of st t).versions ≡ older ++ (u ∷ newer)
      → ((v last : ℕ) (rights : List Rights) (os : List Version) (x : Version) (ns : List Version) (qs : List Pointer) → length os ≡ j → length (os ++ (x ∷ ns)) ≤ v
      → take (at + n - at) (drop at ws) ≡ till_to_words v b (record { last = last; rights = rights; versions = os ++ (x ∷ ns) }) → pws ≡ map pointer_word qs → length qs ≡ length (newest_pointers os)
      → ys ≡ till_to_words v b (record { last = last; rights = rights; versions = with_newest_pointers os qs ++ ns }))
      → length older ≡ j → pws ≡ map pointer_word ps → length ps ≡ length (newest_pointers older)
      → take at ws ++ (ys ++ drop (at + n - at) (drop at ws)) ≡ state_to_words s (record { tills = set st.tills t (record { last = (till_of st t).last; rights = (till_of st t).rights; versions = with_newest_pointers older ps ++ newer }); storage = st.storage })
  slot_closed j older u newer ps pws ys ev f lo ep lp =
      let k : at + n - at ≡ n = omega arith in
      let new : Till = record { last = (till_of st t).last; rights = (till_of st t).rights; versions = with_newest_pointers older ps ++ newer } in
      let part : take (at + n - at) (drop at ws) ≡ till_to_words s.capacities.versions b (record { last = (till_of st t).last; rights = (till_of st t).rights; versions = older ++ (u ∷ newer) }) =
      ap (λ (m : ℕ). take m (drop at ws)) k ∙ till_part ∙ ap (λ (vs : List Version). till_to_words s.capacities.versions b (record { last = (till_of st t).last; rights = (till_of st t).rights; versions = vs })) ev in
      let y : ys ≡ till_to_words s.capacities.versions b new = f s.capacities.versions (till_of st t).last (till_of st t).rights older u newer ps lo (subst (λ (vs : List Version). length vs ≤ s.capacities.versions) ev p.few) part ep lp in
      rw (y, k, e, p.begins, p.size, p.blocks) (till_put s st t p.there new)

-- ---- the whole

module _ {pool table : List ℕ} {t at j : ℕ} (h : HoldsVersion pool table t at j) where
  abbrev vs : List Version
  vs = versions_held pool table t

  abbrev gone_pointers : List Pointer
  gone_pointers = (version_at pool table t j).pointers

  abbrev older_pointers : List Pointer
  older_pointers = newest_pointers (take j (versions_held pool table t))

  from_here : drop j (versions_held pool table t) ≡ version_at pool table t j ∷ drop (suc j) (versions_held pool table t)
  from_here =
      drop_next (versions_held pool table t) j no_version h.held
      ∙ ap (λ (k : ℕ). version_at pool table t j ∷ drop k (versions_held pool table t)) (let e : j + 1 ≡ suc j = omega arith in e)

  pub split : versions_held pool table t ≡ take j (versions_held pool table t) ++ (version_at pool table t j ∷ drop (suc j) (versions_held pool table t))
  split = sym (take-append-drop j (versions_held pool table t)) ∙ ap (λ (l : List Version). take j (versions_held pool table t) ++ l) from_here

  pub before_long : length (take j (versions_held pool table t)) ≡ j
  before_long = length-take-le j (versions_held pool table t) (omega (arith, h.held))

  pub placed : (ts gs : List Pointer) (n : ℕ) → n ≡ till_size table → TillPlace (shape_of table) (exchanged pool table ts gs) t at n (get_or table 2 0)
  unfolding shape_of till_of
  placed ts gs n e = record {
    there = there h.sound t h.inside;
    begins = h.begins;
    blocks = refl;
    size = e;
    few = few h.sound t h.inside;
  }

  pub size_most : (n : ℕ) → n ≡ till_size table → (n ≤ 65732) × (get_or table 2 0 ≤ 1024)
  size_most n e =
      let d = header h.sound in
      let (a, b) = sizes 16 (get_or table 1 0) (get_or table 2 0) (omega arith) d.versions d.blocks in
      (omega (arith, e, a), d.blocks)

  newest_most : (us : List Version) → Each (VersionFits (shape_of table)) us → length (newest_pointers us) ≤ get_or table 2 0
  unfolding newest_pointers shape_of
  newest_most us e =
      last_each (λ (u : Version). u.pointers) (VersionFits (shape_of table)) (λ (ps : List Pointer). length ps ≤ get_or table 2 0) (λ u f. f.most) [] zero-le us e

  pub older_most : length older_pointers ≤ get_or table 2 0
  unfolding shape_of till_of empty_till
  older_most =
      newest_most (take j (versions_held pool table t))
      (each_take (VersionFits (shape_of table)) j (versions_held pool table t)
      (slots.till_fits (shape_of table) (state_in (shape_of table) pool table) (found h.sound).sound t (there h.sound t h.inside)).versions)

  -- what is taken over can be followed too
  pub taken_there : (gone older : List ℕ) → gone ≡ map pointer_word gone_pointers → (i : ℕ)
      → WithinRecords (shape_of table).measures.segment_blocks (length (drop (records_at (shape_of table).capacities) table)) (word_to_pointer (get_or (map (taken_word gone) older) i 0))
      × NamesHeld (records_in (shape_of table).measures.segment_blocks (drop (records_at (shape_of table).capacities) table)) (word_to_pointer (get_or (map (taken_word gone) older) i 0))
  taken_there gone older e i =
      let segs = records_in (shape_of table).measures.segment_blocks (drop (records_at (shape_of table).capacities) table) in
      let l : ℕ = length (drop (records_at (shape_of table).capacities) table) in
      taken_each (λ (w : ℕ). WithinRecords (shape_of table).measures.segment_blocks l (word_to_pointer w) × NamesHeld segs (word_to_pointer w)) gone older
      (rw null_word (unfold WithinRecords NamesHeld in (tt, tt))) (λ n. rw e (gone_fit h n, gone_held h n)) i

  pub taken_words : (gone older : List ℕ) → gone ≡ map pointer_word gone_pointers → older ≡ map pointer_word older_pointers → map word_to_pointer (map (taken_word gone) older) ≡ map (taken gone_pointers) older_pointers
  unfolding shape_of till_of empty_till
  taken_words gone older eg eo =
      taken_pointers gone older
      ∙ ap (λ (ps : List Pointer). map (taken ps) (map word_to_pointer older)) (ap (map word_to_pointer) eg ∙ version_pointers (shape_of table) (state_in (shape_of table) pool table) (found h.sound).sound t (there h.sound t h.inside) j h.held)
      ∙ ap (map (taken gone_pointers)) (ap (map word_to_pointer) eo ∙ pointers_back older_pointers (older_fit h))

  pub gone_pointers_lem : (gone : List ℕ) → gone ≡ map pointer_word gone_pointers → map word_to_pointer gone ≡ gone_pointers
  unfolding shape_of till_of empty_till
  gone_pointers_lem gone eg = ap (map word_to_pointer) eg ∙ version_pointers (shape_of table) (state_in (shape_of table) pool table) (found h.sound).sound t (there h.sound t h.inside) j h.held

  pub over_pointers : (gone older : List ℕ) → gone ≡ map pointer_word gone_pointers → older ≡ map pointer_word older_pointers → map (take_over_word gone) older ≡ map pointer_word (map (take_over gone_pointers) older_pointers)
  over_pointers gone older eg eo = rw (eg, eo) (over_words gone_pointers older_pointers (older_fit h))

  without : (ts gs : List Pointer) → ts ≡ map (taken gone_pointers) older_pointers → gs ≡ gone_pointers → (p w w' : List ℕ) → EncodesState (shape_of table) (exchanged pool table ts gs) p w
      → w' ≡ state_to_words (shape_of table) (record {
        tills = set (exchanged pool table ts gs).tills t (record {
          last = (till_of (exchanged pool table ts gs) t).last;
          rights = (till_of (exchanged pool table ts gs) t).rights;
          versions = with_newest_pointers (take j (versions_held pool table t)) (map (take_over gone_pointers) older_pointers) ++ drop (suc j) (versions_held pool table t);
        });
        storage = (exchanged pool table ts gs).storage;
      })
      → EncodesState (shape_of table) (state_without pool table t j) p w'
  unfolding with_till close_up till_of state_to_bytes
  without ts gs et eg p w w' a e =
      let st : State = state_in (shape_of table) pool table in
      let cells : State = exchanged pool table (map (taken gone_pointers) older_pointers) gone_pointers in
      record {
        bytes = a.bytes ∙ ap₂ (λ (x y : List Pointer). state_to_bytes (exchanged pool table x y)) et eg;
        words = e ∙ ap₂ (λ (x y : List Pointer). state_to_words (shape_of table) (record { tills = set st.tills t (record { last = (till_of st t).last; rights = (till_of st t).rights; versions = with_newest_pointers (take j (versions_held pool table t)) (map (take_over gone_pointers) older_pointers) ++ drop (suc j) (versions_held pool table t) }); storage = (exchanged pool table x y).storage })) et eg;
      }

  -- the steps of the call, with the words as they pass them on
  module _ (gone older over took : List ℕ) (eg : gone ≡ map pointer_word gone_pointers) (eo : older ≡ map pointer_word older_pointers) (ev : over ≡ map (take_over_word gone) older)
      (et : took ≡ map (taken_word gone) older) where
    pub taken_few : length took ≤ 1024
    taken_few =
        omega (
          arith,
          ap length et,
          length-map older (taken_word gone),
          ap length eo,
          length-map older_pointers pointer_word,
          older_most,
          (header h.sound).blocks,
        )

    module _ (n : ℕ) (en : n ≡ till_size table) (p w : List ℕ) (a : EncodesState (shape_of table) (exchanged pool table (map word_to_pointer took) (map word_to_pointer gone)) p w) where
      pub close_meets : (at + n ≤ length w) × HasSlot (get_or table 2 0) j (take n (drop at w)) × (length over ≤ get_or table 2 0)
      unfolding till_of
      close_meets =
          let pl = placed (map word_to_pointer took) (map word_to_pointer gone) n en in
          let (most, small) = size_most n en in (
            part_in _ _ _ _ _ _ pl w a.words,
            slot_there _ _ _ _ _ _ pl w a.words j h.held small most,
            omega (arith, ap length ev, length-map older (take_over_word gone), ap length eo, length-map older_pointers pointer_word, older_most),
          )

      pub finished : (w' : List ℕ)
          → ((s : Shape) (st : State) (u : ℕ) (before : List Version) (x : Version) (newer : List Version) (ps : List Pointer) → TillPlace s st u at n (get_or table 2 0) → (till_of st u).versions ≡ before ++ (x ∷ newer) → length before ≡ j
          → w ≡ state_to_words s st → over ≡ map pointer_word ps → length ps ≡ length (newest_pointers before)
          → w' ≡ state_to_words s (record { tills = set st.tills u (record { last = (till_of st u).last; rights = (till_of st u).rights; versions = with_newest_pointers before ps ++ newer }); storage = st.storage }))
          → EncodesState (shape_of table) (state_without pool table t j) p w'
      unfolding till_of
      finished w' f =
          let ts : List Pointer = map word_to_pointer took in
          let gs : List Pointer = map word_to_pointer gone in
          without ts gs (ap (map word_to_pointer) et ∙ taken_words gone older eg eo) (gone_pointers_lem gone eg) p w w' a
          (f (shape_of table) (exchanged pool table ts gs) t (take j (versions_held pool table t)) (version_at pool table t j) (drop (suc j) (versions_held pool table t)) (map (take_over gone_pointers) older_pointers)
          (placed ts gs n en) split before_long a.words (ev ∙ over_pointers gone older eg eo) (length-map older_pointers (take_over gone_pointers)))

  pub answered : (n : ℕ) (p w : List ℕ) → n ≡ (version_at pool table t j).length → EncodesState (shape_of table) (state_without pool table t j) p w
      → record { refusal = 0; length = n; pool = p; table = w } ≡ retired_at pool table t j
  unfolding calls.retire_answer retire_from first_of
  answered n p w en a =
      (λ i. record { refusal = 0; length = en i; pool = a.bytes i; table = a.words i })
      ∙ ap (λ (l : List Version). calls.retire_answer pool table (shape_of table) (retire_from (shape_of table) (state_in (shape_of table) pool table) t (till_of (state_in (shape_of table) pool table) t) (first_of 0 (take j (versions_held pool table t)) l))) (sym from_here)

-- ---- the refusals

module _ {pool table : List ℕ} (h : Sound pool table) (t n : ℕ) where
  pub no_till_lem : get_or table 0 0 ≤ t → record { refusal = 3; length = 0; pool = pool; table = table } ≡ retire_of pool table t n
  unfolding retire_of retire_in retire calls.retire_answer shape_of
  no_till_lem l = rw (h.is, le-leb _ _ l)

  module _ (in_table : t < get_or table 0 0) (r : Head) (o : HeadOf pool table t r) (f : Result ℕ Refusal) (p : LookedUp pool table t n f) where
    answer : (l : Lookup) → look_up (till_of (state_in (shape_of table) pool table) t) n ≡ l
        → retire_of pool table t n ≡ calls.retire_answer pool table (shape_of table) (retire_from (shape_of table) (state_in (shape_of table) pool table) t (till_of (state_in (shape_of table) pool table) t) l)
    unfolding retire_of retire_in retire shape_of
    answer l e = rw (h.is, lt-leb _ _ in_table, e)

    pub held_at : (j : ℕ) → f ≡ Ok j → retired_at pool table t j ≡ retire_of pool table t n
    held_at j q = sym (answer _ (p.held j q))

    pub not_held_lem : (e : Refusal) → f ≡ Err e → record { refusal = number_of e; length = 0; pool = pool; table = table } ≡ retire_of pool table t n
    unfolding calls.retire_answer retire_from
    not_held_lem e q = sym (answer (missing (number_of e)) (p.missing e q))

    pub holds : (j : ℕ) → f ≡ Ok j → HoldsVersion pool table t r.at j
    holds j q = record { sound = h; inside = in_table; begins = o.at; held = p.inside j q }
