-- The premises of the steps, one after the other, from what the call begins with.
use mathlib.Core.Path.{◌≡◌, refl, sym, ap, ◌∙◌, subst}
use mathlib.Core.List.{List, map}
use Prim.Native.Nat.{ℕ, zero, suc, ◌+◌, ◌*◌, ◌-◌, ◌≤◌, ◌<◌}
use native.Mathlib.Nat.{mul_assoc, mul_comm, mul-le-mul, mul-le-mul_left, mul-le-mul_right, suc-mul, zero-mul}
use native.Mathlib.Omega.{arith}
use lib.ListN.{length, get_or, take, drop, length-take}
use lib.Seq.{length-take-le}
use Rattle.model.specs.Measures.{Measures, parts_for, record_words, table_words, records_at}
use Rattle.model.specs.State.{Pointer, Outcome, refused, done}
use Rattle.model.specs.Place.{Placed}
use Rattle.model.specs.Table.{shape_of, state_in, till_to_words, pointer_word, word_to_pointer}
use Rattle.model.specs.Calls.{till_of, backup_dated_of}
use Rattle.laws.specs.Ranges.{Measured}
use Rattle.laws.proofs.Image.{blocks_length}
use Rattle.laws.proofs.Remaining.{newest_suffices}
use Rattle.laws.specs.Storage.{Suffices}
use Rattle.laws.proofs.Measures.{sizes, parts_enough, parts_few, parts_least}
use Rattle.laws.specs.Stores.{Sound, till_at}
use Rattle.laws.proofs.Stores.{till_is, header, long, fit, found}
use Rattle.laws.proofs.Tills.{there, in_words, till_words_lem}
use Rattle.tills.specs.declared.Head.{Head}
use Rattle.tills.specs.Answers.{HeadOf}
use Rattle.tills.proofs.Cases.{till_size}
use Rattle.backup_accept.specs.Accept.{Accepted}
use Rattle.place.specs.All.{segments_in}
use Rattle.chain.specs.Limit.{within}
use Rattle.backup.specs.Backup.{measures_on, blocks_on, limited_on, StoreInPre, swept_state, StoreInResult, FilePre, FileResult}
use Rattle.backup.specs.Call.{newest_of, BackupPre}
use Rattle.backup.proofs.Answers.{refused_answer, filed_answer}
use Rattle.backup.proofs.Tills.{till_room, till_left, prev_pointed}

module _ {pool table : List ℕ} (h : Sound pool table) (t : ℕ) (in_table : t < get_or table 0 0) (at n : ℕ) (ea : at ≡ till_at (shape_of table) t) (en : n ≡ till_size table) where
  pub till_in_lem : (at + n ≤ length table) × (length table ≤ 1195080) × (at + n ≤ 1051720)
  unfolding shape_of table_words
  till_in_lem =
      let d = header h in
      let (_, e) = sizes (get_or table 0 0) (get_or table 1 0) (get_or table 2 0) d.tills d.versions d.blocks in
      let w35 : record_words (shape_of table).measures.segment_blocks ≤ 35 = omega (arith, d.measured.most_blocks) in
      let rows35 : get_or table 3 0 * record_words (shape_of table).measures.segment_blocks ≤ 4096 * 35 = mul-le-mul d.records w35 in
      let i = in_words h t in_table in
      let m : suc t * till_size table ≤ get_or table 0 0 * till_size table = mul-le-mul_right (till_size table) in_table in
      (omega (arith, i, ea, en), omega (arith, e, long h, rows35), omega (arith, ea, en, e, m, suc-mul t (till_size table)))

  pub till_part : take (at + n - at) (drop at table) ≡ till_to_words (get_or table 1 0) (get_or table 2 0) (till_of (state_in (shape_of table) pool table) t)
  till_part =
      let w : at + n - at ≡ till_size table = omega (arith, en) in
      ap (λ (k : ℕ). take k (drop at table)) w ∙ ap (λ (k : ℕ). take (till_size table) (drop k table)) ea ∙ till_words_lem h t in_table

-- ---- the image

module _ {pool table : List ℕ} {t day : ℕ} {image : List ℕ} (h : Sound pool table) (a : Accepted pool table t day image) where
  pub image_most : length image ≤ 65536
  image_most = omega (arith, a.few, (header h).image, mul_comm (measures_on table).block_bytes (get_or table 2 0))

  pub blocks_most : parts_for (measures_on table).block_bytes (length image) ≤ get_or table 2 0
  blocks_most =
      parts_least (measures_on table).block_bytes (length image) (get_or table 2 0) (omega (arith, (header h).measured.some_bytes))
      (omega (arith, a.few, mul_comm (measures_on table).block_bytes (get_or table 2 0)))

product_some : (n k : ℕ) → 0 < n → 0 < k → 0 < n * k
product_some n k h l = let p : 1 * 1 ≤ n * k = mul-le-mul h l in p

-- the blocks of an image's segments: 1,024, and those that fill up the last one
segments_most : (m : Measures) (len : ℕ) → Measured m → len ≤ 65536 → parts_for (m.segment_blocks * m.block_bytes) len * m.segment_blocks ≤ 1040
segments_most m len ok short = go (parts_for (m.segment_blocks * m.block_bytes) len) (parts_few (m.segment_blocks * m.block_bytes) len (product_some _ _ (omega (arith, ok.some_blocks)) (omega (arith, ok.some_bytes))))
  where
    go : (k : ℕ) → k * (m.segment_blocks * m.block_bytes) < len + m.segment_blocks * m.block_bytes → k * m.segment_blocks ≤ 1040
    go zero h = let z : 0 * m.segment_blocks ≡ 0 = zero-mul m.segment_blocks in omega (arith, z)
    go (suc k) h =
        let a : k * m.segment_blocks * 64 ≤ k * m.segment_blocks * m.block_bytes = mul-le-mul_left (k * m.segment_blocks) ok.some_bytes in
        omega (arith, h, short, ok.most_blocks, a, suc-mul k (m.segment_blocks * m.block_bytes), suc-mul k m.segment_blocks, mul_assoc k m.segment_blocks m.block_bytes)

-- an image's blocks are no more than those of its segments
parts_in_segments : (bytes n len : ℕ) → 0 < bytes → 0 < n → parts_for bytes len ≤ parts_for (n * bytes) len * n
parts_in_segments bytes n len some pos =
    let enough : len ≤ parts_for (n * bytes) len * (n * bytes) = parts_enough (n * bytes) len (product_some n bytes pos some) in
    parts_least bytes len (parts_for (n * bytes) len * n) some (rw (mul_assoc (parts_for (n * bytes) len) n bytes) enough)

-- ---- from the newest version's pointers on

module _ {mc : Measures} {pool table : List ℕ} {t : ℕ} {r : Head} {day : ℕ} {image prev words : List ℕ} (p : BackupPre mc pool table t r day image prev words) where
  pub image_short : length image ≤ 65536
  image_short = image_most p.sound p.accepted

  pub store_in_pre : (from : ℕ) → from ≡ records_at (shape_of table).capacities → StoreInPre mc image pool table from words prev
  store_in_pre from e = record {
    sound = p.sound;
    measures = p.measures;
    begins = e;
    short = image_short;
    room = p.room;
    pointers = (prev_pointed p.sound t p.accepted.there prev p.newest).0;
    suffices =
        subst (Suffices (state_in (shape_of table) pool table).storage.records) (sym (prev_pointed p.sound t p.accepted.there prev p.newest).1)
        (newest_suffices (shape_of table) (state_in (shape_of table) pool table) (found p.sound).sound t);
  }

  -- what counting the image's blocks requires
  pub bytes_ok : (0 < mc.block_bytes) × (mc.block_bytes ≤ 512) × (length image ≤ 4294967295)
  bytes_ok =
      let d = (header p.sound).measured in
      (rw p.measures (omega (arith, d.some_bytes)), rw p.measures d.most_bytes, omega (arith, image_short))

  pub blocks_fit : (k : ℕ) → k ≡ parts_for mc.block_bytes (length image) → k ≤ length words
  blocks_fit k e = omega (arith, e, p.room, parts_in_segments mc.block_bytes mc.segment_blocks (length image) bytes_ok.0 (rw p.measures (omega (arith, (header p.sound).measured.some_blocks))))

  pub last_fits : r.last + 1 ≤ 65535
  last_fits = omega (arith, p.head.last, p.accepted.free.number)

  -- after steps 1 to 3
  module _ (others most n : ℕ) (pool' table' words' prev' : List ℕ)
      (d : StoreInResult image (map word_to_pointer prev) pool table (limited_on others most pool table image (map word_to_pointer prev)) n pool' table' words' prev') where
    -- the newest version's pointers, in place of the words read
    did : StoreInResult image (newest_of pool table t) pool table (limited_on others most pool table image (newest_of pool table t)) n pool' table' words' prev'
    did =
        subst (λ (ps : List Pointer). StoreInResult image ps pool table (limited_on others most pool table image ps) n pool' table' words' prev')
        (prev_pointed p.sound t p.accepted.there prev p.newest).1 d

    pub refused_all : (n ≡ 0 → ⊥) → record { refusal = n; version = 0; pool = pool'; table = table' } ≡ within others most pool table (backup_dated_of pool table t day image)
    refused_all z = refused_answer pool table p.sound t day image p.accepted others most n pool' table' words' prev' did z

    module _ (z : n ≡ 0) (m k : ℕ) (em : m ≡ till_size table) (ek : k ≡ parts_for mc.block_bytes (length image)) where
      blocks_are : k ≡ parts_for (measures_on table).block_bytes (length image)
      blocks_are = ek ∙ ap (λ (n : Measures). parts_for n.block_bytes (length image)) p.measures

      -- the till's words are as they were
      part_kept : take (r.at + m - r.at) (drop r.at table') ≡ till_to_words (get_or table 1 0) (get_or table 2 0) (till_of (state_in (shape_of table) pool table) t)
      part_kept = go (limited_on others most pool table image (newest_of pool table t)) did
        where
          go : (o : Outcome Placed) → StoreInResult image (newest_of pool table t) pool table o n pool' table' words' prev'
              → take (r.at + m - r.at) (drop r.at table') ≡ till_to_words (get_or table 1 0) (get_or table 2 0) (till_of (state_in (shape_of table) pool table) t)
          go (refused x) q = absurd (omega (arith, z, q.0, q.1))
          go (done x) q =
              let w : r.at + m - r.at ≡ till_size table = omega (arith, em) in
              ap (λ (j : ℕ). take j (drop r.at table')) w
              ∙ ap (λ (j : ℕ). take (till_size table) (drop j table')) p.head.at
              ∙ ap (λ (ws : List ℕ). take (till_size table) (drop (till_at (shape_of table) t) ws)) q.1.tables
              ∙ (unfold shape_of till_of in till_is (shape_of table) (swept_state (measures_on table) (state_in (shape_of table) pool table) (blocks_on table image) (newest_of pool table t) x.storage) t (there p.sound t p.accepted.there))

      pub file_pre : length table' ≡ length table → length prev' ≡ length prev → FilePre table' r.at (r.at + m) (get_or table 2 0) prev' (take k words')
      file_pre lt lp =
          let (x, y, w) = till_in_lem p.sound t p.accepted.there r.at m p.head.at em in
          record {
            order = omega arith;
            inside = omega (arith, x, lt);
            small = w;
            room = till_room p.sound t p.accepted.there _ part_kept;
            left = till_left p.sound t p.accepted.there _ part_kept p.accepted.free;
            few = omega (arith, lp, p.short);
            short = omega (arith, length-take k words', blocks_are, blocks_most p.sound p.accepted);
          }

      pub filed_all : (out : List ℕ) → FileResult r.at (r.at + m) (get_or table 2 0) prev' (length image) day (take k words') table' out
          → record { refusal = 0; version = r.last + 1; pool = pool'; table = out } ≡ within others most pool table (backup_dated_of pool table t day image)
      filed_all out f =
          filed_answer pool table p.sound t day image p.accepted others most n pool' table' words' prev' did z r.at (r.at + m) (get_or table 2 0) k r.last out p.head.last refl p.head.at
          (ap (λ (j : ℕ). r.at + j) em) (blocks_are ∙ sym (blocks_length (measures_on table) (fit p.sound).proper image)) f

-- ---- the room for both

-- the segments' blocks, from their number as the code has it
pub count_is : (m : Measures) (image : List ℕ) (k : ℕ) → k ≡ parts_for (m.segment_blocks * m.block_bytes) (length image) → k * m.segment_blocks ≡ segments_in m image * m.segment_blocks
count_is m image k e = ap (λ (n : ℕ). n * m.segment_blocks) e

module _ {mc : Measures} {pool table : List ℕ} {t day : ℕ} {image : List ℕ} (h : Sound pool table) (em : mc ≡ (shape_of table).measures) (a : Accepted pool table t day image) where
  pub measures_ok : Measured mc × (length image ≤ 4294967295)
  measures_ok = (rw em (header h).measured, omega (arith, image_most h a))

  pub few_segments : segments_in mc image * mc.segment_blocks ≤ 1040
  few_segments = rw em (segments_most (measures_on table) (length image) (header h).measured (image_most h a))

  pub begun : (r : Head) → HeadOf pool table t r → (n count : ℕ) (prev words : List ℕ) → n ≤ length prev → take n prev ≡ map pointer_word (newest_of pool table t) → n ≤ get_or table 2 0 → length words ≡ 1040
      → count ≡ segments_in mc image * mc.segment_blocks → BackupPre mc pool table t r day image (take n prev) (take count words)
  begun r o n count prev words l e b w ec = record {
    sound = h;
    measures = em;
    accepted = a;
    head = o;
    newest = e;
    short = omega (arith, length-take n prev, b);
    room = length-take-le count words (omega (arith, w, ec, few_segments)) ∙ ec;
  }
