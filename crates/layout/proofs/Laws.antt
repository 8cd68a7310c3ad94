-- Ranges test by test, the table's length within 32 bits, and the words and bytes of the empty store.
use mathlib.Core.Path.{◌≡◌, refl, sym, ap, ◌∙◌}
use mathlib.Core.Bool.{Bool, true, false, cond, ◌&&◌, false≢true}
use mathlib.Core.List.{List, [], ◌∷◌, ◌++◌}
use Prim.Native.Nat.{ℕ, zero, suc, ◌+◌, ◌*◌, ◌/◌, ◌≤◌, ◌<◌}
use native.Mathlib.Nat.{zero-mul, suc-mul, mul-le-mul, le-div_iff_mul-le}
use native.Mathlib.Omega.{arith}
use lib.ListN.{length, get_or, set, replicate, length-replicate, length-set}
use lib.Dec.{eqb, leb}
use borrow.Author.Tests.{lt-leb, le-leb, leb-true, leb-false, eqb-true, eq-eqb, ne_eqb}
use Rattle.lists.specs.Lists.{all_of, is_in}
use Rattle.lists.specs.Rows.{joined, rows}
use Rattle.lists.proofs.Tests.{all_false, all_last, cond_self}
use Rattle.lists.proofs.Rows.{fill_zeros}
use Rattle.model.specs.Measures.{Measures, Shape, is_within, are_measures, in_range, slot_words, till_words, record_words, table_words, pool_bytes}
use Rattle.model.specs.Image.{zero_block}
use Rattle.model.specs.Records.{free_segment}
use Rattle.lists.specs.Masks.{mask_of}
use Rattle.model.specs.Table.{record_to_words, rights_bits, rights_word, till_to_words, measure_word, header_to_words, shape_of, state_to_words, state_to_bytes}
use Rattle.model.specs.Calls.{no_rights, empty_till, empty_state, table_length_of, layout_of, layout_if}
use Rattle.numbers.specs.Measures.{measures_of}
use Rattle.layout.specs.declared.Capacities.{Capacities}
use Rattle.layout.specs.Layout.{shape}
use Rattle.laws.specs.Ranges.{Ranges}
use Rattle.laws.proofs.Measures.{sizes}
use Rattle.laws.proofs.RoundTrip.{free_row}

-- ---- ranges

pub below : (low high n : ℕ) → n < low → false ≡ is_within low high n
unfolding is_within all_of
below low high n h = rw (lt-leb low n h)

pub above : (low high n : ℕ) → low ≤ n → leb n high ≡ is_within low high n
unfolding is_within all_of
above low high n h = rw (le-leb low n h) (go (leb n high))
  where
    go : (b : Bool) → b ≡ cond b true false
    go true = refl
    go false = refl

-- blocks per image by a product, as the code has it
pub by_product : (bytes n : ℕ) → 0 < bytes → 1 ≤ n → leb (n * bytes) 65536 ≡ is_within 1 (65536 / bytes) n
by_product bytes n b h = go (leb n (65536 / bytes)) refl (leb (n * bytes) 65536) refl ∙ above 1 (65536 / bytes) n h
  where
    go : (t : Bool) → leb n (65536 / bytes) ≡ t → (s : Bool) → leb (n * bytes) 65536 ≡ s → leb (n * bytes) 65536 ≡ leb n (65536 / bytes)
    go true e s f = le-leb (n * bytes) 65536 ((le-div_iff_mul-le b).0 (leb-true n (65536 / bytes) e)) ∙ sym e
    go false e false f = f ∙ sym e
    go false e true f =
        let p : n ≤ 65536 / bytes = (le-div_iff_mul-le b).1 (leb-true (n * bytes) 65536 f) in
        let q : 65536 / bytes < n = leb-false n (65536 / bytes) e in
        absurd (omega (arith, p, q))

-- ---- ranges of all

module _ (m : Measures) where
  pub no_measures : (i : ℕ) → get_or (is_in m.block_bytes (64 ∷ 128 ∷ 256 ∷ 512 ∷ []) ∷ is_in m.segment_blocks (4 ∷ 8 ∷ 16 ∷ []) ∷ leb m.rebuild_percent 100 ∷ []) i true ≡ false
      → false ≡ are_measures m
  unfolding are_measures
  no_measures i h = sym (all_false _ i h)

  pub by_percent : is_in m.block_bytes (64 ∷ 128 ∷ 256 ∷ 512 ∷ []) ≡ true → is_in m.segment_blocks (4 ∷ 8 ∷ 16 ∷ []) ≡ true → leb m.rebuild_percent 100 ≡ are_measures m
  unfolding are_measures
  by_percent a b = sym (all_last (is_in m.block_bytes (64 ∷ 128 ∷ 256 ∷ 512 ∷ []) ∷ is_in m.segment_blocks (4 ∷ 8 ∷ 16 ∷ []) ∷ []) _ (a, (b, tt)))

module _ (s : Shape) where
  abbrev pub tests : List Bool
  tests =
      is_within 1 16 s.capacities.tills
      ∷ is_within 1 64 s.capacities.versions
      ∷ is_within 1 (65536 / s.measures.block_bytes) s.capacities.blocks
      ∷ is_within 1 4096 s.capacities.records
      ∷ is_within 1 32768 s.capacities.cells
      ∷ are_measures s.measures
      ∷ []

  pub out_of : (i : ℕ) → get_or tests i true ≡ false → false ≡ in_range s
  unfolding in_range
  out_of i h = sym (all_false _ i h)

  pub by_cells : get_or tests 0 true ≡ true → get_or tests 1 true ≡ true → get_or tests 2 true ≡ true → get_or tests 3 true ≡ true → get_or tests 5 true ≡ true
      → is_within 1 32768 s.capacities.cells ≡ in_range s
  unfolding in_range all_of
  by_cells a b c d m = rw (a, b, c, d, m) (sym (cond_self (is_within 1 32768 s.capacities.cells)))

pub capacities_read : (table : List ℕ) (m : Measures) → m ≡ (shape_of table).measures
    → record {
      measures = m;
      capacities = record { tills = get_or table 0 0; versions = get_or table 1 0; blocks = get_or table 2 0; records = get_or table 3 0; cells = get_or table 4 0 };
    }
    ≡ shape_of table
unfolding shape_of
capacities_read table m e = rw e

-- ---- products

-- the slots of a till, all tills, all records, and the pool
pub products : (s : Shape) → Ranges s
    → (s.capacities.versions * (3 + s.capacities.blocks) ≤ 65728) × (s.capacities.tills * (4 + s.capacities.versions * (3 + s.capacities.blocks)) ≤ 1051712)
    × (s.capacities.records * record_words s.measures.segment_blocks ≤ 143360) × (s.capacities.cells * s.measures.block_bytes ≤ 16777216)
products s r =
    let (v, t) = sizes _ _ _ r.tills r.versions r.blocks in
    let w : record_words s.measures.segment_blocks ≤ 35 = omega (arith, r.measured.most_blocks) in
    (v, t, mul-le-mul r.records w, mul-le-mul r.cells r.measured.most_bytes)

-- ---- the empty store

zeros_append : (a b : ℕ) → replicate {A = ℕ} a 0 ++ replicate b 0 ≡ replicate (a + b) 0
zeros_append zero b = let e : 0 + b ≡ b = omega arith in rw e
zeros_append (suc a) b = let e : suc a + b ≡ suc (a + b) = omega arith in rw e (ap (λ (l : List ℕ). 0 ∷ l) (zeros_append a b))

zero_rows : {A : Type 0} (words : A → List ℕ) (x : A) (k : ℕ) → words x ≡ replicate k 0 → (n : ℕ) → rows words (replicate n x) ≡ replicate (n * k) 0
unfolding joined
zero_rows words x k e zero = rw (zero-mul k)
zero_rows words x k e (suc n) = let p : suc n * k ≡ k + n * k = omega (arith, suc-mul n k) in rw (e, zero_rows words x k e n, p) (zeros_append k (n * k))

empty_till_lem : (v b : ℕ) → till_to_words v b empty_till ≡ replicate (till_words v b) 0
unfolding till_to_words empty_till rights_word rights_bits no_rights mask_of joined
empty_till_lem v b = let e : 4 + v * (3 + b) ≡ suc (suc (suc (suc (v * (3 + b))))) = omega arith in rw (e, fill_zeros (v * slot_words b))

zero_cells : (k n : ℕ) → joined {A = ℕ} (replicate n (replicate k 0)) ≡ replicate (n * k) 0
unfolding joined
zero_cells k zero = rw (zero-mul k)
zero_cells k (suc n) = let p : suc n * k ≡ k + n * k = omega (arith, suc-mul n k) in rw (zero_cells k n, p) (zeros_append k (n * k))

pub empty_bytes : (c : Capacities) (n : ℕ) → n ≡ pool_bytes (shape c) → replicate n 0 ≡ state_to_bytes (empty_state (shape c))
unfolding state_to_bytes empty_state pool_bytes zero_block
empty_bytes c n e = rw e (sym (zero_cells c.measures.bytes c.cells))

-- eight words written over zeros
pub empty_words : (c : Capacities) (n : ℕ) → n ≡ table_words (shape c) → (x y z : ℕ)
    → x ≡ measure_word (measures_of c.measures) c.measures.bytes → y ≡ measure_word (measures_of c.measures) c.measures.blocks
    → z ≡ measure_word (measures_of c.measures) c.measures.percent
    → set (set (set (set (set (set (set (set (replicate n 0) 0 c.tills) 1 c.versions) 2 c.blocks) 3 c.records) 4 c.cells) 5 x) 6 y) 7 z
    ≡ state_to_words (shape c) (empty_state (shape c))
unfolding state_to_words empty_state header_to_words table_words
empty_words c n e x y z ex ey ez =
    let w : ℕ = till_words c.versions c.blocks in
    let k : ℕ = record_words c.measures.blocks in
    let m : ℕ = c.tills * w + c.records * k in
    let long : n ≡ suc (suc (suc (suc (suc (suc (suc (suc m))))))) = omega (arith, e) in
    rw (
      ex,
      ey,
      ez,
      long,
      zero_rows (till_to_words c.versions c.blocks) empty_till w (empty_till_lem c.versions c.blocks) c.tills,
      zero_rows record_to_words (free_segment c.measures.blocks) k (free_row c.measures.blocks) c.records,
      zeros_append,
    )

pub length_room : (ws : List ℕ) (a b c d e n : ℕ) → n ≤ length ws → n ≤ length (set (set (set (set (set ws 0 a) 1 b) 2 c) 3 d) 4 e)
length_room ws a b c d e n h =
    rw (
      length-set (set (set (set (set ws 0 a) 1 b) 2 c) 3 d) 4 e,
      length-set (set (set (set ws 0 a) 1 b) 2 c) 3 d,
      length-set (set (set ws 0 a) 1 b) 2 c,
      length-set (set ws 0 a) 1 b,
      length-set ws 0 a,
    )
    h

-- ---- the answers

module _ (c : Capacities) where
  pub in_range_length : (words : ℕ) → in_range (shape c) ≡ true → words ≡ table_words (shape c)
      → record { refusal = 0; words = words } ≡ table_length_of (shape c)
  unfolding table_length_of
  in_range_length words h e = rw (h, e)

  pub out_of_range_length : in_range (shape c) ≡ false → record { refusal = 1; words = 0 } ≡ table_length_of (shape c)
  unfolding table_length_of
  out_of_range_length h = rw h

-- ---- lengths

pub other_pool : (c : Capacities) (bytes words : ℕ) → (bytes ≡ c.cells * c.measures.bytes → ⊥) → false ≡ (eqb bytes (pool_bytes (shape c)) && eqb words (table_words (shape c)))
unfolding pool_bytes
other_pool c bytes words h = rw (ne_eqb _ _ h)

pub right_pool : (c : Capacities) (bytes words n : ℕ) → bytes ≡ c.cells * c.measures.bytes → n ≡ table_words (shape c)
    → eqb words n ≡ (eqb bytes (pool_bytes (shape c)) && eqb words (table_words (shape c)))
unfolding pool_bytes
right_pool c bytes words n h e = rw (eq-eqb _ _ h, e)

pub at_least_8 : (c : Capacities) (n : ℕ) → n ≡ table_words (shape c) → 8 ≤ length (replicate {A = ℕ} n 0)
unfolding table_words
at_least_8 c n e = omega (arith, length-replicate {A = ℕ} n 0, e)

module _ (c : Capacities) (pool table : List ℕ) where
  pub refused_1 : in_range (shape c) ≡ false → record { refusal = 1; pool = pool; table = table } ≡ layout_of (shape c) pool table
  unfolding layout_of layout_if
  refused_1 h = rw h

  pub refused_2 : in_range (shape c) ≡ true → (eqb (length pool) (pool_bytes (shape c)) && eqb (length table) (table_words (shape c))) ≡ false
      → record { refusal = 2; pool = pool; table = table } ≡ layout_of (shape c) pool table
  unfolding layout_of layout_if
  refused_2 h g = rw (h, g)

  pub fitting : (eqb (length pool) (pool_bytes (shape c)) && eqb (length table) (table_words (shape c))) ≡ true
      → (length pool ≡ pool_bytes (shape c)) × (length table ≡ table_words (shape c))
  fitting h = let (a, b) = both (eqb (length pool) _) _ h in (eqb-true _ _ a, eqb-true _ _ b)
    where
      both : (a b : Bool) → (a && b) ≡ true → (a ≡ true) × (b ≡ true)
      both true b h = (refl, h)
      both false b h = absurd (false≢true h)

  pub laid : (pool' table' : List ℕ) → in_range (shape c) ≡ true → (eqb (length pool) (pool_bytes (shape c)) && eqb (length table) (table_words (shape c))) ≡ true
      → pool' ≡ state_to_bytes (empty_state (shape c)) → table' ≡ state_to_words (shape c) (empty_state (shape c))
      → record { refusal = 0; pool = pool'; table = table' } ≡ layout_of (shape c) pool table
  unfolding layout_of layout_if
  laid pool' table' h g p t = rw (h, g, p, t)
