-- The tills' words of a sound store, and the bill read from them.
use mathlib.Core.Path.{◌≡◌, refl, sym, ap, ap₂, ◌∙◌}
use mathlib.Core.List.{List, [], map}
use mathlib.Core.Option.{Option}
use Prim.Native.Nat.{ℕ, suc, ◌+◌, ◌*◌, ◌-◌, ◌/◌, ◌%◌, ◌≤◌, ◌<◌}
use native.Mathlib.Nat.{suc-mul, mul-le-mul_right}
use native.Mathlib.Omega.{arith}
use lib.ListN.{length, get_or, take, drop, replicate, length-map, length-drop, length-replicate}
use lib.Seq.{get_or-drop, get_or-take, length-take-le, take_all}
use borrow.Author.Tests.{le-ltb, lt-ltb}
use Rattle.lists.specs.Masks.{mask_of}
use Rattle.lists.specs.Rows.{fill, chunks}
use Rattle.lists.proofs.Cuts.{part_word, length_chunks, chunk_at}
use Rattle.lists.proofs.Sets.{map_at}
use Rattle.lists.proofs.Slices.{tail_all, part_front}
use Rattle.model.specs.Measures.{Measures, till_words, records_at}
use Rattle.model.specs.State.{Till, State}
use Rattle.model.specs.Sound.{Store}
use Rattle.model.specs.Table.{word_to_pointer, shape_of, state_in, till_in, tills_in}
use Rattle.model.specs.Calls.{empty_till}
use Rattle.laws.specs.Stores.{Sound}
use Rattle.laws.proofs.Serves.{pointers_of}
use Rattle.laws.proofs.Stores.{valid, header, records_room}
use Rattle.laws.proofs.Tills.{few, held_word}
use Rattle.audit_tills.specs.Sound.{till_pointers}
use Rattle.bill.specs.Bill.{BillAnswer, bill, bill_refused, bill_in, bill_of}
use Rattle.bill_sums.specs.Marks.{till_row, mark_tills, TillRows, no_marks, share_all, billed_tills}
use Rattle.bill_sums.proofs.Passes.{tills_length}
use Rattle.bill_sums.proofs.Marked.{points, till_pointers_lem, marks_at}
use Rattle.bill_sums.proofs.Billed.{sums_are}

module _ {pool table : List ℕ} (h : Sound pool table) where
  abbrev st : State
  st = state_in (shape_of table) pool table

  abbrev versions : ℕ
  versions = get_or table 1 0

  abbrev blocks : ℕ
  blocks = get_or table 2 0

  abbrev width : ℕ
  width = till_words versions blocks

  abbrev bytes : ℕ
  bytes = (shape_of table).measures.block_bytes

  abbrev words : List ℕ
  words = drop 8 table

  tills_many : length st.tills ≡ get_or table 0 0
  unfolding shape_of
  tills_many = (valid h).till_count

  module _ (t : ℕ) (l : t < get_or table 0 0) where
    inside : t * width + width ≤ get_or table 0 0 * width
    inside = let q : suc t * width ≤ get_or table 0 0 * width = mul-le-mul_right width l in omega (arith, q, suc-mul t width)

    till_is : get_or st.tills t empty_till ≡ till_in bytes versions blocks (till_row width words t)
    unfolding state_in tills_in shape_of
    till_is =
        let part : List ℕ = take (get_or table 0 0 * width) words in
        let n : t < length (chunks width part) = omega (arith, l, tills_many, length-map (chunks width part) (till_in bytes versions blocks)) in
        map_at (till_in bytes versions blocks) (chunks width part) t [] empty_till n
        ∙ ap (till_in bytes versions blocks) (chunk_at width part t (omega (arith, n, length_chunks width part)) ∙ part_front words (get_or table 0 0 * width) (t * width) width inside)

    held_few : get_or (till_row width words t) 1 0 ≤ versions
    unfolding shape_of
    held_few =
        let e : get_or (till_row width words t) 1 0 ≡ get_or table (8 + (t * width + 1)) 0 = part_word width words t 1 0 (omega arith) ∙ get_or-drop 8 table (t * width + 1) 0 in
        let a : 8 + (t * width + 1) ≡ 8 + t * width + 1 = omega arith in
        omega (arith, e ∙ ap (λ (n : ℕ). get_or table n 0) a ∙ held_word h t l, few h t l)

    pointers_are : pointers_of (get_or st.tills t empty_till).versions ≡ map word_to_pointer (till_pointers bytes blocks (till_row width words t))
    pointers_are = ap (λ (x : Till). pointers_of x.versions) till_is ∙ till_pointers_lem bytes versions blocks (till_row width words t) held_few

  rows_of : TillRows width (get_or table 0 0) blocks words
  unfolding shape_of
  rows_of = record {
    inside = omega (arith, (records_room h (records_at (shape_of table).capacities) refl).0, length-drop 8 table);
    few = λ t l. omega (arith, held_few t l, (header h).versions);
    room = λ t l. let q : get_or (till_row width words t) 1 0 * (3 + blocks) ≤ versions * (3 + blocks) = mul-le-mul_right (3 + blocks) (held_few t l) in omega (arith, q);
  }

  marks_are : (n j : ℕ) → j < n → get_or (mark_tills bytes blocks width words (get_or table 0 0) (replicate n 0)) j 0 ≡ mask_of (points (j / 16) (j % 16)) st.tills
  marks_are n j l =
      marks_at bytes blocks width words st.tills (λ t b. pointers_are t (omega (arith, b, tills_many))) n j l (get_or table 0 0) (omega (arith, tills_many))
      ∙ ap (mask_of (points (j / 16) (j % 16))) (take_all (get_or table 0 0) st.tills (omega (arith, tills_many)))

  sums_of : (p n : ℕ) → get_or table 3 0 * 16 ≤ n → share_all p (take (get_or table 3 0 * 16) (mark_tills bytes blocks width words (get_or table 0 0) (replicate n 0))) (replicate 16 0) ≡ fill 16 (bill p st)
  unfolding shape_of
  sums_of p n l =
      let long : length (mark_tills bytes blocks width words (get_or table 0 0) (replicate n 0)) ≡ n = tills_length bytes blocks width words (get_or table 0 0) (replicate n 0) ∙ length-replicate {A = ℕ} n 0 in
      let cut : length (take (get_or table 3 0 * 16) (mark_tills bytes blocks width words (get_or table 0 0) (replicate n 0))) ≡ get_or table 3 0 * 16 = length-take-le _ _ (omega (arith, long, l)) in
      sums_are (shape_of table) st (valid h) p (get_or table 3 0) (omega arith) _ cut (λ j b. get_or-take (get_or table 3 0 * 16) _ j 0 (omega (arith, cut, b)) ∙ marks_are n j (omega (arith, cut, b, l)))

  -- as the code has the measures and the tills' words
  module _ (m : Measures) (em : m ≡ (shape_of table).measures) (w : ℕ) (ew : w ≡ width) (p : ℕ) (l : p ≤ 10000) where
    pub tills_asked : (0 < m.block_bytes) × (m.block_bytes ≤ 512) × (blocks ≤ 1024) × (get_or table 0 0 ≤ 16) × TillRows w (get_or table 0 0) blocks (take (length table - 8) words) × (get_or table 3 0 ≤ 4096) × (p ≤ 10000)
    tills_asked =
        let b = ap (λ (x : Measures). x.block_bytes) em in (
          omega (arith, b, (header h).measured.some_bytes),
          omega (arith, b, (header h).measured.most_bytes),
          (header h).blocks,
          (header h).tills,
          rw (tail_all table 8, ew) rows_of,
          (header h).records,
          l,
        )

    pub bill_read : billed_tills m.block_bytes blocks w (take (length table - 8) words) (get_or table 0 0) (get_or table 3 0) p ≡ bill_of pool table p
    unfolding bill_of bill_in no_marks
    bill_read =
        ap (λ (n : ℕ). billed_tills m.block_bytes blocks n (take (length table - 8) words) (get_or table 0 0) (get_or table 3 0) p) ew
        ∙ ap₂ (λ (x : Measures) (ws : List ℕ). billed_tills x.block_bytes blocks width ws (get_or table 0 0) (get_or table 3 0) p) em (tail_all table 8)
        ∙ ap {B = BillAnswer} (λ (xs : List ℕ). record { refusal = 0; sums = xs }) (sums_of p 65536 (omega (arith, (header h).records)))
        ∙ sym (ap (λ (o : Option Store). bill_in o p) h.is ∙ rw (le-ltb 10000 p l))

  pub too_dear : (p : ℕ) → 10000 < p → ◌≡◌ {A = BillAnswer} (record { refusal = 30; sums = replicate 16 0 }) (bill_of pool table p)
  unfolding bill_of bill_in bill_refused fill
  too_dear p l = sym (ap (λ (o : Option Store). bill_in o p) h.is ∙ rw (lt-ltb 10000 p l))
