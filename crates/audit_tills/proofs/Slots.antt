-- Slots of a till, as the code lends them.
use mathlib.Core.Path.{◌≡◌, refl, sym, ap, ◌∙◌}
use mathlib.Core.Bool.{Bool}
use mathlib.Core.List.{List, [], ◌∷◌, map}
use Prim.Native.Nat.{ℕ, ◌+◌, ◌-◌, ◌*◌, ◌^◌, ◌≤◌, ◌<◌}
use native.Mathlib.Nat.{mul-le-mul_right, add-mul}
use native.Mathlib.Omega.{arith}
use lib.Arith.{digits_lt}
use lib.ListN.{length, get_or, take, drop, length-drop, length-take}
use lib.Seq.{take-take, drop-drop}
use Rattle.lists.specs.Rows.{joined, rows, parts}
use Rattle.lists.specs.Decides.{Decides}
use Rattle.lists.proofs.Answers.{part_is}
use Rattle.lists.proofs.Checkers.{same_as}
use Rattle.lists.proofs.Cuts.{cut_next, cut_most, cut_short}
use Rattle.lists.proofs.Slices.{tail_all, drop_take, drop_next}
use Rattle.model.specs.Measures.{Measures, parts_for}
use Rattle.model.specs.State.{Storage}
use Rattle.model.specs.Table.{word_to_pointer, records_in, storage_in, version_in, versions_in}
use Rattle.model.specs.Sound.{next_pointers}
use Rattle.lists.specs.Each.{Each}
use Rattle.audit_words.specs.Words.{IsPointerWord, SlotForm, SlotFrame}
use Rattle.audit_counts.specs.Counters.{counts_after}
use Rattle.audit_counts.proofs.Counters.{tallied_le, tallied_append}
use Rattle.audit_pointers.specs.Sound.{PointersSound}
use Rattle.audit_pointers.proofs.Slots.{words_are, pointers_of_lem, versions_cons, versions_end}
use Rattle.audit_tills.specs.Sound.{pointer_words, till_pointers, SlotPointersSound}
use Rattle.audit_padding.proofs.Blocks.{first_slot}

-- ---- room

-- the slots from slot i on
pub rest_fits : (i n b l : ℕ) → i ≤ n → n * (3 + b) ≤ l → (n - i) * (3 + b) ≤ l - i * (3 + b)
rest_fits i n b l h g =
    let e : i + (n - i) ≡ n = omega arith in
    let q : n * (3 + b) ≡ i * (3 + b) + (n - i) * (3 + b) = ap (λ (m : ℕ). m * (3 + b)) (sym e) ∙ add-mul i (n - i) (3 + b) in
    omega arith

-- till t of n
pub till_fits : (t n w : ℕ) → t < n → t * (4 + w) + (4 + w) ≤ n * (4 + w)
till_fits t n w h = omega (arith, digits_lt {r = 3 + w} {c = 4 + w} h (omega arith))

-- ---- pointers

pub storage_records : (m : Measures) (pool ws : List ℕ) → (storage_in m pool ws).records ≡ records_in m.segment_blocks ws
unfolding storage_in
storage_records m pool ws = refl

take_drop : (b : ℕ) (ws : List ℕ) → drop 3 (take (3 + b) ws) ≡ take b (drop 3 ws)
take_drop b ws = drop_take 3 (3 + b) ws ∙ ap (λ (m : ℕ). take m (drop 3 ws)) (let e : 3 + b - 3 ≡ b = omega arith in e)

-- the words of a slot's pointers, cut out of all slots
pub slot_words_lem : (bytes b : ℕ) (ws : List ℕ) (n : ℕ) → n ≡ length (version_in bytes (take (3 + b) ws)).pointers → n ≤ b → take n (drop 3 ws) ≡ pointer_words bytes (take (3 + b) ws)
slot_words_lem bytes b ws n e h = sym (ap (take n) (take_drop b ws) ∙ take-take n b (drop 3 ws) h) ∙ words_are bytes (take (3 + b) ws) n e

pub next_none : (bytes b count : ℕ) (ws : List ℕ) → count < 2 → next_pointers (versions_in bytes b (count - 1) ws) ≡ []
unfolding next_pointers
next_none bytes b count ws h = rw (versions_end bytes b count 1 ws (omega arith))

pub next_some : (bytes b count : ℕ) (ws : List ℕ) → 2 ≤ count → next_pointers (versions_in bytes b (count - 1) ws) ≡ (version_in bytes (take (3 + b) ws)).pointers
unfolding next_pointers
next_some bytes b count ws h = rw (versions_cons bytes b (count - 1) ws (omega arith))

pub two_fit : (b n l : ℕ) → 2 ≤ n → n * (3 + b) ≤ l → 3 + b + (3 + b) ≤ l
two_fit b n l h g = let m : 2 * (3 + b) ≤ n * (3 + b) = mul-le-mul_right (3 + b) h in omega arith

-- the test of the pointers, as the code lends their words
module _ (bytes b count : ℕ) (ws : List ℕ) where
  pub mine_words : (n : ℕ) → n ≡ length (version_in bytes (take (3 + b - 0) (drop 0 ws))).pointers → n ≤ b → take (3 + n - 3) (drop 3 ws) ≡ pointer_words bytes (take (3 + b) ws)
  mine_words n e h = part_is ws 3 n ∙ slot_words_lem bytes b ws n (rw (first_slot b ws) at e) h

  pub newer_none : count < 2 → map word_to_pointer (take (0 - 0) (drop 0 ws)) ≡ next_pointers (versions_in bytes b (count - 1) (drop (3 + b) ws))
  newer_none g = sym (next_none bytes b count (drop (3 + b) ws) g)

  pub newer_some : (m : ℕ) → 2 ≤ count → m ≡ length (version_in bytes (take (3 + b + (3 + b) - (3 + b)) (drop (3 + b) ws))).pointers → m ≤ b
      → map word_to_pointer (take (3 + b + 3 + m - (3 + b + 3)) (drop (3 + b + 3) ws)) ≡ next_pointers (versions_in bytes b (count - 1) (drop (3 + b) ws))
  newer_some m g f l =
      ap (map word_to_pointer)
      (part_is ws (3 + b + 3) m ∙ ap (take m) (sym (drop-drop 3 (3 + b) ws)) ∙ slot_words_lem bytes b (drop (3 + b) ws) m (rw (part_is ws (3 + b) (3 + b)) at f) l)
      ∙ sym (pointers_of_lem bytes (take (3 + b) (drop (3 + b) ws))) ∙ sym (next_some bytes b count (drop (3 + b) ws) g)

  pub points_of : {r : Bool} (storage : Storage) (newer words : List ℕ) → map word_to_pointer newer ≡ next_pointers (versions_in bytes b (count - 1) (drop (3 + b) ws))
      → words ≡ pointer_words bytes (take (3 + b) ws) → Decides r (PointersSound storage newer words) → Decides r (SlotPointersSound bytes storage b count ws)
  points_of storage newer words e f t =
      same_as
      (λ g. record { canonical = rw f at g.canonical; resolves = rw (pointers_of_lem bytes (take (3 + b) ws)) (rw (e, f) at g.resolves) })
      (λ g. record { canonical = rw f g.canonical; resolves = rw (e, f) (rw (pointers_of_lem bytes (take (3 + b) ws)) at g.resolves) })
      t

-- the slots in use lie within the till
pub used_fit : (v b count : ℕ) → count ≤ v → count * (3 + b) ≤ v * (3 + b)
used_fit v b count h = mul-le-mul_right (3 + b) h

pub slots_fit : (v b count : ℕ) (row : List ℕ) → count ≤ v → length row ≡ 4 + v * (3 + b) → count * (3 + b) ≤ length (take (length row - 4) (drop 4 row))
slots_fit v b count row h l = rw (tail_all row 4) (omega (arith, used_fit v b count h, length-drop 4 row))

pub few_words : (ws : List ℕ) (n b : ℕ) → n ≤ b → length (take (3 + n - 3) (drop 3 ws)) ≤ b
few_words ws n b h = omega (arith, ap length (part_is ws 3 n), length-take n (drop 3 ws))

-- ---- a slot's words, and its pointers

pub form_frame : {bytes b : ℕ} {row : List ℕ} → SlotForm bytes b row → SlotFrame bytes b row
form_frame f = record { some = f.some; most = f.most; rest = f.rest }

pub frame_form : {bytes b : ℕ} {row : List ℕ} → SlotFrame bytes b row → Each IsPointerWord (pointer_words bytes row) → SlotForm bytes b row
frame_form f p = record { some = f.some; most = f.most; pointers = p; rest = f.rest }

-- ---- what is counted

pub three : (row : List ℕ) → 3 ≤ length row → row ≡ get_or row 0 0 ∷ get_or row 1 0 ∷ get_or row 2 0 ∷ drop 3 row
three row l =
    drop_next row 0 0 (omega (arith, l)) ∙ ap (λ (r : List ℕ). get_or row 0 0 ∷ r) (drop_next row 1 0 (omega (arith, l))
    ∙ ap (λ (r : List ℕ). get_or row 1 0 ∷ r) (drop_next row 2 0 (omega (arith, l))))

-- no more of them than words
pub slot_short : (bytes : ℕ) (row : List ℕ) → length (pointer_words bytes row) ≤ length row
slot_short bytes row = omega (arith, length-take (parts_for bytes (get_or row 1 0)) (drop 3 row), length-drop 3 row)

pub till_short : (bytes b : ℕ) (row : List ℕ) → length (till_pointers bytes b row) ≤ length row
till_short bytes b row = omega (arith, cut_short (pointer_words bytes) (3 + b) (slot_short bytes) (get_or row 1 0) (drop 4 row), length-drop 4 row)

-- the words that are counted of each of some rows of w words
module _ (f : List ℕ → List ℕ) (w : ℕ) where
  pub none_tallied : (ws cs : List ℕ) → cs ≡ counts_after (rows f (parts w 0 ws)) cs
  unfolding counts_after parts joined
  none_tallied ws cs = refl

  -- row i, after those before it
  pub next_tallied : (i : ℕ) (ws cs cs₀ cs₁ : List ℕ) → cs ≡ counts_after (rows f (parts w i ws)) cs₀ → cs₁ ≡ counts_after (f (take w (drop (i * w) ws))) cs → cs₁ ≡ counts_after (rows f (parts w (i + 1) ws)) cs₀
  next_tallied i ws cs cs₀ cs₁ e g =
      g ∙ ap (counts_after (f (take w (drop (i * w) ws)))) e ∙ sym (tallied_append (rows f (parts w i ws)) (f (take w (drop (i * w) ws))) cs₀)
      ∙ ap (λ (xs : List ℕ). counts_after xs cs₀) (sym (cut_next f w i ws))

  -- the counters have room for m more words
  pub room_left : ((x : List ℕ) → length (f x) ≤ length x) → (i m : ℕ) (ws cs₀ cs : List ℕ) → cs ≡ counts_after (rows f (parts w i ws)) cs₀ → ((k : ℕ) → get_or cs₀ k 0 + (i * w + m) < 2 ^ 32)
      → (k : ℕ) → get_or cs k 0 + m < 2 ^ 32
  room_left short i m ws cs₀ cs e h k = rw e (omega (arith, tallied_le (rows f (parts w i ws)) cs₀ k, cut_most f w short i ws, h k))
