-- A till's words say what the checks ask if and only if they are those of the till that they are read as, and it is sound.
use mathlib.Core.Path.{◌≡◌, refl, sym, ap, ap₂, ◌∙◌}
use mathlib.Core.Bool.{true}
use mathlib.Core.List.{List, ◌∷◌, map, map-map}
use Prim.Native.Nat.{ℕ, zero, suc, ◌+◌, ◌-◌, ◌*◌, ◌≤◌, ◌<◌, min}
use native.Mathlib.Nat.{not-suc-le-zero, le_of_suc-le-suc, zero-mul, suc-mul, sub-zero, suc-sub-suc, mul-le-mul_right, min-eq_left, min-le_right}
use native.Mathlib.Omega.{arith}
use borrow.Author.Tests.{leb-true, le-leb, eq-eqb}
use lib.ListN.{length, get_or, take, drop, length-drop, length-map}
use lib.Seq.{drop-drop, length-take-le}
use Rattle.lists.specs.Lists.{count, rises, all_zero}
use Rattle.lists.specs.Rows.{joined, rows, parts, fill}
use Rattle.lists.specs.Each.{Each}
use Rattle.lists.proofs.Tests.{clause, all_true}
use Rattle.lists.proofs.Each.{each_all}
use Rattle.lists.proofs.Rows.{length_rows, wide_all}
use Rattle.lists.proofs.Cuts.{length_parts, each_part, rows_parts}
use Rattle.lists.proofs.Slices.{drop_next}
use Rattle.model.specs.Measures.{Shape, till_words}
use Rattle.model.specs.State.{Pointer, Storage, Version, Rights, staff, Till}
use Rattle.model.specs.Table.{kind_unit, version_in, versions_in, till_in, version_to_words, rights_word, rights_in, till_to_words}
use Rattle.model.specs.Sound.{leads_to, is_numbered, are_traceable, is_till}
use Rattle.laws.proofs.Rights.{length_rights, rights_lt, word_back}
use Rattle.laws.proofs.RoundTrip.{length_version}
use Rattle.audit_words.specs.Words.{IsPointerWord}
use Rattle.audit_counts.specs.Counters.{count_to}
use Rattle.audit_counts.proofs.Pointers.{words_count, rows_count}
use Rattle.audit_tills.specs.Sound.{numbers_in, pointer_words, till_pointers, SlotSound, TillSound}
use Rattle.lists.proofs.Filled.{fill_back, back_fill, fill_front, rows_fixed}
use Rattle.audit.proofs.Slots.{form_same, form_length, length_at, same_form}

-- ---- slots, one after the other

module _ (w : ℕ) (S : ℕ → List ℕ → Type 0) where
  abbrev All : ℕ → List ℕ → Type 0
  All n xs = (i : ℕ) → i < n → S (n - i) (drop (i * w) xs)

  all_head : (n : ℕ) (xs : List ℕ) → All (suc n) xs → S (suc n) xs
  all_head n xs f =
      let g : S (suc n - 0) (drop (0 * w) xs) = f 0 (omega arith) in
      rw (sub-zero (suc n), zero-mul w) at g

  next : (i : ℕ) (xs : List ℕ) → drop (suc i * w) xs ≡ drop (i * w) (drop w xs)
  next i xs = ap (λ (m : ℕ). drop m xs) (let e : suc i * w ≡ w + i * w = omega (arith, suc-mul i w) in e) ∙ sym (drop-drop (i * w) w xs)

  all_tail : (n : ℕ) (xs : List ℕ) → All (suc n) xs → All n (drop w xs)
  all_tail n xs f i h =
      let g : S (suc n - suc i) (drop (suc i * w) xs) = f (suc i) (omega arith) in
      rw (suc-sub-suc n i, next i xs) at g

  all_cons : (n : ℕ) (xs : List ℕ) → S (suc n) xs → All n (drop w xs) → All (suc n) xs
  all_cons n xs s f zero h = rw (sub-zero (suc n), zero-mul w) s
  all_cons n xs s f (suc i) h = rw (suc-sub-suc n i, next i xs) (f i (le_of_suc-le-suc h))

-- ---- the versions of a till's slots

pub versions_long : (bytes b n : ℕ) (xs : List ℕ) → length (versions_in bytes b n xs) ≡ n
unfolding versions_in
versions_long bytes b n xs = length-map (parts (3 + b) n xs) (version_in bytes) ∙ length_parts (3 + b) n xs

-- their numbers, as the words have them
numbers_are : (bytes b n : ℕ) (xs : List ℕ) → map (λ (v : Version). v.number) (versions_in bytes b n xs) ≡ numbers_in b n xs
unfolding versions_in version_in numbers_in parts
numbers_are bytes b zero xs = refl
numbers_are bytes b (suc n) xs = ap (λ (ms : List ℕ). get_or (take (3 + b) xs) 0 0 ∷ ms) (numbers_are bytes b n (drop (3 + b) xs))

module _ (bytes : ℕ) (some : 0 < bytes) (storage : Storage) (b : ℕ) where
  record Traced (n : ℕ) (xs : List ℕ) : Type 0 where
    traceable : are_traceable bytes b storage (versions_in bytes b n xs) ≡ true
    words : Each (λ r. version_to_words b (version_in bytes r) ≡ r) (parts (3 + b) n xs)

  first_fits : (n : ℕ) (xs : List ℕ) → suc n * (3 + b) ≤ length xs → (length (take (3 + b) xs) ≡ 3 + b) × (n * (3 + b) ≤ length (drop (3 + b) xs))
  first_fits n xs h = (length-take-le (3 + b) xs (omega (arith, h, suc-mul n (3 + b))), omega (arith, h, suc-mul n (3 + b), length-drop (3 + b) xs))

  traced : (n : ℕ) (xs : List ℕ) → n * (3 + b) ≤ length xs → All (3 + b) (SlotSound bytes storage b) n xs → Traced n xs
  unfolding are_traceable versions_in parts
  traced zero xs h f = record { traceable = refl; words = tt }
  traced (suc n) xs h f =
      let s : SlotSound bytes storage b (suc n) xs = all_head (3 + b) (SlotSound bytes storage b) n xs f in
      let fit = first_fits n xs h in
      let e : suc n - 1 ≡ n = omega arith in
      let r = traced n (drop (3 + b) xs) fit.1 (all_tail (3 + b) (SlotSound bytes storage b) n xs f) in
      record {
        traceable = all_true _ (form_length bytes some b (take (3 + b) xs) fit.0 s.form, (rw e at s.resolves, (rw e at s.ends, (r.traceable, tt))));
        words = (form_same bytes some b (take (3 + b) xs) fit.0 s.form, r.words);
      }

  untraced : (n : ℕ) (xs : List ℕ) → n * (3 + b) ≤ length xs → Traced n xs → All (3 + b) (SlotSound bytes storage b) n xs
  unfolding are_traceable versions_in parts
  untraced zero xs h t = λ i g. absurd (not-suc-le-zero g)
  untraced (suc n) xs h t =
      let fit = first_fits n xs h in
      let e : suc n - 1 ≡ n = omega arith in
      let l = length_at bytes some b (take (3 + b) xs) fit.0 (clause _ 0 t.traceable) in
      all_cons (3 + b) (SlotSound bytes storage b) n xs
      (record {
        form = same_form bytes some b (take (3 + b) xs) fit.0 t.words.0 l.1 l.0;
        resolves = rw e (clause _ 1 t.traceable);
        ends = rw e (clause _ 2 t.traceable);
      })
      (untraced n (drop (3 + b) xs) fit.1 (record { traceable = clause _ 3 t.traceable; words = t.words.1 }))

-- ---- a till's words

pub record TillFine (s : Shape) (storage : Storage) (row : List ℕ) : Type 0 where
  pub words : till_to_words s.capacities.versions s.capacities.blocks (till_in s.measures.block_bytes s.capacities.versions s.capacities.blocks row) ≡ row
  pub sound : is_till s storage (till_in s.measures.block_bytes s.capacities.versions s.capacities.blocks row) ≡ true

module _ (s : Shape) (some : 0 < s.measures.block_bytes) (storage : Storage) (row : List ℕ) (l : length row ≡ till_words s.capacities.versions s.capacities.blocks) where
  abbrev bytes : ℕ
  bytes = s.measures.block_bytes

  abbrev v : ℕ
  v = s.capacities.versions

  abbrev b : ℕ
  b = s.capacities.blocks

  abbrev held : ℕ
  held = get_or row 1 0

  abbrev last : ℕ
  last = get_or row 0 0

  abbrev vs : List Version
  vs = versions_in bytes b held (drop 4 row)

  -- the rights of users 1 to 7
  abbrev rights : List Rights
  rights = rights_in staff (get_or row 2 0)

  till_is : held ≤ v → till_in bytes v b row ≡ record { last = last; rights = rights; versions = vs }
  unfolding till_in
  till_is h = rw (min-eq_left h)

  slots_long : length (drop 4 row) ≡ v * (3 + b)
  slots_long = omega (arith, length-drop 4 row, l)

  slots_fit : held ≤ v → held * (3 + b) ≤ length (drop 4 row)
  slots_fit h = let m : held * (3 + b) ≤ v * (3 + b) = mul-le-mul_right (3 + b) h in omega (arith, slots_long, m)

  apart : row ≡ last ∷ held ∷ get_or row 2 0 ∷ get_or row 3 0 ∷ drop 4 row
  apart =
      drop_next row 0 0 (omega (arith, l)) ∙ ap (λ (r : List ℕ). last ∷ r) (drop_next row 1 0 (omega (arith, l))
      ∙ ap (λ (r : List ℕ). held ∷ r) (drop_next row 2 0 (omega (arith, l)) ∙ ap (λ (r : List ℕ). get_or row 2 0 ∷ r) (drop_next row 3 0 (omega (arith, l)))))

  -- the slots in use, and the others
  module _ (t : TillSound bytes storage v b row) where
    trace : Traced bytes some storage b held (drop 4 row)
    trace = traced bytes some storage b held (drop 4 row) (slots_fit t.few) t.slots

    rest_zero : all_zero (drop (held * (3 + b)) (drop 4 row)) ≡ true
    rest_zero = ap all_zero (drop-drop (held * (3 + b)) 4 row) ∙ t.rest

    filled : fill (v * (3 + b)) (rows (version_to_words b) vs) ≡ drop 4 row
    unfolding versions_in
    filled =
        ap (fill (v * (3 + b))) (rows_parts (version_to_words b) (version_in bytes) (3 + b) held (drop 4 row) trace.words)
        ∙ fill_back (v * (3 + b)) (held * (3 + b)) (drop 4 row) slots_long rest_zero

    same : till_to_words v b (till_in bytes v b row) ≡ row
    unfolding till_to_words
    same =
        ap (till_to_words v b) (till_is t.few)
        ∙ ap (λ (n : ℕ). last ∷ n ∷ rights_word rights ∷ 0 ∷ fill (v * (3 + b)) (rows (version_to_words b) vs)) (versions_long bytes b held (drop 4 row))
        ∙ ap (λ (r : List ℕ). last ∷ held ∷ rights_word rights ∷ 0 ∷ r) filled
        ∙ ap₂ (λ (w z : ℕ). last ∷ held ∷ w ∷ z ∷ drop 4 row) (word_back staff (get_or row 2 0) t.rights) (sym t.zero)
        ∙ sym apart

    fine : is_till s storage (till_in bytes v b row) ≡ true
    unfolding is_till is_numbered
    fine =
        let n : length vs ≡ held = versions_long bytes b held (drop 4 row) in
        ap (is_till s storage) (till_is t.few)
        ∙ all_true _ (
          all_true _ (
            le-leb (length vs) v (rw n t.few),
            (le-leb last 65535 t.most, (ap (rises 0 last) (numbers_are bytes b held (drop 4 row)) ∙ t.rising, tt)),
          ),
          (trace.traceable, (eq-eqb (length rights) staff (length_rights staff (get_or row 2 0)), tt)),
        )

  pub till_fine : TillSound bytes storage v b row → TillFine s storage row
  till_fine t = record { words = same t; sound = fine t }

  -- back
  module _ (f : TillFine s storage row) where
    count_is : min held v ≡ held
    unfolding till_to_words till_in
    count_is = sym (versions_long bytes b (min held v) (drop 4 row)) ∙ ap (λ (r : List ℕ). get_or r 1 0) f.words

    few : held ≤ v
    few = rw count_is at (min-le_right held v)

    words_are : till_to_words v b (record { last = last; rights = rights; versions = vs }) ≡ row
    words_are = ap (till_to_words v b) (sym (till_is few)) ∙ f.words

    filled_at : fill (v * (3 + b)) (rows (version_to_words b) vs) ≡ drop 4 row
    unfolding till_to_words
    filled_at = ap (drop 4) words_are

    zero_at : get_or row 3 0 ≡ 0
    unfolding till_to_words
    zero_at = ap (λ (r : List ℕ). get_or r 3 0) (sym words_are)

    rights_at : get_or row 2 0 < 268435456
    unfolding till_to_words
    rights_at =
        let e : get_or row 2 0 ≡ rights_word rights = ap (λ (r : List ℕ). get_or r 2 0) (sym words_are) in
        omega (arith, e, rights_lt rights (length_rights staff (get_or row 2 0)))

    rows_long : length (rows (version_to_words b) vs) ≡ held * (3 + b)
    rows_long =
        length_rows (version_to_words b) (3 + b) vs (wide_all (version_to_words b) (3 + b) (length_version b) vs) ∙ ap (λ (n : ℕ). n * (3 + b)) (versions_long bytes b held (drop 4 row))

    front : rows (version_to_words b) vs ≡ take (held * (3 + b)) (drop 4 row)
    front =
        sym (fill_front (v * (3 + b)) (rows (version_to_words b) vs) (drop 4 row) (omega (arith, rows_long, slots_fit few, slots_long)) filled_at)
        ∙ ap (λ (m : ℕ). take m (drop 4 row)) rows_long

    sound_is : is_till s storage (record { last = last; rights = rights; versions = vs }) ≡ true
    sound_is = ap (is_till s storage) (sym (till_is few)) ∙ f.sound

    numbered : is_numbered v (record { last = last; rights = rights; versions = vs }) ≡ true
    unfolding is_till
    numbered = clause _ 0 sound_is

    trace_at : Traced bytes some storage b held (drop 4 row)
    unfolding is_till versions_in
    trace_at = record {
      traceable = clause _ 1 sound_is;
      words = rows_fixed (version_to_words b) (version_in bytes) (3 + b) held (drop 4 row) (each_all _ (λ r. length_version b (version_in bytes r)) (parts (3 + b) held (drop 4 row))) (slots_fit few) front;
    }

    most : last ≤ 65535
    unfolding is_numbered
    most = leb-true last 65535 (clause _ 1 numbered)

    rising : rises 0 last (numbers_in b held (drop 4 row)) ≡ true
    unfolding is_numbered
    rising = ap (rises 0 last) (sym (numbers_are bytes b held (drop 4 row))) ∙ clause _ 2 numbered

    pub fine_till : TillSound bytes storage v b row
    fine_till = record {
      few = few;
      most = most;
      rising = rising;
      rights = rights_at;
      zero = zero_at;
      slots = untraced bytes some storage b held (drop 4 row) (slots_fit few) trace_at;
      rest =
          ap all_zero (sym (drop-drop (held * (3 + b)) 4 row))
          ∙ back_fill (v * (3 + b)) (held * (3 + b)) (drop 4 row) (ap (fill (v * (3 + b))) (sym front) ∙ filled_at);
    }

  -- the direct pointers among its pointer words are those of its versions
  module _ (k i : ℕ) (hi : i < 16) (hq : k * 16 + i < kind_unit) where
    slot_count : (x : List ℕ) → Each IsPointerWord (pointer_words bytes x) → count_to (k * 16 + i) (pointer_words bytes x) ≡ count (leads_to k i) (version_in bytes x).pointers
    unfolding version_in
    slot_count x canonical = words_count k i hi hq (pointer_words bytes x) canonical

    pub till_count_lem : TillSound bytes storage v b row → count_to (k * 16 + i) (till_pointers bytes b row) ≡ count (leads_to k i) (rows (λ (u : Version). u.pointers) (till_in bytes v b row).versions)
    unfolding versions_in
    till_count_lem t =
        let slots : List (List ℕ) = parts (3 + b) held (drop 4 row) in
        let canonical : Each (λ (x : List ℕ). Each IsPointerWord (pointer_words bytes x)) slots = each_part (λ x. Each IsPointerWord (pointer_words bytes x)) (3 + b) held (drop 4 row) (λ j g. (t.slots j g).form.pointers) in
        rows_count k i hi hq (λ (x : List ℕ). Each IsPointerWord (pointer_words bytes x)) (pointer_words bytes) (λ x. (version_in bytes x).pointers) slot_count slots canonical
        ∙ ap (λ (ps : List (List Pointer)). count (leads_to k i) (joined ps)) (sym (map-map (λ (u : Version). u.pointers) (version_in bytes) slots))
        ∙ ap (λ (u : Till). count (leads_to k i) (rows (λ (u : Version). u.pointers) u.versions)) (sym (till_is t.few))
