-- The version of a number, by its place among the held ones; a sound store's till, among the table's words.
use mathlib.Core.Path.{◌≡◌, refl, sym, ap, ◌∙◌, subst}
use mathlib.Core.Bool.{Bool, true, cond}
use mathlib.Core.List.{List, [], ◌∷◌, map}
use Prim.Native.Nat.{ℕ, zero, suc, ◌+◌, ◌*◌, ◌≤◌, ◌<◌, zero-le}
use native.Mathlib.Nat.{add-zero, mul-le-mul_right, suc-mul}
use native.Mathlib.Omega.{arith}
use lib.ListN.{length, get_or, take, drop, length-map, get_or-map}
use lib.Dec.{eqb, ltb, lit<}
use Rattle.lists.proofs.Last.{last_at}
use Rattle.lists.proofs.Tests.{by_test}
use lib.Seq.{get_or-take, get_or-drop}
use borrow.Author.Tests.{eq-eqb, ne_eqb, leb-true}
use Rattle.lists.specs.Lists.{rises}
use Rattle.lists.specs.Rows.{rows}
use Rattle.lists.proofs.Tests.{clause, every_at}
use Rattle.lists.proofs.Rows.{Wide, wide_all, length_rows, rows_below, get_d_rows, get_d_fill}
use Rattle.lists.proofs.Rises.{rises_length}
use Rattle.model.specs.Measures.{till_words, table_words}
use Rattle.model.specs.State.{Version, Till}
use Rattle.model.specs.Table.{version_to_words, till_to_words, shape_of, state_in}
use Rattle.model.specs.Sound.{is_numbered, is_till}
use Rattle.model.specs.Calls.{empty_till, till_of, held_from, held_before, oldest_number, newest_number, newest_day, not_held}
use Rattle.laws.proofs.RoundTrip.{length_version}
use Rattle.laws.specs.Stores.{till_at, Sound}
use Rattle.laws.proofs.Stores.{till_is, found, fits, valid, long}

-- ---- the version of a number, by its place

-- a refusal has a number
pub not_held_some : (last n : ℕ) → 0 < not_held last n
unfolding not_held
not_held_some last n = by_test (λ (r : ℕ). 0 < r) (eqb n 0) (λ e. lit< tt) (λ e. by_test (λ (r : ℕ). 0 < r) (ltb last n) (λ q. lit< tt) (λ q. lit< tt))

pub held_here : (n : ℕ) (v : Version) (vs : List Version) → v.number ≡ n → held_from n (v ∷ vs) ≡ v ∷ vs
unfolding held_from
held_here n v vs e = ap (λ (t : Bool). cond t (v ∷ vs) (held_from n vs)) (eq-eqb v.number n e)

pub held_later : (n : ℕ) (v : Version) (vs : List Version) → (v.number ≡ n → ⊥) → held_from n (v ∷ vs) ≡ held_from n vs
unfolding held_from
held_later n v vs e = ap (λ (t : Bool). cond t (v ∷ vs) (held_from n vs)) (ne_eqb v.number n e)

-- place `j` is the first that has it, or past the end: it and those after it are held from it, the others before it
pub held_place : (n : ℕ) (vs : List Version) (j : ℕ) → j ≤ length vs → ((i : ℕ) → i < j → get_or (map (λ (v : Version). v.number) vs) i 0 ≡ n → ⊥)
    → (j < length vs → get_or (map (λ (v : Version). v.number) vs) j 0 ≡ n) → (held_from n vs ≡ drop j vs) × (held_before n vs ≡ take j vs)
unfolding held_from held_before
held_place n [] zero h f e = (refl, refl)
held_place n [] (suc j) h f e = absurd (omega (arith, h))
held_place n (v ∷ vs) zero h f e = rw (eq-eqb v.number n (e (omega arith))) (refl, refl)
held_place n (v ∷ vs) (suc j) h f e =
    let r = held_place n vs j (omega (arith, h)) (λ i l q. f (suc i) (omega (arith, l)) q) (λ l. e (omega (arith, l))) in
    rw (ne_eqb v.number n (f 0 (omega arith))) (r.0, ap {B = List Version} (λ l. v ∷ l) r.1)

-- the oldest and the newest number, by their places
pub oldest_at : (vs : List Version) → oldest_number vs ≡ get_or (map (λ (v : Version). v.number) vs) 0 0
unfolding oldest_number
oldest_at [] = refl
oldest_at (v ∷ vs) = refl

pub newest_at_lem : (v : Version) (vs : List Version) → newest_number (v ∷ vs) ≡ get_or (map (λ (w : Version). w.number) (v ∷ vs)) (length vs) 0
unfolding newest_number
newest_at_lem v vs = last_at (λ (w : Version). w.number) 0 0 v vs

-- the newest day
pub newest_day_at : (v : Version) (vs : List Version) → newest_day (v ∷ vs) ≡ get_or (map (λ (w : Version). w.day) (v ∷ vs)) (length vs) 0
unfolding newest_day
newest_day_at v vs = last_at (λ (w : Version). w.day) 0 0 v vs

-- ---- a till of a sound store

-- past the end of a list of versions
abbrev pub no_version : Version
no_version = record { number = 0; length = 0; day = 0; pointers = [] }

module _ {pool table : List ℕ} (h : Sound pool table) (t : ℕ) (in_table : t < get_or table 0 0) where
  abbrev pub till : Till
  till = till_of (state_in (shape_of table) pool table) t

  pub there : t < length (state_in (shape_of table) pool table).tills
  unfolding shape_of
  there = omega (arith, in_table, (fits h).till_count)

  pub till_words_lem : take (till_words (get_or table 1 0) (get_or table 2 0)) (drop (till_at (shape_of table) t) table) ≡ till_to_words (get_or table 1 0) (get_or table 2 0) till
  unfolding shape_of
  till_words_lem =
      subst (λ (ws : List ℕ). take (till_words (get_or table 1 0) (get_or table 2 0)) (drop (till_at (shape_of table) t) ws) ≡ till_to_words (get_or table 1 0) (get_or table 2 0) till)
      (found h).words (till_is (shape_of table) (state_in (shape_of table) pool table) t there)

  -- word j of the till's
  word_at : (j : ℕ) → j < till_words (get_or table 1 0) (get_or table 2 0)
      → get_or table (till_at (shape_of table) t + j) 0 ≡ get_or (take (till_words (get_or table 1 0) (get_or table 2 0)) (drop (till_at (shape_of table) t) table)) j 0
  word_at j b = sym (get_or-take (till_words (get_or table 1 0) (get_or table 2 0)) (drop (till_at (shape_of table) t) table) j 0 b ∙ get_or-drop (till_at (shape_of table) t) table j 0)

  pub is_till_lem : is_till (shape_of table) (state_in (shape_of table) pool table).storage till ≡ true
  unfolding till_of
  is_till_lem = every_at _ empty_till (state_in (shape_of table) pool table).tills (valid h).tills t there

  pub few : length till.versions ≤ get_or table 1 0
  unfolding is_till is_numbered shape_of
  few = leb-true _ _ (clause _ 0 (clause _ 0 is_till_lem))

  pub last_most : till.last ≤ 65535
  unfolding is_till is_numbered
  last_most = leb-true _ _ (clause _ 1 (clause _ 0 is_till_lem))

  pub numbers : rises 0 till.last (map (λ (v : Version). v.number) till.versions) ≡ true
  unfolding is_till is_numbered
  numbers = clause _ 2 (clause _ 0 is_till_lem)

  pub given : length till.versions ≤ till.last
  given =
      omega (
        arith,
        rises_length 0 till.last (map (λ (v : Version). v.number) till.versions) zero-le numbers,
        length-map till.versions (λ (v : Version). v.number),
      )

  pub in_words : till_at (shape_of table) t + till_words (get_or table 1 0) (get_or table 2 0) ≤ length table
  unfolding shape_of table_words
  in_words =
      let m : suc t * till_words (get_or table 1 0) (get_or table 2 0) ≤ get_or table 0 0 * till_words (get_or table 1 0) (get_or table 2 0) = mul-le-mul_right (till_words (get_or table 1 0) (get_or table 2 0)) in_table in
      omega (arith, long h, m, suc-mul t (till_words (get_or table 1 0) (get_or table 2 0)))

  pub last_word : get_or table (till_at (shape_of table) t) 0 ≡ till.last
  unfolding till_to_words
  last_word = ap (λ (i : ℕ). get_or table i 0) (sym (add-zero (till_at (shape_of table) t))) ∙ word_at 0 (omega arith) ∙ ap (λ (ws : List ℕ). get_or ws 0 0) till_words_lem

  pub held_word : get_or table (till_at (shape_of table) t + 1) 0 ≡ length till.versions
  unfolding till_to_words
  held_word = word_at 1 (omega arith) ∙ ap (λ (ws : List ℕ). get_or ws 1 0) till_words_lem

  -- the slots of the held versions begin with their numbers
  pub slot_in : (j : ℕ) → j < length till.versions → 4 + j * (3 + get_or table 2 0) + (3 + get_or table 2 0) ≤ till_words (get_or table 1 0) (get_or table 2 0)
  slot_in j l =
      let m : suc j * (3 + get_or table 2 0) ≤ get_or table 1 0 * (3 + get_or table 2 0) = mul-le-mul_right (3 + get_or table 2 0) (omega (arith, l, few)) in
      omega (arith, m, suc-mul j (3 + get_or table 2 0))

  -- word i of the slot at place j
  slot_word : (j i : ℕ) → j < length till.versions → i < 3 + get_or table 2 0
      → get_or table (till_at (shape_of table) t + (4 + (j * (3 + get_or table 2 0) + i))) 0 ≡ get_or (version_to_words (get_or table 2 0) (get_or till.versions j no_version)) i 0
  unfolding till_to_words
  slot_word j i l g =
      let b : ℕ = get_or table 2 0 in
      let vs : List Version = till.versions in
      let wide : Wide (version_to_words b) (3 + b) vs = wide_all (version_to_words b) (3 + b) (length_version b) vs in
      let most : length vs * (3 + b) ≤ get_or table 1 0 * (3 + b) = mul-le-mul_right (3 + b) few in
      let within : j * (3 + b) + i < length (rows (version_to_words b) vs) = rows_below (version_to_words b) (3 + b) vs wide j i l g in
      let q : 4 + (j * (3 + b) + i) ≡ suc (suc (suc (suc (j * (3 + b) + i)))) = omega arith in
      word_at (4 + (j * (3 + b) + i)) (omega (arith, slot_in j l, g)) ∙ ap (λ (ws : List ℕ). get_or ws (4 + (j * (3 + b) + i)) 0) till_words_lem
      ∙ ap (λ (n : ℕ). get_or (till_to_words (get_or table 1 0) b till) n 0) q
      ∙ get_d_fill (get_or table 1 0 * (3 + b)) (rows (version_to_words b) vs) (j * (3 + b) + i) (omega (arith, most, within, length_rows (version_to_words b) (3 + b) vs wide))
      ∙ get_d_rows (version_to_words b) (3 + b) no_version 0 vs wide j i l g

  pub number_word : (j : ℕ) → j < length till.versions → get_or table (till_at (shape_of table) t + (4 + j * (3 + get_or table 2 0))) 0 ≡ get_or (map (λ (v : Version). v.number) till.versions) j 0
  unfolding version_to_words
  number_word j l =
      ap (λ (n : ℕ). get_or table (till_at (shape_of table) t + (4 + n)) 0) (sym (add-zero (j * (3 + get_or table 2 0)))) ∙ slot_word j 0 l (omega arith)
      ∙ sym (get_or-map (λ (v : Version). v.number) till.versions j no_version)

  pub day_word : (j : ℕ) → j < length till.versions → get_or table (till_at (shape_of table) t + (4 + j * (3 + get_or table 2 0)) + 2) 0 ≡ get_or (map (λ (v : Version). v.day) till.versions) j 0
  unfolding version_to_words
  day_word j l =
      let at : till_at (shape_of table) t + (4 + j * (3 + get_or table 2 0)) + 2 ≡ till_at (shape_of table) t + (4 + (j * (3 + get_or table 2 0) + 2)) = omega arith in
      ap (λ (n : ℕ). get_or table n 0) at ∙ slot_word j 2 l (omega arith) ∙ sym (get_or-map (λ (v : Version). v.day) till.versions j no_version)
