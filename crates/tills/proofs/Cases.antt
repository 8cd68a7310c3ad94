-- How large a till is; the listing, case by case; and where a version is.
use mathlib.Core.Path.{◌≡◌, refl, sym, ap, ap₂, ◌∙◌}
use mathlib.Core.Bool.{Bool, true, false}
use mathlib.Core.List.{List, [], ◌∷◌, map}
use Prim.Native.Nat.{ℕ, ◌+◌, ◌*◌, ◌-◌, ◌≤◌, ◌<◌}
use native.Mathlib.Omega.{arith}
use lib.ListN.{length, get_or, take, drop, length-drop}
use Rattle.std.proofs.Common.{Some, None, Ok, Err}
use Rattle.refusals.specs.declared.Refusal.{Refusal}
use Rattle.refusals.specs.Refusals.{number_of}
use lib.Dec.{leb}
use borrow.Author.Tests.{le-leb, lt-leb, leb-true, leb-false}
use Rattle.lists.specs.Lists.{last_of}
use Rattle.model.specs.Measures.{till_words}
use Rattle.model.specs.State.{Version, Till}
use Rattle.model.specs.Table.{shape_of, state_in}
use Rattle.model.specs.Calls.{till_of, held_before, missing, first_of, not_held, look_up, oldest_number, newest_number, listing_refusal, list_till, listing_in, listing_of}
use Rattle.laws.proofs.Measures.{sizes}
use Rattle.laws.specs.Stores.{till_at, Sound, HeaderRanges}
use Rattle.laws.proofs.Stores.{header}
use Rattle.laws.proofs.Tills.{till, in_words, last_word, held_word, held_place, oldest_at, newest_at_lem, slot_in, number_word}
use Rattle.tills.specs.declared.Head.{Head}
use Rattle.tills.specs.Answers.{HeadOf, versions_held, numbers_held, PlaceFound, LookedUp}
use Rattle.lists.proofs.Slices.{drop_end, none_left}

-- how many words a till has
abbrev pub till_size : List ℕ → ℕ
till_size table = till_words (get_or table 1 0) (get_or table 2 0)

pub small : (table : List ℕ) → HeaderRanges table → (t : ℕ) → t ≤ 16 → (till_size table ≤ 65732) × (t * till_size table ≤ 1051712)
small table h t n = let (a, b) = sizes t (get_or table 1 0) (get_or table 2 0) n h.versions h.blocks in (omega (arith, a), b)

-- where a till begins, with its size in a variable
module _ {pool table : List ℕ} (h : Sound pool table) (t : ℕ) (in_table : t < get_or table 0 0) (n : ℕ) (size : n ≡ till_size table) where
  pub begins : 8 + t * n ≡ till_at (shape_of table) t
  unfolding shape_of
  begins = ap (λ (k : ℕ). 8 + t * k) size

  pub within_table : (8 + t * n + 4 ≤ length table) × (t * n ≤ 1051712)
  within_table =
      let b : t ≤ 16 = omega (arith, in_table, (header h).tills) in
      let a : t * n ≤ 1051712 = rw size (small table (header h) t b).1 in
      (omega (arith, begins, in_words h t in_table), a)

  pub head_is : HeadOf pool table t (record { at = 8 + t * n; last = get_or table (8 + t * n) 0; held = get_or table (8 + t * n + 1) 0 })
  head_is = record {
    at = begins;
    last = ap (λ (i : ℕ). get_or table i 0) begins ∙ last_word h t in_table;
    held = ap (λ (i : ℕ). get_or table (i + 1) 0) begins ∙ held_word h t in_table;
  }

module _ {pool table : List ℕ} (h : Sound pool table) (t : ℕ) where
  pub no_till_lem : get_or table 0 0 ≤ t → record { refusal = 3; oldest = 0; newest = 0; last = 0 } ≡ listing_of pool table t
  unfolding listing_of listing_in listing_refusal shape_of
  no_till_lem n = rw (h.is, le-leb _ _ n)

  module _ (in_table : t < get_or table 0 0) (r : Head) (o : HeadOf pool table t r) where
    answer : listing_of pool table t ≡ list_till (till h t in_table)
    unfolding listing_of listing_in shape_of
    answer = rw (h.is, lt-leb _ _ in_table)

    pub none_held : r.held ≡ 0 → record { refusal = 0; oldest = 0; newest = 0; last = r.last } ≡ listing_of pool table t
    unfolding list_till oldest_number last_of newest_number
    none_held e = go (till h t in_table) (sym o.held ∙ e) o.last ∙ sym answer
      where
        go : (x : Till) → length x.versions ≡ 0 → r.last ≡ x.last → record { refusal = 0; oldest = 0; newest = 0; last = r.last } ≡ list_till x
        go x z l = rw (l, none_left x.versions z)

    pub some_held : (r.held ≡ 0 → ⊥) → (a b : ℕ) → a ≡ get_or (numbers_held pool table t) 0 0 → b ≡ get_or (numbers_held pool table t) (r.held - 1) 0
        → record { refusal = 0; oldest = a; newest = b; last = r.last } ≡ listing_of pool table t
    unfolding list_till
    some_held e a b ea eb = go (till h t in_table) ea eb o.held o.last ∙ sym answer
      where
        newest : (vs : List Version) → (length vs ≡ 0 → ⊥) → get_or (map (λ (v : Version). v.number) vs) (length vs - 1) 0 ≡ newest_number vs
        newest [] z = absurd (z refl)
        newest (v ∷ vs) z = let k : length (v ∷ vs) - 1 ≡ length vs = omega arith in ap (λ (i : ℕ). get_or (map (λ (w : Version). w.number) (v ∷ vs)) i 0) k ∙ sym (newest_at_lem v vs)

        go : (x : Till) → a ≡ get_or (map (λ (v : Version). v.number) x.versions) 0 0 → b ≡ get_or (map (λ (v : Version). v.number) x.versions) (r.held - 1) 0
            → r.held ≡ length x.versions → r.last ≡ x.last → record { refusal = 0; oldest = a; newest = b; last = r.last } ≡ list_till x
        go x p q n l =
            let first : a ≡ oldest_number x.versions = p ∙ sym (oldest_at x.versions) in
            let last : b ≡ newest_number x.versions = q ∙ ap (λ (k : ℕ). get_or (map (λ (v : Version). v.number) x.versions) (k - 1) 0) n ∙ newest x.versions (λ z. e (n ∙ z)) in
            λ i. record { refusal = 0; oldest = first i; newest = last i; last = l i }

-- ---- the slots of the held versions

-- none of the numbers before place j is n
abbrev pub NoneBefore : List ℕ → ℕ → ℕ → Type 0
NoneBefore ns n j = (i : ℕ) → i < j → get_or ns i 0 ≡ n → ⊥

pub none_next : (ns : List ℕ) (n j : ℕ) → NoneBefore ns n j → (get_or ns j 0 ≡ n → ⊥) → NoneBefore ns n (j + 1)
none_next ns n j f z i l e = go (leb j i) refl
  where
    go : (b : Bool) → leb j i ≡ b → ⊥
    go true q = let k : i ≡ j = omega (arith, leb-true j i q, l) in z (ap (λ (x : ℕ). get_or ns x 0) (sym k) ∙ e)
    go false q = f i (leb-false j i q) e

module _ {pool table : List ℕ} (h : Sound pool table) (t : ℕ) (in_table : t < get_or table 0 0) where
  -- the slot at place j, its start as the code computes it
  pub slot_within : (at j : ℕ) → at ≡ till_at (shape_of table) t → j < length (versions_held pool table t)
      → (at + (4 + j * (3 + get_or table 2 0)) < length table) × (j * (3 + get_or table 2 0) ≤ 65732) × (at ≤ 1051720)
  unfolding shape_of
  slot_within at j e l =
      let b : t ≤ 16 = omega (arith, in_table, (header h).tills) in
      let (size, all) = small table (header h) t b in
      (omega (arith, e, slot_in h t in_table j l, in_words h t in_table), omega (arith, slot_in h t in_table j l, size), omega (arith, e, all))

  pub number_is : (at j : ℕ) → at ≡ till_at (shape_of table) t → j < length (versions_held pool table t)
      → get_or table (at + (4 + j * (3 + get_or table 2 0))) 0 ≡ get_or (numbers_held pool table t) j 0
  number_is at j e l = ap (λ (a : ℕ). get_or table (a + (4 + j * (3 + get_or table 2 0))) 0) e ∙ number_word h t in_table j l

  pub place_here : (n j : ℕ) → j < length (versions_held pool table t) → NoneBefore (numbers_held pool table t) n j → get_or (numbers_held pool table t) j 0 ≡ n → PlaceFound pool table t n (Some j)
  place_here n j l f e =
      let q = held_place n (versions_held pool table t) j (omega (arith, l)) f (λ k. e) in
      record { inside = λ i s. let k : j ≡ i = cc in omega (arith, l, k); from = q.0; before = q.1 }

  pub place_none : (n : ℕ) → NoneBefore (numbers_held pool table t) n (length (versions_held pool table t)) → PlaceFound pool table t n None
  place_none n f =
      let q = held_place n (versions_held pool table t) (length (versions_held pool table t)) (omega arith) f (λ k. absurd (omega (arith, k))) in
      record { inside = λ i s. absurd (cc); from = q.0; before = q.1 }

-- ---- a number looked up, from its place

module _ {pool table : List ℕ} (t n : ℕ) (h : Head) (o : HeadOf pool table t h) where
  past_missing : PlaceFound pool table t n None → (r : ℕ) → r ≡ not_held h.last n → look_up (till_of (state_in (shape_of table) pool table) t) n ≡ missing r
  unfolding look_up first_of
  past_missing p r e =
      let past : drop (length (versions_held pool table t)) (versions_held pool table t) ≡ [] = drop_end (versions_held pool table t) (length (versions_held pool table t)) (omega arith) in
      ap (first_of (not_held (till_of (state_in (shape_of table) pool table) t).last n) (held_before n (versions_held pool table t))) (p.from ∙ past)
      ∙ ap (λ (x : ℕ). missing x) (ap (λ (x : ℕ). not_held x n) (sym o.last) ∙ sym e)

  pub looked_past : PlaceFound pool table t n None → (r : Refusal) → number_of r ≡ not_held h.last n → LookedUp pool table t n (Err r)
  looked_past p r e = record {
    inside = λ j q. absurd (cc);
    held = λ j q. absurd (cc);
    missing = λ k q. let same : r ≡ k = cc in past_missing p (number_of k) (ap number_of (sym same) ∙ e);
  }

  pub looked_at : (j : ℕ) → PlaceFound pool table t n (Some j) → LookedUp pool table t n (Ok j)
  unfolding look_up
  looked_at j p = record {
    inside = λ i q. let same : j ≡ i = cc in omega (arith, p.inside j refl, same);
    held = λ i q. let same : j ≡ i = cc in
        ap₂ (first_of (not_held (till_of (state_in (shape_of table) pool table) t).last n)) p.before p.from
        ∙ there (drop j (versions_held pool table t)) refl
        ∙ ap (λ (k : ℕ). first_of 0 (take k (versions_held pool table t)) (drop k (versions_held pool table t))) same;
    missing = λ e q. absurd (cc);
  }
    where
      there : (vs : List Version) → drop j (versions_held pool table t) ≡ vs
          → first_of (not_held (till_of (state_in (shape_of table) pool table) t).last n) (take j (versions_held pool table t)) vs ≡ first_of 0 (take j (versions_held pool table t)) vs
      there [] e = absurd (omega (arith, p.inside j refl, ap length e, length-drop j (versions_held pool table t)))
      there (v ∷ vs) e = unfold first_of in refl
