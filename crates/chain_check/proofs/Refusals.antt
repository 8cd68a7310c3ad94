-- The refusals of a chain, test by test, and what a chain that is not refused is known to be.
use mathlib.Core.Path.{◌≡◌, refl, sym, ap, ◌∙◌}
use mathlib.Core.Bool.{Bool, true, false, cond, not}
use mathlib.Core.List.{List, [], ◌∷◌}
use Prim.Native.Nat.{ℕ, zero, suc, ◌+◌, ◌-◌, ◌≤◌, ◌<◌}
use native.Mathlib.Nat.{zero-add}
use native.Mathlib.Numerals.{add-one}
use native.Mathlib.Omega.{arith}
use lib.ListN.{length, take}
use lib.Dec.{eqb, ltb, leb}
use borrow.Author.Tests.{not-true, not-false, le-leb, lt-leb, leb-true, eq-eqb, ne_eqb, eqb-true, lt-ltb, le-ltb, ltb-true}
use lib.Seq.{take-length}
use Rattle.lists.specs.Lists.{counted, every, total, is_some, all_of}
use Rattle.lists.specs.Decides.{Decides}
use Rattle.lists.proofs.Checkers.{is_not, same_as, decides_eqb}
use Rattle.lists.proofs.Counted.{length_counted, counted_at}
use Rattle.lists.proofs.Tests.{clause, all_true, all_false, all_last, every_at}
use Rattle.model.specs.Measures.{is_within}
use Rattle.model.specs.Sound.{store_of}
use Rattle.laws.specs.Stores.{Sound}
use Rattle.laws.proofs.Stores.{sound_if}
use Rattle.chain.specs.Chain.{Chain, chain_of, store_count, pool_at, table_at, is_chain, add_up, is_store_at, is_sound_chain, chain_refusal}
use Rattle.chain_check.specs.Places.{Lengths, SoundChain}

-- ---- the lists

module _ (c : Chain) where
  pub no_store : store_count c < 1 → false ≡ is_chain c
  unfolding is_chain is_within all_of
  no_store h = rw (lt-leb 1 (store_count c) h)

  pub too_many : 8 < store_count c → false ≡ is_chain c
  unfolding is_chain
  too_many h =
      let p : is_within 1 8 (store_count c) ≡ false = unfold is_within in all_false (leb 1 (store_count c) ∷ leb (store_count c) 8 ∷ []) 1 (lt-leb (store_count c) 8 h) in
      sym (all_false (is_within 1 8 (store_count c) ∷ eqb (length c.table_lengths) (store_count c) ∷ []) 0 p)

  pub some_stores : 1 ≤ store_count c → store_count c ≤ 8 → eqb (length c.table_lengths) (store_count c) ≡ is_chain c
  unfolding is_chain
  some_stores h k =
      let p : is_within 1 8 (store_count c) ≡ true =
      unfold is_within in all_true (leb 1 (store_count c) ∷ leb (store_count c) 8 ∷ []) (le-leb 1 (store_count c) h, (le-leb (store_count c) 8 k, tt)) in
      sym (all_last (is_within 1 8 (store_count c) ∷ []) (eqb (length c.table_lengths) (store_count c)) (p, tt))

-- the buffers do not matter here
abbrev pub lists_of : Chain → Chain
lists_of c = chain_of [] [] c.pool_lengths c.table_lengths

-- ---- the sums, one list after the other

module _ (lengths pools : List ℕ) (n : ℕ) (e : n ≡ total (λ n. n) (take (length lengths) lengths)) where
  sum_is : n ≡ total (λ n. n) lengths
  sum_is = e ∙ ap (total (λ (k : ℕ). k)) (take-length lengths)

  pub pools_differ : {P : Type 0} → ¬ (n ≡ length pools) → Decides false ((total (λ n. n) lengths ≡ length pools) × P)
  pools_differ d = is_not (λ q. d (sum_is ∙ q.0))

  pub tables_decided : n ≡ length pools → (others tables : List ℕ) (m : ℕ) → m ≡ total (λ n. n) (take (length others) others)
      → Decides (eqb m (length tables)) ((total (λ n. n) lengths ≡ length pools) × (total (λ n. n) others ≡ length tables))
  tables_decided q others tables m f =
      let a : m ≡ total (λ (k : ℕ). k) others = f ∙ ap (total (λ (k : ℕ). k)) (take-length others) in
      same_as (λ t. (sym sum_is ∙ q, sym a ∙ t)) (λ t. a ∙ t.1) (decides_eqb m (length tables))

-- ---- what the first test finds

pub record Listed (c : Chain) : Type 0 where
  pub chain : is_chain c ≡ true
  pub few : store_count c ≤ 8
  pub same : length c.table_lengths ≡ store_count c

module _ (c : Chain) where
  abbrev lists : List Bool
  lists = is_within 1 8 (store_count c) ∷ eqb (length c.table_lengths) (store_count c) ∷ []

  pub listed : is_chain c ≡ true → Listed c
  unfolding is_chain is_within
  listed h = record {
    chain = h;
    few = leb-true (store_count c) 8 (clause (leb 1 (store_count c) ∷ leb (store_count c) 8 ∷ []) 1 (clause lists 0 h));
    same = eqb-true _ _ (clause lists 1 h);
  }

  same_lists : is_chain (lists_of c) ≡ is_chain c
  unfolding is_chain
  same_lists = refl

  module _ (r : Bool) (e : r ≡ is_chain (lists_of c)) where
    pub refused_1 : not r ≡ true → (i : ℕ) → 1 ≡ chain_refusal c i
    unfolding chain_refusal
    refused_1 n i = let f : is_chain c ≡ false = sym same_lists ∙ sym e ∙ not-true r n in rw f

    pub is_listed : not r ≡ false → Listed c
    is_listed n = listed (sym same_lists ∙ sym e ∙ not-false r n)

-- ---- 10

never : (b : Bool) → (b ≡ true → ⊥) → b ≡ false
never true n = absurd (n refl)
never false n = refl

module _ (c : Chain) where
  abbrev pub Sums : Type 0
  Sums = (total (λ n. n) c.pool_lengths ≡ length c.pools) × (total (λ n. n) c.table_lengths ≡ length c.tables)

  abbrev stores : Bool
  stores = every (is_store_at c) (counted (λ i. i) 0 (store_count c))

  abbrev tests : List Bool
  tests = add_up c.pool_lengths c.pools ∷ add_up c.table_lengths c.tables ∷ stores ∷ []

  unsound : Listed c → is_sound_chain c ≡ false → (i : ℕ) → 10 ≡ chain_refusal c i
  unfolding chain_refusal
  unsound l f i = rw (l.chain, f)

  adds_up : Sums → (add_up c.pool_lengths c.pools ≡ true) × (add_up c.table_lengths c.tables ≡ true)
  unfolding add_up
  adds_up s = (eq-eqb _ _ s.0, eq-eqb _ _ s.1)

  added_up : is_sound_chain c ≡ true → Sums
  unfolding is_sound_chain add_up
  added_up h = (eqb-true _ _ (clause tests 0 h), eqb-true _ _ (clause tests 1 h))

  pub other_sums : Listed c → (Sums → ⊥) → (i : ℕ) → 10 ≡ chain_refusal c i
  other_sums l n i = unsound l (never (is_sound_chain c) (λ t. n (added_up t))) i

  module _ (s : Sums) where
    pub lengths_fit : Listed c → Lengths c
    lengths_fit l = record { few = l.few; same = l.same; pools = s.0; tables = s.1 }

    sound_if_stores : stores ≡ is_sound_chain c
    unfolding is_sound_chain
    sound_if_stores = sym (all_last (add_up c.pool_lengths c.pools ∷ add_up c.table_lengths c.tables ∷ []) stores ((adds_up s).0, ((adds_up s).1, tt)))

    module _ (l : Listed c) (r : Bool) (e : r ≡ stores) where
      pub unsound_store : not r ≡ true → (i : ℕ) → 10 ≡ chain_refusal c i
      unsound_store n i = unsound l (sym sound_if_stores ∙ sym e ∙ not-true r n) i

      -- ---- 3, or none

      module _ (n : not r ≡ false) (i : ℕ) where
        sound : is_sound_chain c ≡ true
        sound = sym sound_if_stores ∙ sym e ∙ not-false r n

        pub refused_3 : store_count c ≤ i → 3 ≡ chain_refusal c i
        unfolding chain_refusal
        refused_3 h = rw (l.chain, sound, le-ltb i (store_count c) h)

        pub not_refused : i < store_count c → 0 ≡ chain_refusal c i
        unfolding chain_refusal
        not_refused h = rw (l.chain, sound, lt-ltb i (store_count c) h)

-- ---- a chain that is not refused

all_three : (a b d : Bool) → ◌≡◌ {A = ℕ} (cond a (cond b (cond d 0 3) 10) 1) 0 → (a ≡ true) × (b ≡ true) × (d ≡ true)
all_three true true true e = (refl, refl, refl)
all_three true true false e = absurd (omega arith)
all_three true false d e = absurd (omega arith)
all_three false b d e = absurd (omega arith)

module _ (c : Chain) (i : ℕ) (e : chain_refusal c i ≡ 0) where
  passed : (is_chain c ≡ true) × (is_sound_chain c ≡ true) × (ltb i (store_count c) ≡ true)
  unfolding chain_refusal
  passed = all_three (is_chain c) (is_sound_chain c) (ltb i (store_count c)) e

  pub is_there : i < store_count c
  is_there = ltb-true i (store_count c) passed.2

  pub fitting : Lengths c
  fitting = lengths_fit c (added_up c passed.1) (listed c passed.0)

  store_at : (j : ℕ) → j < store_count c → is_store_at c j ≡ true
  unfolding is_sound_chain
  store_at j h =
      let all : every (is_store_at c) (counted (λ k. k) 0 (store_count c)) ≡ true = clause (tests c) 2 passed.1 in
      ap (is_store_at c) (sym (counted_at (λ k. k) 0 (store_count c) j 0 h ∙ zero-add j))
      ∙ every_at (is_store_at c) 0 (counted (λ k. k) 0 (store_count c)) all j (omega (arith, h, length_counted (λ (k : ℕ). k) 0 (store_count c)))

  pub sound_chain : SoundChain c
  unfolding is_store_at
  sound_chain = record { lengths = fitting; stores = λ j h. sound_if (pool_at c j) (table_at c j) (sym (store_at j h)) }
