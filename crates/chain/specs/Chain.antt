-- A chain "keeps up to eight stores, pools and tables end to end in two lent buffers with the lengths given", and the refusals that come first.
use Rattle.std.specs.Prelude.{ℕ, Bool, cond, List, [], ◌∷◌, length, get_or, set, eqb, ltb}
use Rattle.lists.specs.Lists.{counted, every, total, is_some, all_of}
use Rattle.lists.specs.Rows.{joined, parts_by}
use Rattle.model.specs.Measures.{is_within}
use Rattle.model.specs.Sound.{store_of}

pub record Chain : Type 0 where
  pub pools : List ℕ
  pub tables : List ℕ
  pub pool_lengths : List ℕ
  pub table_lengths : List ℕ

-- of two lent buffers and two lent lists
abbrev pub chain_of : List ℕ → List ℕ → List ℕ → List ℕ → Chain
chain_of pools tables pool_lengths table_lengths = record { pools = pools; tables = tables; pool_lengths = pool_lengths; table_lengths = table_lengths }

-- how many stores the lists name
abbrev pub store_count : Chain → ℕ
store_count c = length c.pool_lengths

-- the pool and the table of store `i`
unfoldable pub pool_at : Chain → ℕ → List ℕ
pool_at c i = get_or (parts_by c.pool_lengths c.pools) i []

unfoldable pub table_at : Chain → ℕ → List ℕ
table_at c i = get_or (parts_by c.table_lengths c.tables) i []

-- the two buffers with another pool, another table for store `i`: "the other stores keep every byte and word"
unfoldable pub pools_with : Chain → ℕ → List ℕ → List ℕ
pools_with c i pool = joined (set (parts_by c.pool_lengths c.pools) i pool)

unfoldable pub tables_with : Chain → ℕ → List ℕ → List ℕ
tables_with c i table = joined (set (parts_by c.table_lengths c.tables) i table)

-- ---- 1, 10, 3, "in this order and first"

-- not "no store, more than eight or length lists of unequal count"
unfoldable pub is_chain : Chain → Bool
is_chain c = all_of (is_within 1 8 (store_count c) ∷ eqb (length c.table_lengths) (store_count c) ∷ [])

unfoldable pub add_up : List ℕ → List ℕ → Bool
add_up lengths buffer = eqb (total (λ n. n) lengths) (length buffer)

unfoldable pub is_store_at : Chain → ℕ → Bool
is_store_at c i = is_some (store_of (pool_at c i) (table_at c i))

-- not "lengths that do not add up or any unsound store"
unfoldable pub is_sound_chain : Chain → Bool
is_sound_chain c =
    all_of
    (add_up c.pool_lengths c.pools
    ∷ add_up c.table_lengths c.tables
    ∷ every (is_store_at c) (counted (λ i. i) 0 (store_count c))
    ∷ [])

-- of a call that names store `i`; 0 if there is none
unfoldable pub chain_refusal : Chain → ℕ → ℕ
chain_refusal c i = cond (is_chain c) (cond (is_sound_chain c) (cond (ltb i (store_count c)) 0 3) 10) 1
