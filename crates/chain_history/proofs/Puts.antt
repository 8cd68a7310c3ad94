-- A chain with another store in the place of one, and a chain whose stores are sound.
use mathlib.Core.Path.{◌≡◌, ap, ap₂, ◌∙◌}
use mathlib.Core.Bool.{true}
use mathlib.Core.List.{List, []}
use Prim.Native.Nat.{ℕ, ◌+◌, ◌≤◌, ◌<◌}
use native.Mathlib.Omega.{arith}
use lib.ListN.{length, get_or}
use lib.Seq.{get_or-set_same, get_or-set_other, set-get_or, set_out}
use borrow.Author.Tests.{eqb-true, eq-eqb, lt-ltb, le-ltb}
use Rattle.lists.specs.Lists.{total}
use Rattle.lists.specs.Rows.{joined, parts_by}
use Rattle.lists.proofs.Tests.{clause, all_true}
use Rattle.lists.proofs.Counted.{every_counted}
use Rattle.lists.proofs.Counts.{sum_with}
use Rattle.lists.proofs.Lengths.{length_parts_by, joined_parts_by, parts_by_put, total_put}
use Rattle.history.specs.Calls.{Buffers}
use Rattle.chain.specs.Chain.{Chain, store_count, pool_at, table_at, pools_with, tables_with, is_chain, add_up, is_store_at, is_sound_chain, chain_refusal}
use Rattle.chain.specs.Limit.{occupied, all_cells, other_cells}
use Rattle.chain_history.specs.Calls.{buffers_at, with_buffers}

-- one to eight stores, and lengths that add up
pub record LengthsAddUp (c : Chain) : Type 0 where
  pub count : is_chain c ≡ true
  pub pools : total (λ n. n) c.pool_lengths ≡ length c.pools
  pub tables : total (λ n. n) c.table_lengths ≡ length c.tables

pub lists_same : (c : Chain) → is_chain c ≡ true → length c.table_lengths ≡ store_count c
unfolding is_chain
lists_same c h = eqb-true _ _ (clause _ 1 h)

abbrev pub put : Chain → ℕ → Buffers → Chain
put c i b = with_buffers c (pools_with c i b.pool) (tables_with c i b.table)

-- the same store put back
module _ (c : Chain) (l : LengthsAddUp c) (i : ℕ) where
  pub pools_same : pools_with c i (pool_at c i) ≡ c.pools
  unfolding pools_with pool_at
  pools_same = ap joined (set-get_or (parts_by c.pool_lengths c.pools) i []) ∙ joined_parts_by c.pool_lengths c.pools l.pools

  pub tables_same : tables_with c i (table_at c i) ≡ c.tables
  unfolding tables_with table_at
  tables_same = ap joined (set-get_or (parts_by c.table_lengths c.tables) i []) ∙ joined_parts_by c.table_lengths c.tables l.tables

  pub put_same : put c i (buffers_at c i) ≡ c
  unfolding with_buffers buffers_at
  put_same = ap₂ (λ (p t : List ℕ). record { pools = p; tables = t; pool_lengths = c.pool_lengths; table_lengths = c.table_lengths }) pools_same tables_same

-- a store outside the chain
pub put_outside : (c : Chain) → LengthsAddUp c → (i : ℕ) → store_count c ≤ i → (b : Buffers) → put c i b ≡ c
unfolding with_buffers pools_with tables_with
put_outside c l i h b =
    ap₂ (λ (p t : List ℕ). record { pools = p; tables = t; pool_lengths = c.pool_lengths; table_lengths = c.table_lengths })
    (ap joined (set_out (parts_by c.pool_lengths c.pools) i b.pool (omega (arith, length_parts_by c.pool_lengths c.pools))) ∙ joined_parts_by c.pool_lengths c.pools l.pools)
    (ap joined (set_out (parts_by c.table_lengths c.tables) i b.table (omega (arith, length_parts_by c.table_lengths c.tables, lists_same c l.count))) ∙ joined_parts_by c.table_lengths c.tables l.tables)

-- another one, with buffers as long
module _ (c : Chain) (l : LengthsAddUp c) (i : ℕ) (b : Buffers) (hp : length b.pool ≡ length (pool_at c i)) (ht : length b.table ≡ length (table_at c i)) where
  pub put_lengths : LengthsAddUp (put c i b)
  unfolding with_buffers pools_with tables_with pool_at table_at is_chain
  put_lengths = record {
    count = l.count;
    pools = total_put c.pool_lengths c.pools l.pools i b.pool hp;
    tables = total_put c.table_lengths c.tables l.tables i b.table ht;
  }

  pub put_here : i < store_count c → buffers_at (put c i b) i ≡ b
  unfolding with_buffers pools_with tables_with buffers_at pool_at table_at
  put_here h =
      ap₂ (λ (p t : List ℕ). record { pool = p; table = t })
      (ap (λ (ps : List (List ℕ)). get_or ps i []) (parts_by_put c.pool_lengths c.pools l.pools i b.pool hp)
      ∙ get_or-set_same (parts_by c.pool_lengths c.pools) i b.pool [] (omega (arith, length_parts_by c.pool_lengths c.pools)))
      (ap (λ (ts : List (List ℕ)). get_or ts i []) (parts_by_put c.table_lengths c.tables l.tables i b.table ht)
      ∙ get_or-set_same (parts_by c.table_lengths c.tables) i b.table [] (omega (arith, length_parts_by c.table_lengths c.tables, lists_same c l.count)))

  pub put_other : (j : ℕ) → (j ≡ i → ⊥) → buffers_at (put c i b) j ≡ buffers_at c j
  unfolding with_buffers pools_with tables_with buffers_at pool_at table_at
  put_other j h =
      ap₂ (λ (p t : List ℕ). record { pool = p; table = t })
      (ap (λ (ps : List (List ℕ)). get_or ps j []) (parts_by_put c.pool_lengths c.pools l.pools i b.pool hp)
      ∙ get_or-set_other (parts_by c.pool_lengths c.pools) i j b.pool [] h)
      (ap (λ (ts : List (List ℕ)). get_or ts j []) (parts_by_put c.table_lengths c.tables l.tables i b.table ht)
      ∙ get_or-set_other (parts_by c.table_lengths c.tables) i j b.table [] h)

-- ---- a chain whose stores are all sound is refused for its store's number only

module _ (c : Chain) (l : LengthsAddUp c) (sound : (j : ℕ) → j < store_count c → is_store_at c j ≡ true) where
  all_sound : is_sound_chain c ≡ true
  unfolding is_sound_chain add_up
  all_sound = all_true _ (eq-eqb _ _ l.pools, (eq-eqb _ _ l.tables, (every_counted (is_store_at c) 0 (store_count c) (λ j p q. sound j (omega arith)), tt)))

  pub not_refused : (i : ℕ) → i < store_count c → chain_refusal c i ≡ 0
  unfolding chain_refusal
  not_refused i h = rw (l.count, all_sound, lt-ltb i (store_count c) h)

  pub refused_outside : (i : ℕ) → store_count c ≤ i → chain_refusal c i ≡ 3
  unfolding chain_refusal
  refused_outside i h = rw (l.count, all_sound, le-ltb i (store_count c) h)

-- ---- the cells of all stores

pub cells_put : (c : Chain) (l : LengthsAddUp c) (i : ℕ) (b : Buffers) → length b.pool ≡ length (pool_at c i) → length b.table ≡ length (table_at c i) → i < store_count c
    → all_cells (put c i b) ≡ other_cells c i + occupied b.pool b.table
unfolding all_cells other_cells with_buffers buffers_at
cells_put c l i b hp ht h =
    sum_with (λ j. occupied (pool_at (put c i b) j) (table_at (put c i b) j)) (λ j. occupied (pool_at c j) (table_at c j)) i
    (λ j n. ap cells (put_other c l i b hp ht j n)) 0 (store_count c) (omega arith) (omega (arith, h))
    ∙ ap (λ (n : ℕ). other_cells c i + n) (ap cells (put_here c l i b hp ht h))
  where
    cells : Buffers → ℕ
    cells x = occupied x.pool x.table
