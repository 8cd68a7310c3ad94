-- What is known of a chain after its checks, and where a store's pool and table lie in the buffers.
use Rattle.std.specs.Prelude.{◌≡◌, ℕ, ◌+◌, ◌≤◌, ◌<◌, length, take}
use Rattle.lists.specs.Lists.{total}
use Rattle.laws.specs.Stores.{Sound}
use Rattle.chain.specs.Chain.{Chain, store_count, pool_at, table_at}
use Rattle.chain_check.specs.declared.Place.{Place}

-- the lists name as many tables as pools, at most eight, and add up to the buffers
pub record Lengths (c : Chain) : Type 0 where
  pub few : length c.pool_lengths ≤ 8
  pub same : length c.table_lengths ≡ length c.pool_lengths
  pub pools : total (λ n. n) c.pool_lengths ≡ length c.pools
  pub tables : total (λ n. n) c.table_lengths ≡ length c.tables

-- and every store is sound
pub record SoundChain (c : Chain) : Type 0 where
  pub lengths : Lengths c
  pub stores : (i : ℕ) → i < store_count c → Sound (pool_at c i) (table_at c i)

-- a place within the buffers
pub record Inside (c : Chain) (p : Place) : Type 0 where
  pub pool_rises : p.from ≤ p.end
  pub in_pools : p.end ≤ length c.pools
  pub table_rises : p.at ≤ p.stop
  pub in_tables : p.stop ≤ length c.tables

-- that of store `i`: its parts begin and end where the lengths say
pub record Lies (c : Chain) (i : ℕ) (p : Place) : Type 0 where
  pub from : p.from ≡ total (λ n. n) (take i c.pool_lengths)
  pub end : p.end ≡ total (λ n. n) (take (i + 1) c.pool_lengths)
  pub at : p.at ≡ total (λ n. n) (take i c.table_lengths)
  pub stop : p.stop ≡ total (λ n. n) (take (i + 1) c.table_lengths)
