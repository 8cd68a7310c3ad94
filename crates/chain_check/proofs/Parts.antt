-- The part of a buffer that a store is lent is its pool or its table, and what comes back goes to that place.
use mathlib.Core.Path.{◌≡◌, sym, ap₂}
use mathlib.Core.List.{List, [], ◌++◌}
use Prim.Native.Nat.{ℕ, ◌+◌, ◌-◌, ◌≤◌, ◌<◌}
use native.Mathlib.Omega.{arith}
use lib.ListN.{length, get_or, set, take, drop}
use Rattle.lists.specs.Lists.{total}
use Rattle.lists.specs.Rows.{joined, parts_by}
use Rattle.lists.proofs.Lengths.{part_from, part_inside, part_next, part_by, put_part_by}
use Rattle.laws.specs.Stores.{Sound}
use Rattle.chain.specs.Chain.{Chain, store_count, pool_at, table_at, pools_with, tables_with}
use Rattle.chain_check.specs.declared.Place.{Place}
use Rattle.chain_check.specs.Places.{Lengths, Inside, Lies}

-- ---- lists alone

module _ (ns : List ℕ) (i : ℕ) (h : i < length ns) (a b : ℕ) (ea : a ≡ part_from ns i) (eb : b ≡ part_from ns (i + 1)) where
  part_long : b - a ≡ get_or ns i 0
  part_long = omega (arith, ea, eb, part_next ns i h)

  part_rises : a ≤ b
  part_rises = omega (arith, ea, eb, part_next ns i h)

  part_ends : b ≤ total (λ n. n) ns
  part_ends = omega (arith, eb, part_next ns i h, part_inside ns i h)

  part_lent : (xs : List ℕ) → take (b - a) (drop a xs) ≡ get_or (parts_by ns xs) i []
  part_lent xs = rw (part_long, ea) (sym (part_by ns xs i h))

  part_returned : (xs y : List ℕ) → total (λ n. n) ns ≡ length xs → take a xs ++ (y ++ drop (b - a) (drop a xs)) ≡ joined (set (parts_by ns xs) i y)
  part_returned xs y e = rw (part_long, ea) (put_part_by ns xs i y e h)

-- ---- of a chain

module _ (c : Chain) (h : Lengths c) (i : ℕ) (l : i < store_count c) where
  there : i < length c.table_lengths
  there = omega (arith, l, h.same)

  module _ (p : Place) (q : Lies c i p) where
    pub inside : Inside c p
    inside = record {
      pool_rises = part_rises c.pool_lengths i l p.from p.end q.from q.end;
      in_pools = omega (arith, part_ends c.pool_lengths i l p.from p.end q.from q.end, h.pools);
      table_rises = part_rises c.table_lengths i there p.at p.stop q.at q.stop;
      in_tables = omega (arith, part_ends c.table_lengths i there p.at p.stop q.at q.stop, h.tables);
    }

    pub pool_lent : take (p.end - p.from) (drop p.from c.pools) ≡ pool_at c i
    unfolding pool_at
    pool_lent = part_lent c.pool_lengths i l p.from p.end q.from q.end c.pools

    pub table_lent : take (p.stop - p.at) (drop p.at c.tables) ≡ table_at c i
    unfolding table_at
    table_lent = part_lent c.table_lengths i there p.at p.stop q.at q.stop c.tables

    -- what is said of the lent parts is said of the store
    pub lent {ℓ} : {A : Type ℓ} (f : List ℕ → List ℕ → A) → f (take (p.end - p.from) (drop p.from c.pools)) (take (p.stop - p.at) (drop p.at c.tables)) ≡ f (pool_at c i) (table_at c i)
    lent f = ap₂ f pool_lent table_lent

    pub sound_lent : Sound (pool_at c i) (table_at c i) → Sound (take (p.end - p.from) (drop p.from c.pools)) (take (p.stop - p.at) (drop p.at c.tables))
    sound_lent s = rw (pool_lent, table_lent) s

    pub pool_returned : (pool : List ℕ) → take p.from c.pools ++ (pool ++ drop (p.end - p.from) (drop p.from c.pools)) ≡ pools_with c i pool
    unfolding pools_with
    pool_returned pool = part_returned c.pool_lengths i l p.from p.end q.from q.end c.pools pool h.pools

    pub table_returned : (table : List ℕ) → take p.at c.tables ++ (table ++ drop (p.stop - p.at) (drop p.at c.tables)) ≡ tables_with c i table
    unfolding tables_with
    table_returned table = part_returned c.table_lengths i there p.at p.stop q.at q.stop c.tables table h.tables
