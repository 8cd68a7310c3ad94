use Rattle.chain_check.proofs.Refusals.{pools_differ, tables_decided}
use Rattle.chain_check.proofs.add_up.Goals as goal

pub returns-then-sum_to-pools : goal.returns-then-sum_to-pools
returns-then-sum_to-pools c = let a = c.args in
    pools_differ a.pool_lengths.now a.pools.now _ c.sum_to.ensures.0 c.if-sum_to-pools.true

pub returns : goal.returns
returns c = let a = c.args in
    tables_decided a.pool_lengths.now a.pools.now _ c.sum_to.ensures.0 c.if-sum_to-pools.false a.table_lengths.now a.tables.now _ c.sum_to-2.ensures.0
