use Rattle.std.proofs.lemmas.Result.{err_from_is_err_and}
use native.Mathlib.Omega.{arith}
use Rattle.chain.specs.Chain.{chain_of}
use Rattle.lists.specs.Rows.{fill}
use Rattle.closing.specs.Closing.{all_refused}
use Rattle.closing_backup.specs.Answers.{closing_result}
use Rattle.chain.specs.Limit.{backup_all_within}
use Rattle.chain.specs.Calls.{all_on_chain, chain_backup_all}
use Rattle.chain_calls.proofs.Put.{closing_put}
use Rattle.chain_calls.proofs.Served.{refused, sound_part, limited}
use Rattle.chain_calls.proofs.backup_all.Goals as goal

pub returns-in_err-p : goal.returns-in_err-p
returns-in_err-p c = let a = c.args in
    let k = chain_of a.pools.now a.tables.now a.pool_lengths.now a.table_lengths.now in
    let p = err_from_is_err_and c.from_residual.result c.from_residual.ensures.1 in
    rw (p.1, p.2) (unfold chain_backup_all all_refused fill in refused k a.store _ c.in_err-p.ensures.refused (λ n. record { answer = all_refused n; pool = k.pools; table = k.tables }) _)

pub back_up_all-requires : goal.back_up_all-requires
back_up_all-requires c = let a = c.args in
    let k = chain_of a.pools.now a.tables.now a.pool_lengths.now a.table_lengths.now in
    (sound_part k a.store _ c.in_ok-p.ensures.refused c.in_ok-p.ensures.place.1, c.limit_beside-limited.ensures.1)

pub returns : goal.returns
returns c = let a = c.args in
    let k = chain_of a.pools.now a.tables.now a.pool_lengths.now a.table_lengths.now in
    unfold chain_backup_all all_on_chain in limited k a.store _ c.in_ok-p.ensures.refused c.in_ok-p.ensures.place.1 (λ n. record { answer = all_refused n; pool = k.pools; table = k.tables }) (all_on_chain k a.store) (closing_result c.back_up_all.result) c.back_up_all.new.pool c.back_up_all.new.table (closing_put k a.store c.back_up_all.result _ _) (λ others most pool table. backup_all_within others most pool table a.user a.tills.now a.lengths.now a.images.now) _ _ _ c.limit_beside-limited.ensures.0 c.limit_beside-limited.ensures.2 c.back_up_all.ensures
