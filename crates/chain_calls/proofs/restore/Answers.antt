use Rattle.std.proofs.lemmas.Result.{err_from_is_err_and}
use native.Mathlib.Omega.{arith}
use Rattle.chain.specs.Chain.{chain_of}
use Rattle.model.specs.Calls.{restore_refusal}
use Rattle.model.specs.Rights.{restore_as}
use Rattle.chain.specs.Calls.{chain_restore}
use Rattle.chain_calls.proofs.Served.{refused, sound_part, served}
use Rattle.chain_calls.proofs.restore.Goals as goal

pub returns-in_err-p : goal.returns-in_err-p
returns-in_err-p c = let a = c.args in
    let k = chain_of a.pools.now a.tables.now a.pool_lengths.now a.table_lengths.now in
    let p = err_from_is_err_and c.from_residual.result c.from_residual.ensures.1 in
    rw (p.1, p.2) (unfold chain_restore restore_refusal in refused k a.store _ c.in_err-p.ensures.refused (λ n. restore_refusal n a.output.now) _)

pub restore-requires : goal.restore-requires
restore-requires c = let a = c.args in
    let k = chain_of a.pools.now a.tables.now a.pool_lengths.now a.table_lengths.now in
    sound_part k a.store _ c.in_ok-p.ensures.refused c.in_ok-p.ensures.place.1

pub returns : goal.returns
returns c = let a = c.args in
    let k = chain_of a.pools.now a.tables.now a.pool_lengths.now a.table_lengths.now in
    unfold chain_restore in served k a.store _ c.in_ok-p.ensures.refused c.in_ok-p.ensures.place.1 (λ n. restore_refusal n a.output.now) (λ pool table. restore_as pool table a.user a.till a.version a.output.now) _ c.restore.ensures
