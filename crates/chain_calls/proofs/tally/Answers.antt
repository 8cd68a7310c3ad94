use Rattle.std.proofs.lemmas.Result.{err_from_is_err_and}
use native.Mathlib.Omega.{arith}
use Rattle.chain.specs.Chain.{chain_of}
use Rattle.model.specs.Rights.{tally_refusal, tally_as}
use Rattle.chain.specs.Calls.{chain_tally}
use Rattle.chain_calls.proofs.Served.{refused, sound_part, served}
use Rattle.chain_calls.proofs.tally.Goals as goal

pub returns-in_err-p : goal.returns-in_err-p
returns-in_err-p c = let a = c.args in
    let k = chain_of a.pools.now a.tables.now a.pool_lengths.now a.table_lengths.now in
    let p = err_from_is_err_and c.from_residual.result c.from_residual.ensures.1 in
    rw (p.1, p.2) (unfold chain_tally tally_refusal in refused k a.store _ c.in_err-p.ensures.refused tally_refusal _)

pub tally-requires : goal.tally-requires
tally-requires c = let a = c.args in
    let k = chain_of a.pools.now a.tables.now a.pool_lengths.now a.table_lengths.now in
    sound_part k a.store _ c.in_ok-p.ensures.refused c.in_ok-p.ensures.place.1

pub returns : goal.returns
returns c = let a = c.args in
    let k = chain_of a.pools.now a.tables.now a.pool_lengths.now a.table_lengths.now in
    unfold chain_tally in served k a.store _ c.in_ok-p.ensures.refused c.in_ok-p.ensures.place.1 tally_refusal (λ pool table. tally_as pool table a.user) _ c.tally.ensures
