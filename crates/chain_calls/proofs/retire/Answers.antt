use Rattle.std.proofs.lemmas.Result.{err_from_is_err_and}
use native.Mathlib.Omega.{arith}
use mathlib.Core.Path.{refl}
use Rattle.chain.specs.Chain.{chain_of}
use Rattle.model.specs.Rights.{retire_refusal, retire_as}
use Rattle.retire.specs.Answers.{retire_result}
use Rattle.chain.specs.Calls.{retire_on_chain, chain_retire}
use Rattle.chain_calls.proofs.Put.{retire_put}
use Rattle.chain_calls.proofs.Served.{refused, sound_part, altered}
use Rattle.chain_calls.proofs.retire.Goals as goal

pub returns-in_err-p : goal.returns-in_err-p
returns-in_err-p c = let a = c.args in
    let k = chain_of a.pools.now a.tables.now a.pool_lengths.now a.table_lengths.now in
    let p = err_from_is_err_and c.from_residual.result c.from_residual.ensures.1 in
    rw (p.1, p.2) (unfold chain_retire retire_refusal in refused k a.store _ c.in_err-p.ensures.refused (retire_refusal k.pools k.tables) _)

pub retire-requires : goal.retire-requires
retire-requires c = let a = c.args in
    let k = chain_of a.pools.now a.tables.now a.pool_lengths.now a.table_lengths.now in
    sound_part k a.store _ c.in_ok-p.ensures.refused c.in_ok-p.ensures.place.1

pub returns : goal.returns
returns c = let a = c.args in
    let k = chain_of a.pools.now a.tables.now a.pool_lengths.now a.table_lengths.now in
    unfold chain_retire retire_on_chain in altered k a.store _ c.in_ok-p.ensures.refused c.in_ok-p.ensures.place.1 (retire_refusal k.pools k.tables) (retire_on_chain k a.store) (retire_result c.retire.result) c.retire.new.pool c.retire.new.table (retire_put k a.store c.retire.result _ _) (λ pool table. retire_as pool table a.user a.till a.version) c.retire.ensures
