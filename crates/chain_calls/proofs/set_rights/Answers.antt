use Rattle.refusals.specs.Refusals.{refusal_of}
use Rattle.std.proofs.lemmas.Result.{err_from_is_err_and}
use native.Mathlib.Omega.{arith}
use mathlib.Core.Path.{refl}
use mathlib.Core.List.{[]}
use Rattle.chain.specs.Chain.{chain_of}
use Rattle.model.specs.Rights.{set_rights_of}
use Rattle.rights.specs.Answers.{rights_given, rights_answered}
use Rattle.chain.specs.Calls.{rights_on_chain, chain_set_rights}
use Rattle.chain_calls.proofs.Served.{refused, sound_part, altered}
use Rattle.chain_calls.proofs.set_rights.Goals as goal

pub returns-in_err-p : goal.returns-in_err-p
returns-in_err-p c = let a = c.args in
    let k = chain_of a.pools.now a.tables.now a.pool_lengths.now a.table_lengths.now in
    let p = err_from_is_err_and c.from_residual.result c.from_residual.ensures.1 in
    rw (p.1, p.2) (unfold chain_set_rights in refused k a.store _ c.in_err-p.ensures.refused (λ n. record { refusal = n; table = k.tables }) _)

pub set_rights-requires : goal.set_rights-requires
set_rights-requires c = let a = c.args in
    let k = chain_of a.pools.now a.tables.now a.pool_lengths.now a.table_lengths.now in
    sound_part k a.store _ c.in_ok-p.ensures.refused c.in_ok-p.ensures.place.1

pub returns : goal.returns
returns c = let a = c.args in
    let k = chain_of a.pools.now a.tables.now a.pool_lengths.now a.table_lengths.now in
    unfold chain_set_rights rights_on_chain in altered k a.store _ c.in_ok-p.ensures.refused c.in_ok-p.ensures.place.1 (λ n. record { refusal = n; table = k.tables }) (rights_on_chain k a.store) (λ pools tables. rights_answered (refusal_of c.set_rights.result) tables) [] c.set_rights.new.table refl (λ pool table. set_rights_of pool table a.user a.subject a.till (rights_given a.rights)) c.set_rights.ensures
