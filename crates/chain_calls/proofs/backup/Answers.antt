use Rattle.std.proofs.lemmas.Result.{err_from_is_err_and}
use native.Mathlib.Omega.{arith}
use mathlib.Core.Path.{refl}
use mathlib.Core.Option.{none}
use Rattle.chain.specs.Chain.{chain_of}
use Rattle.backup.specs.Call.{backup_result}
use Rattle.model.specs.Image.{with_blanks}
use Rattle.model.specs.Rights.{backup_refusal, backup_as}
use Rattle.chain.specs.Limit.{within}
use Rattle.chain.specs.Calls.{backup_on_chain, chain_backup}
use Rattle.chain_calls.proofs.Put.{backup_put}
use Rattle.chain_calls.proofs.Served.{refused, sound_part, limited}
use Rattle.chain_calls.proofs.backup.Goals as goal

pub returns-in_err-p : goal.returns-in_err-p
returns-in_err-p c = let a = c.args in
    let k = chain_of a.pools.now a.tables.now a.pool_lengths.now a.table_lengths.now in
    let p = err_from_is_err_and c.from_residual.result c.from_residual.ensures.1 in
    rw (p.1, p.2) (unfold chain_backup backup_refusal in refused k a.store _ c.in_err-p.ensures.refused (backup_refusal k.pools k.tables) _)

pub backup-requires : goal.backup-requires
backup-requires c = let a = c.args in
    let k = chain_of a.pools.now a.tables.now a.pool_lengths.now a.table_lengths.now in
    (sound_part k a.store _ c.in_ok-p.ensures.refused c.in_ok-p.ensures.place.1, c.limit_beside-limited.ensures.1)

pub returns : goal.returns
returns c = let a = c.args in
    let k = chain_of a.pools.now a.tables.now a.pool_lengths.now a.table_lengths.now in
    unfold chain_backup backup_on_chain in limited k a.store _ c.in_ok-p.ensures.refused c.in_ok-p.ensures.place.1 (backup_refusal k.pools k.tables) (backup_on_chain k a.store) (backup_result c.backup.result) c.backup.new.pool c.backup.new.table (backup_put k a.store c.backup.result _ _) (λ others most pool table. within others most pool table (backup_as with_blanks pool table a.user a.till none a.image.now)) _ _ _ c.limit_beside-limited.ensures.0 c.limit_beside-limited.ensures.2 c.backup.ensures
