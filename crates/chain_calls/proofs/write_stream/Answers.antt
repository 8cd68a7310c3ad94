use Rattle.std.proofs.lemmas.Result.{err_from_is_err_and}
use native.Mathlib.Omega.{arith}
use Rattle.chain.specs.Chain.{chain_of}
use Rattle.stream.specs.Stream.{stream_refusal}
use Rattle.stream.specs.Version.{write_stream_as}
use Rattle.chain.specs.Calls.{chain_write_stream}
use Rattle.chain_calls.proofs.Served.{refused, sound_part, served}
use Rattle.chain_calls.proofs.write_stream.Goals as goal

pub returns-in_err-p : goal.returns-in_err-p
returns-in_err-p c = let a = c.args in
    let k = chain_of a.pools.now a.tables.now a.pool_lengths.now a.table_lengths.now in
    let p = err_from_is_err_and c.from_residual.result c.from_residual.ensures.1 in
    rw (p.1, p.2) (unfold chain_write_stream stream_refusal in refused k a.store _ c.in_err-p.ensures.refused (λ n. stream_refusal n a.output.now) _)

pub write_stream-requires : goal.write_stream-requires
write_stream-requires c = let a = c.args in
    let k = chain_of a.pools.now a.tables.now a.pool_lengths.now a.table_lengths.now in
    sound_part k a.store _ c.in_ok-p.ensures.refused c.in_ok-p.ensures.place.1

pub returns : goal.returns
returns c = let a = c.args in
    let k = chain_of a.pools.now a.tables.now a.pool_lengths.now a.table_lengths.now in
    unfold chain_write_stream in served k a.store _ c.in_ok-p.ensures.refused c.in_ok-p.ensures.place.1 (λ n. stream_refusal n a.output.now) (λ pool table. write_stream_as pool table a.user a.till a.version a.output.now) _ c.write_stream.ensures
