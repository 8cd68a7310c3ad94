use Rattle.std.proofs.lemmas.Result.{err_from_is_err_and}
use native.Mathlib.Omega.{arith}
use Rattle.chain.specs.Chain.{chain_of}
use Rattle.lists.specs.Rows.{fill}
use Rattle.bill.specs.Bill.{bill_refused, bill_as}
use Rattle.chain.specs.Calls.{chain_bill}
use Rattle.chain_calls.proofs.Served.{refused, sound_part, served}
use Rattle.chain_calls.proofs.bill.Goals as goal

pub returns-in_err-p : goal.returns-in_err-p
returns-in_err-p c = let a = c.args in
    let k = chain_of a.pools.now a.tables.now a.pool_lengths.now a.table_lengths.now in
    let p = err_from_is_err_and c.from_residual.result c.from_residual.ensures.1 in
    rw (p.1, p.2) (unfold chain_bill bill_refused fill in refused k a.store _ c.in_err-p.ensures.refused bill_refused _)

pub bill-requires : goal.bill-requires
bill-requires c = let a = c.args in
    let k = chain_of a.pools.now a.tables.now a.pool_lengths.now a.table_lengths.now in
    sound_part k a.store _ c.in_ok-p.ensures.refused c.in_ok-p.ensures.place.1

pub returns : goal.returns
returns c = let a = c.args in
    let k = chain_of a.pools.now a.tables.now a.pool_lengths.now a.table_lengths.now in
    unfold chain_bill in served k a.store _ c.in_ok-p.ensures.refused c.in_ok-p.ensures.place.1 bill_refused (λ pool table. bill_as pool table a.user a.price) _ c.bill.ensures
