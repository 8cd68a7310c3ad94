use Rattle.chain.specs.Chain.{chain_of}
use Rattle.chain_check.specs.Places.{Lies}
use Rattle.chain_check.proofs.Parts.{inside}
use Rattle.chain_check.proofs.place_of.Goals as goal

pub returns : goal.returns
returns c = let k = chain_of c.args.pools.now c.args.tables.now c.args.pool_lengths.now c.args.table_lengths.now in
    let q : Lies k c.args.store _ = record { from = c.sum_to-from.ensures.0; end = c.sum_to-end.ensures.0; at = c.sum_to-at.ensures.0; stop = c.sum_to-stop.ensures.0 } in
    (inside _ c.requires.0 _ c.requires.1 _ q, q)
