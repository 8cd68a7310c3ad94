use native.Mathlib.Omega.{arith}
use mathlib.Core.Path.{◌∙◌}
use Rattle.chain.specs.Chain.{chain_of}
use Rattle.model.specs.Calls.{tally_of}
use Rattle.chain.specs.Limit.{occupied}
use Rattle.chain_check.proofs.Parts.{lent, sound_lent}
use Rattle.chain_check.proofs.Cells.{itself, another}
use Rattle.chain_check.proofs.cells_beside.Goals as goal

pub returns-then-store-named : goal.returns-then-store-named
returns-then-store-named c = let a = c.args in
    let k = chain_of a.pools.now a.tables.now a.pool_lengths.now a.table_lengths.now in
    (itself k a.named a.store (omega (arith, c.if-store-named.true)), omega arith)

pub occupied_cells-requires : goal.occupied_cells-requires
occupied_cells-requires c = sound_lent _ c.requires.0.lengths _ c.requires.1 _ c.place_of-p.ensures.1 (c.requires.0.stores _ c.requires.1)

pub returns : goal.returns
unfolding occupied
returns c = (another _ _ _ (λ q. omega (arith, q, c.if-store-named.false)) _ (c.occupied_cells.ensures.0 ∙ lent _ c.requires.0.lengths _ c.requires.1 _ c.place_of-p.ensures.1 (λ pool table. (tally_of pool table).cells)), c.occupied_cells.ensures.1)
