use native.Mathlib.Omega.{arith}
use Rattle.lists.proofs.Checkers.{refutes, proves}
use Rattle.chain.specs.Chain.{chain_of}
use Rattle.chain_check.proofs.Refusals.{refused_1, is_listed, other_sums, lengths_fit, unsound_store, refused_3, not_refused}
use mathlib.Core.Path.{ap}
use mathlib.Core.Bool.{not}
use Rattle.chain_check.proofs.refusal.Goals as goal

pub returns-then-not-is_chain : goal.returns-then-not-is_chain
returns-then-not-is_chain c = let a = c.args in
    let k = chain_of a.pools.now a.tables.now a.pool_lengths.now a.table_lengths.now in
    refused_1 k _ c.is_chain.ensures (ap not c.if-not-is_chain.true) _

pub add_up-requires : goal.add_up-requires
add_up-requires c = let a = c.args in
    let k = chain_of a.pools.now a.tables.now a.pool_lengths.now a.table_lengths.now in
    let l = is_listed k _ c.is_chain.ensures (ap not c.if-not-is_chain.false) in
    (l.few, omega (arith, l.few, l.same))

pub returns-then-not-add_up : goal.returns-then-not-add_up
returns-then-not-add_up c = let a = c.args in
    let k = chain_of a.pools.now a.tables.now a.pool_lengths.now a.table_lengths.now in
    other_sums k (is_listed k _ c.is_chain.ensures (ap not c.if-not-is_chain.false)) (refutes c.add_up.ensures (ap not c.if-not-add_up.true)) _

pub stores_sound-requires : goal.stores_sound-requires
stores_sound-requires c = let a = c.args in
    let k = chain_of a.pools.now a.tables.now a.pool_lengths.now a.table_lengths.now in
    lengths_fit k (proves c.add_up.ensures (ap not c.if-not-add_up.false)) (is_listed k _ c.is_chain.ensures (ap not c.if-not-is_chain.false))

pub returns-then-not-stores_sound : goal.returns-then-not-stores_sound
returns-then-not-stores_sound c = let a = c.args in
    let k = chain_of a.pools.now a.tables.now a.pool_lengths.now a.table_lengths.now in
    unsound_store k (proves c.add_up.ensures (ap not c.if-not-add_up.false)) (is_listed k _ c.is_chain.ensures (ap not c.if-not-is_chain.false)) _ c.stores_sound.ensures (ap not c.if-not-stores_sound.true) _

pub returns-then-store-pool_lengths : goal.returns-then-store-pool_lengths
returns-then-store-pool_lengths c = let a = c.args in
    let k = chain_of a.pools.now a.tables.now a.pool_lengths.now a.table_lengths.now in
    refused_3 k (proves c.add_up.ensures (ap not c.if-not-add_up.false)) (is_listed k _ c.is_chain.ensures (ap not c.if-not-is_chain.false)) _ c.stores_sound.ensures (ap not c.if-not-stores_sound.false) _ (omega (arith, c.if-store-pool_lengths.true))

pub returns : goal.returns
returns c = let a = c.args in
    let k = chain_of a.pools.now a.tables.now a.pool_lengths.now a.table_lengths.now in
    not_refused k (proves c.add_up.ensures (ap not c.if-not-add_up.false)) (is_listed k _ c.is_chain.ensures (ap not c.if-not-is_chain.false)) _ c.stores_sound.ensures (ap not c.if-not-stores_sound.false) _ (omega (arith, c.if-store-pool_lengths.false))
