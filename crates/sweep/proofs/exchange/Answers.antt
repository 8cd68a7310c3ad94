use mathlib.Core.Path.{sym, ap}
use mathlib.Core.List.{map}
use Rattle.numbers.specs.Measures.{measures_of}
use Rattle.model.specs.State.{Storage}
use Rattle.model.specs.Sweep.{release, sweep}
use Rattle.model.specs.Table.{word_to_pointer}
use Rattle.storage.proofs.Read.{stored_records}
use Rattle.sweep.proofs.Released.{claimed_storage, claimed, encodes_as}
use Rattle.sweep.proofs.exchange.Goals as goal

pub claim-requires : goal.claim-requires
claim-requires c = record { n_bound = (c.requires.stored.measured.most_blocks, stored_records _ c.requires.stored); by_index = c.requires.by_index.0; by_index_2 = c.requires.by_index_2 }

pub release_and_sweep-requires : goal.release_and_sweep-requires
release_and_sweep-requires c = let q = c.claim in
    record { stored = claimed _ _ _ c.requires.stored _ _ q.auto.words q.ensures; by_index = λ i h. rw q.auto.words (c.requires.by_index.1 i h) }

pub returns : goal.returns
returns c = let q = c.claim in
    let e = claimed_storage _ _ _ c.requires.stored _ _ q.auto.words q.ensures in
    encodes_as (ap (λ (s : Storage). sweep (measures_of c.args.m) (release s (map word_to_pointer c.args.gone.now))) (sym e)) c.release_and_sweep.ensures
