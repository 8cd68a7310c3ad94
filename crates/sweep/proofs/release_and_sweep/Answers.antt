use mathlib.Core.Path.{sym, ap}
use Rattle.numbers.specs.Measures.{measures_of}
use Rattle.model.specs.State.{Storage}
use Rattle.model.specs.Sweep.{sweep}
use Rattle.storage.proofs.Read.{stored_records}
use Rattle.sweep.proofs.Released.{released_storage, released, encodes_as}
use Rattle.sweep.proofs.release_and_sweep.Goals as goal

pub release-requires : goal.release-requires
release-requires c = record { n_bound = (c.requires.stored.measured.most_blocks, stored_records _ c.requires.stored); by_index = c.requires.by_index }

pub sweep_all-requires : goal.sweep_all-requires
sweep_all-requires c = let q = c.release in released _ _ _ c.requires.stored _ _ q.auto.words q.ensures

pub returns : goal.returns
returns c = let q = c.release in
    encodes_as (ap (λ (s : Storage). sweep (measures_of c.args.m) s) (sym (released_storage _ _ _ c.requires.stored _ _ q.auto.words q.ensures))) c.sweep_all.ensures
