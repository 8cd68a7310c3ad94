use mathlib.Core.Path.{ap, sym}
use Rattle.numbers.specs.Measures.{measures_of}
use Rattle.model.specs.State.{Storage}
use Rattle.place_undo.specs.Undo.{undo_upto}
use Rattle.storage.proofs.Read.{stored_records}
use Rattle.sweep.proofs.Released.{claimed, claimed_storage, encodes_as}
use Rattle.backup_steps.proofs.take_back.Goals as goal

pub claim-requires : goal.claim-requires
claim-requires c = let p = c.requires in record { n_bound = (p.stored.measured.most_blocks, stored_records _ p.stored); by_index = p.resolves; by_index_2 = p.room }

pub undo_all-requires : goal.undo_all-requires
undo_all-requires c = let q = c.claim in (claimed _ _ _ c.requires.stored _ _ q.auto.words q.ensures, c.requires.inside)

pub returns : goal.returns
returns c = let q = c.claim in encodes_as (ap (λ (s : Storage). undo_upto (measures_of c.args.m) c.args.placed.now c.args.segments s) (sym (claimed_storage _ _ _ c.requires.stored _ _ q.auto.words q.ensures))) c.undo_all.ensures
