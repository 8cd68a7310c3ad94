use native.Mathlib.Omega.{arith}
use Rattle.records.proofs.Records.{free_formed}
use Rattle.sweep_laws.proofs.Results.{record_pre, free_done}
use Rattle.sweep_record.proofs.free_record.Goals as goal

pub clear_marked-requires : goal.clear_marked-requires
clear_marked-requires c =
    let y = record_pre _ _ _ _ _ _ _ c.requires.stored_marked c.requires.loaded in
    (y.small, y.cells, c.requires.stored_marked.measured.most_bytes, c.requires.stored_marked.bytes, c.requires.stored_marked.few)

pub store-requires : goal.store-requires
store-requires c = record { formed = free_formed _ _ c.free-new.ensures c.requires.stored_marked.measured.most_blocks; n_in_bounds = omega (arith, c.requires.loaded.room) }

pub returns : goal.returns
returns c = let m = c.clear_marked.ensures in
    free_done _ _ _ _ _ _ _ c.requires.stored_marked c.requires.loaded _ _ _ _ m.bytes c.free-new.ensures c.store.ensures m.marks
