use mathlib.Core.Path.{◌∙◌}
use native.Mathlib.Omega.{arith}
use Rattle.records.proofs.Records.{struck_formed}
use Rattle.sweep_laws.proofs.Results.{record_pre, strike_done}
use Rattle.sweep_record.proofs.strike_record.Goals as goal

pub clear_marked-requires : goal.clear_marked-requires
clear_marked-requires c =
    let y = record_pre _ _ _ _ _ _ _ c.requires.stored_marked c.requires.loaded in
    (y.few, y.cells, c.requires.stored_marked.measured.most_bytes, c.requires.stored_marked.bytes, c.requires.stored_marked.few)

pub strike_all-new-requires : goal.strike_all-new-requires
strike_all-new-requires c =
    let y = record_pre _ _ _ _ _ _ _ c.requires.stored_marked c.requires.loaded in
    record { formed = y.formed; unreferenced_value = y.gone }

pub store-requires : goal.store-requires
store-requires c =
    let y = record_pre _ _ _ _ _ _ _ c.requires.stored_marked c.requires.loaded in
    let f = struck_formed _ _ y.formed c.strike_all-new.ensures in
    record { formed = (f.0, f.1 ∙ y.count); n_in_bounds = omega (arith, c.requires.loaded.room) }

pub returns : goal.returns
returns c = let m = c.clear_marked.ensures in
    strike_done _ _ _ _ _ _ _ c.requires.stored_marked c.requires.loaded _ _ _ _ m.bytes c.strike_all-new.ensures c.store.ensures m.marks
