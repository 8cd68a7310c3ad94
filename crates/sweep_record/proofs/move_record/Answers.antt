use mathlib.Core.Path.{ap, sym, ◌∙◌}
use Prim.Native.Nat.{ℕ, ◌+◌, ◌-◌, ◌*◌, ◌≤◌}
use native.Mathlib.Omega.{arith}
use lib.Count.{ones}
use lib.ListN.{length}
use Rattle.records.proofs.Records.{struck_formed, struck_clean, moved_formed}
use Rattle.sweep_laws.proofs.Results.{record_pre, start_room, move_done}
use Rattle.sweep_record.proofs.move_record.Goals as goal

pub overflow_sub-keep : goal.overflow_sub-keep
overflow_sub-keep c =
    let y = record_pre _ _ _ _ _ _ _ c.requires.stored_marked c.requires.loaded in
    y.within

pub copy_marked-requires : goal.copy_marked-requires
copy_marked-requires c =
    let y = record_pre _ _ _ _ _ _ _ c.requires.stored_marked c.requires.loaded in
    let room : c.args.start.0 + ones (c.args.old.held - c.args.unreferenced) ≤ length c.args.occupied.now = (start_room _ _ _ _ _ _ _ c.requires.stored_marked c.requires.loaded _ c.requires.chosen) in
    (omega (arith, y.small), room, y.cells, c.requires.stored_marked.measured.most_bytes, c.requires.stored_marked.bytes, c.requires.stored_marked.few)

pub clear_marked-requires : goal.clear_marked-requires
clear_marked-requires c =
    let y = record_pre _ _ _ _ _ _ _ c.requires.stored_marked c.requires.loaded in
    let k = c.copy_marked.auto in
    (y.small, (λ j. omega (arith, y.cells j, k.occupied)), c.requires.stored_marked.measured.most_bytes, k.pool ∙ c.requires.stored_marked.bytes ∙ ap (λ (i : ℕ). i * c.args.m.bytes) (sym k.occupied), omega (arith, k.occupied, c.requires.stored_marked.few))

pub strike_all-requires : goal.strike_all-requires
strike_all-requires c =
    let y = record_pre _ _ _ _ _ _ _ c.requires.stored_marked c.requires.loaded in
    record { formed = y.formed; unreferenced_value = y.gone }

pub renumber-new-requires : goal.renumber-new-requires
renumber-new-requires c =
    let y = record_pre _ _ _ _ _ _ _ c.requires.stored_marked c.requires.loaded in
    let room : c.args.start.0 + ones (c.args.old.held - c.args.unreferenced) ≤ length c.args.occupied.now = (start_room _ _ _ _ _ _ _ c.requires.stored_marked c.requires.loaded _ c.requires.chosen) in
    record { formed = (struck_formed _ _ y.formed c.strike_all.ensures).0; self_value = (struck_clean _ _ y.formed c.strike_all.ensures, omega (arith, room, c.requires.stored_marked.few)) }

pub store-requires : goal.store-requires
store-requires c =
    let y = record_pre _ _ _ _ _ _ _ c.requires.stored_marked c.requires.loaded in
    let f = struck_formed _ _ y.formed c.strike_all.ensures in
    let g = moved_formed _ _ f.0 _ c.renumber-new.ensures in
    record { formed = (g.0, g.1 ∙ f.1 ∙ y.count); n_in_bounds = omega (arith, c.requires.loaded.room) }

pub returns : goal.returns
returns c = let m = c.clear_marked.ensures in
    let n = c.copy_marked.ensures in
    move_done _ _ _ _ _ _ _ c.requires.stored_marked c.requires.loaded _ c.requires.chosen _ _ _ _ _ (m.bytes ∙ rw n.bytes) c.strike_all.ensures c.renumber-new.ensures c.store.ensures (m.marks ∙ rw n.marks)
