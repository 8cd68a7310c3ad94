use mathlib.Core.Path.{sym}
use Prim.Native.Nat.{◌≤◌}
use native.Mathlib.Omega.{arith}
use Rattle.storage.proofs.Read.{room_at}
use Rattle.sweep_laws.specs.Marked.{Loaded}
use Rattle.sweep_laws.proofs.Sweeps.{recoded, encodes_records, loaded_formed, loaded, unreferenced_ones, held_count, unreferenced_within, held_most, removed_is}
use Rattle.sweep_record.proofs.sweep_loaded.Goals as goal

pub load-old-requires : goal.load-old-requires
load-old-requires c =
    let few : c.args.m.blocks ≤ 16 = (c.requires.stored_marked.measured.most_blocks) in
    (few, room_at _ _ _ (encodes_records c.requires.stored_marked) _ c.requires.number_in_bounds)

pub unreferenced-unreferenced-requires : goal.unreferenced-unreferenced-requires
unreferenced-unreferenced-requires c =
    let few : c.args.m.blocks ≤ 16 = (c.requires.stored_marked.measured.most_blocks) in
    loaded_formed _ (few) _ (encodes_records c.requires.stored_marked) _ c.requires.number_in_bounds _ c.load-old.ensures

pub size-s-requires : goal.size-s-requires
size-s-requires c =
    let few : c.args.m.blocks ≤ 16 = (c.requires.stored_marked.measured.most_blocks) in
    loaded_formed _ (few) _ (encodes_records c.requires.stored_marked) _ c.requires.number_in_bounds _ c.load-old.ensures

pub remove_from-requires : goal.remove_from-requires
remove_from-requires c =
    let few : c.args.m.blocks ≤ 16 = (c.requires.stored_marked.measured.most_blocks) in
    let b = c.args.m.blocks in
    let d = encodes_records c.requires.stored_marked in
    let l : Loaded b c.args.words.now c.args.number.0 c.load-old.result c.unreferenced-unreferenced.result = loaded _ (few) _ d _ c.requires.number_in_bounds _ c.load-old.ensures _ c.unreferenced-unreferenced.ensures in
    let g = unreferenced_ones _ _ _ _ _ l in
    let h = held_count _ (few) _ d _ c.requires.number_in_bounds _ _ _ l c.size-s.ensures in
    let n = unreferenced_within b c.args.words.now c.args.number.0 in
    let m = held_most _ (few) _ d _ c.requires.number_in_bounds in
    record { stored_marked = c.requires.stored_marked; loaded = l; r_value = (g, h, omega (arith, g, h, n), omega (arith, h, m)) }

pub returns : goal.returns
returns c = recoded (sym (removed_is _ _ _ _)) c.remove_from.ensures
