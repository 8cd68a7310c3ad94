use mathlib.Core.Bool.{not}
use mathlib.Core.Path.{◌≡◌, ap, sym, ◌∙◌}
use native.Mathlib.Omega.{arith}
use Rattle.lists.proofs.Checkers.{refutes}
use Rattle.storage.proofs.Read.{count_at, room_at, row_at}
use Rattle.sweep_laws.specs.Ways.{unreferenced_at, segment_at}
use Rattle.sweep_laws.proofs.Sweeps.{recoded, encodes_records, removed_is, removed_none}
use Rattle.sweep_record.proofs.sweep_record.Goals as goal

pub any_unreferenced-requires : goal.any_unreferenced-requires
any_unreferenced-requires c = (c.requires.stored_marked.measured.most_blocks, room_at _ _ _ (encodes_records c.requires.stored_marked) _ c.requires.number_in_bounds)

pub returns-else-any_unreferenced : goal.returns-else-any_unreferenced
returns-else-any_unreferenced c = let b = c.args.m.blocks in
    let ws = c.args.words.now in
    let k = c.args.number.0 in
    let d = encodes_records c.requires.stored_marked in
    let x = refutes (c.any_unreferenced.ensures (segment_at b ws k) (count_at _ _ _ d k c.requires.number_in_bounds) (row_at _ _ _ d k c.requires.number_in_bounds)) (ap not c.if-any_unreferenced.false) in
    let z : unreferenced_at b ws k ≡ 0 = omega (arith, x) in
    recoded (sym (removed_is _ _ _ _) ∙ removed_none _ _ _ _ z) c.requires.stored_marked.encodes_marked
