use mathlib.Core.Path.{◌∙◌, ap}
use lib.ListN.{length}
use Rattle.numbers.specs.Measures.{measures_of}
use Rattle.turn.specs.Turn.{released_of}
use Rattle.turn.proofs.Turning.{released_all, turned_all}
use Rattle.turn.proofs.turn_pointers.Goals as goal

pub returns : goal.returns
returns c = let m = measures_of c.args.m in
    let image = c.args.image.now in
    let pool = c.args.pool.now in
    let ws = c.args.records.now in
    let ps = c.args.pointers.now in
    let t = c.find_targets.ensures in (
      c.copy_from_slice.ensures.after ∙ t ∙ turned_all m image pool ws m.segment_blocks (length ws) ps c.requires.4,
      c.list_released-r.ensures.0 ∙ ap (released_of ps) t ∙ released_all m image pool ws m.segment_blocks (length ws) ps c.requires.4,
      c.list_released-r.ensures.1,
    )
