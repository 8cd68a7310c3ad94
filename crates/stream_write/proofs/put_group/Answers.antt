use Rattle.stream.specs.Stream.{group_bytes}
use native.Mathlib.Omega.{arith}
use mathlib.Core.Path.{ap, ◌∙◌}
use lib.ListN.{length, length-set}
use Rattle.model.specs.Image.{blocks_from}
use Rattle.stream_write.proofs.Laws.{group_long, group_put}
use Rattle.lists.proofs.Pieces.{length_written}
use Rattle.stream_write.proofs.put_group.Goals as goal

pub bounds-output-at : goal.bounds-output-at
bounds-output-at c = let a = c.args in
    omega (arith, c.requires.1, group_long a.image.now a.from)

pub put_blocks-requires : goal.put_blocks-requires
put_blocks-requires c = let a = c.args in
    (omega arith, simp length-set (omega (arith, c.requires.1, group_long a.image.now a.from)))

pub shape_of-output : goal.shape_of-output
shape_of-output c = let a = c.args in
    ap length (group_put a.image.now a.from a.at a.output.now c.group_map-map.result _ _ c.requires.1 c.group_map-map.ensures.0 c.put_blocks.ensures.0 c.put_blocks.ensures.1).1
    ∙ length_written a.output.now a.at (group_bytes (blocks_from 64 a.image.now a.from 8)) c.requires.1

pub returns : goal.returns
returns c = let a = c.args in
    group_put a.image.now a.from a.at a.output.now c.group_map-map.result _ _ c.requires.1 c.group_map-map.ensures.0 c.put_blocks.ensures.0 c.put_blocks.ensures.1
