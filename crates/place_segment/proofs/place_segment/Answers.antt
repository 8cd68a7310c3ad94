use native.Mathlib.Omega.{arith}
use Rattle.model.specs.Image.{blocks_from}
use Rattle.place_segment.proofs.Results.{did_bare, seg_room}
use Rattle.place_segment.proofs.place_segment.Goals as goal

pub segment_masks-masks-requires : goal.segment_masks-masks-requires
segment_masks-masks-requires c = let r = c.requires.0 in (r.begins, r.stored.measured.some_bytes, r.stored.measured.most_bytes, r.stored.measured.pieces, r.stored.measured.most_blocks)

pub put_places-requires : goal.put_places-requires
put_places-requires c = let r = c.requires.0 in
    (omega (arith, r.room, r.stored.measured.most_blocks), omega arith)

pub returns-then-masks-eq0 : goal.returns-then-masks-eq0
returns-then-masks-eq0 c = let e = c.segment_masks-masks.ensures in
    let seg = blocks_from c.args.m.bytes c.args.image.now c.args.from c.args.m.blocks in
    did_bare c.requires.0 c.args.image.now _ 0 e.0 c.if-masks-eq0.true _ (c.put_places.ensures seg (seg_room c.requires.0 c.args.image.now) e.0 e.1)

pub place_blocks-requires : goal.place_blocks-requires
place_blocks-requires c = let e = c.segment_masks-masks.ensures in
    (c.requires.0, record { is = e.0; blanks = e.1; some = omega (arith, c.if-masks-eq0.false) }, c.requires.1)
