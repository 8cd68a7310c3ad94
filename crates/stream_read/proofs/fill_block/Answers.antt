use native.Mathlib.Omega.{arith}
use Rattle.stream_read.proofs.Laws.{fills_null, copy_from, fills_copy}
use Rattle.stream_read.proofs.fill_block.Goals as goal

pub returns-then-bit-eq0 : goal.returns-then-bit-eq0
returns-then-bit-eq0 c = let a = c.args in
    fills_null a.stream.now a.at a.bit a.image.now a.to _ c.requires.0 c.requires.1 c.min-n.ensures _ c.if-bit-eq0.true (c.fill.ensures.after (λ y e. e))

pub copy_part-requires : goal.copy_part-requires
copy_part-requires c = let a = c.args in
    let f = copy_from a.stream.now a.at a.bit a.image.now a.to c.min-n.result c.requires.0 c.requires.1 c.min-n.ensures c.if-bit-eq0.false c.requires.2 in
    (omega (arith, f, c.min-n.ensures), omega (arith, c.min-n.ensures))

pub returns : goal.returns
returns c = let a = c.args in
    fills_copy a.stream.now a.at a.bit a.image.now a.to c.min-n.result c.requires.0 c.requires.1 c.min-n.ensures c.if-bit-eq0.false c.requires.2 _ c.copy_part.ensures
