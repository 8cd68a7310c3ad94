use Rattle.std.proofs.Common.{arith, ◌≡◌, ◌*◌, ◌+◌, ◌-◌}
use Rattle.model.specs.Image.{block_from}
use Rattle.laws.proofs.Image.{length_block}
use Rattle.storage.proofs.Inside.{cell_put}
use Rattle.place_match.proofs.copy_if.Goals as goal

pub returns-then-bit-eq1 : goal.returns-then-bit-eq1
returns-then-bit-eq1 c =
    let a = c.args in
    let one = c.if-bit-eq1.true in
    let b : c.byte-start.result ≡ a.cell.0 * a.bytes = c.byte-start.ensures in
    let k : a.cell.0 * a.bytes + a.bytes - a.cell.0 * a.bytes ≡ a.bytes = omega arith in
    rw (one, b, k, c.put_block.ensures)
    (cell_put a.bytes a.pool.now a.cell.0 (omega arith) (c.requires.2 one) (block_from a.bytes a.image.now a.at) (length_block a.bytes a.image.now a.at))
