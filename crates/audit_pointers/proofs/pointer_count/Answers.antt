use Rattle.std.proofs.Common.{arith, ◌≡◌, min}
use Rattle.audit_pointers.proofs.Slots.{pointers_count}
use Rattle.audit_pointers.proofs.pointer_count.Goals as goal

pub returns : goal.returns
returns c =
    let least : c.min.result ≡ min c.parts_for.result c.args.blocks = c.min.ensures in
    (omega (arith, least, c.parts_for.ensures, pointers_count c.args.bytes c.args.slot.now c.args.blocks c.requires.1), omega (arith, least))
