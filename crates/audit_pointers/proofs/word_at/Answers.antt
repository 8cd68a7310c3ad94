use Rattle.std.proofs.Common.{rules}
use Rattle.audit_pointers.proofs.Slots.{word_beside, word_past, word_in}
use Rattle.audit_pointers.proofs.word_at.Goals.{then-blocks-at-via-then-blocks-at, then-blocks-at-via-else-blocks-at+then-slot-byte}
use Rattle.audit_pointers.proofs.word_at.Goals as goal

pub returns-then-blocks-at : goal.returns-then-blocks-at
returns-then-blocks-at c = elim c.then-blocks-at.branch [
  | then-blocks-at-via-then-blocks-at w ↦ word_beside c.args.bytes c.requires.2 c.args.blocks c.args.slot.now c.requires.1 c.args.b.0 (search rules)
  | then-blocks-at-via-else-blocks-at+then-slot-byte w ↦ word_past c.args.bytes c.requires.2 c.args.blocks c.args.slot.now c.requires.1 c.args.b.0 (search rules)
]

pub returns : goal.returns
returns c = word_in c.args.bytes c.requires.2 c.args.blocks c.args.slot.now c.requires.1 c.args.b.0 (search rules) (search rules)
