use mathlib.Core.Path.{◌∙◌, ap}
use mathlib.Core.List.{List}
use Prim.Native.Nat.{ℕ}
use Rattle.lists.proofs.Answers.{part_is}
use Rattle.audit_pointers.proofs.Slots.{words_are}
use Rattle.bill_sums.specs.Marks.{mark_words}
use Rattle.bill_sums.proofs.mark_slot.Goals as goal

pub returns : goal.returns
returns c = let a = c.args in
    c.mark_words.ensures
    ∙ ap (λ (ws : List ℕ). mark_words a.bit ws a.marks.now) (part_is a.slot.now 3 c.pointer_count-end.result ∙ words_are a.bytes a.slot.now _ c.pointer_count-end.ensures.0)
