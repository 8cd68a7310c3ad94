use native.Mathlib.Omega.{arith}
use mathlib.Core.Path.{ap, ◌∙◌}
use mathlib.Core.List.{List}
use Prim.Native.Nat.{ℕ}
use lib.ListN.{get_or, length-drop}
use Rattle.lists.proofs.Slices.{tail_all}
use Rattle.audit_tills.specs.Sound.{slots_pointers}
use Rattle.bill_sums.specs.Marks.{mark_words}
use borrow.Author.Rules.{rules}
use Rattle.bill_sums.proofs.mark_till.Goals as goal

pub mark_slots-requires : goal.mark_slots-requires
mark_slots-requires c = (search rules, search rules, search rules, search rules, rw (tail_all c.args.till.now 4, length-drop 4 c.args.till.now) (omega (arith, c.requires.4)), search rules, search rules)

pub returns : goal.returns
returns c = let a = c.args in
    c.mark_slots.ensures ∙ ap (λ (ws : List ℕ). mark_words a.bit (slots_pointers a.bytes a.blocks (get_or a.till.now 1 0) ws) a.marks.now) (tail_all a.till.now 4)
