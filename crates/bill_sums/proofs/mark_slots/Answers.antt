use native.Mathlib.Omega.{arith}
use borrow.Author.Rules.{rules}
use mathlib.Core.Path.{◌≡◌, refl, ap, ◌∙◌}
use mathlib.Core.List.{List}
use Prim.Native.Nat.{ℕ, ◌+◌, ◌*◌, ◌≤◌}
use lib.ListN.{length}
use Rattle.lists.proofs.Answers.{part_is}
use Rattle.audit_pointers.proofs.Slots.{slot_inside}
use Rattle.audit_tills.specs.Sound.{pointer_words, slots_pointers}
use Rattle.bill_sums.specs.Marks.{mark_words}
use Rattle.bill_sums.proofs.Passes.{rows_none, rows_next, row_long}
use Rattle.bill_sums.proofs.mark_slots.Goals as goal

pub loop-i-init : goal.loop-i-init
loop-i-init c = (refl, rows_none _ (pointer_words _) _ _ _)

pub overflow_mul-at : goal.overflow_mul-at
overflow_mul-at c =
    let here : c.loop-i.i * (3 + c.args.blocks) + (3 + c.args.blocks) ≤ length c.args.slots.now = (slot_inside c.loop-i.i c.args.count c.args.blocks _ (search rules) (search rules)) in
    omega (arith, here)

pub overflow_add-at : goal.overflow_add-at
overflow_add-at c =
    let here : c.loop-i.i * (3 + c.args.blocks) + (3 + c.args.blocks) ≤ length c.args.slots.now = (slot_inside c.loop-i.i c.args.count c.args.blocks _ (search rules) (search rules)) in
    omega (arith, here)

pub offset_bounds-slots-at : goal.offset_bounds-slots-at
offset_bounds-slots-at c =
    let here : c.loop-i.i * (3 + c.args.blocks) + (3 + c.args.blocks) ≤ length c.args.slots.now = (slot_inside c.loop-i.i c.args.count c.args.blocks _ (search rules) (search rules)) in
    omega (arith, here)

pub slice_bounds-mark_slot-count : goal.slice_bounds-mark_slot-count
slice_bounds-mark_slot-count c =
    let here : c.loop-i.i * (3 + c.args.blocks) + (3 + c.args.blocks) ≤ length c.args.slots.now = (slot_inside c.loop-i.i c.args.count c.args.blocks _ (search rules) (search rules)) in
    omega (arith, here)

pub slice_bounds-mark_slot-start : goal.slice_bounds-mark_slot-start
slice_bounds-mark_slot-start c =
    let here : c.loop-i.i * (3 + c.args.blocks) + (3 + c.args.blocks) ≤ length c.args.slots.now = (slot_inside c.loop-i.i c.args.count c.args.blocks _ (search rules) (search rules)) in
    omega (arith, here)

pub slice_bounds-mark_slot-end : goal.slice_bounds-mark_slot-end
slice_bounds-mark_slot-end c =
    let here : c.loop-i.i * (3 + c.args.blocks) + (3 + c.args.blocks) ≤ length c.args.slots.now = (slot_inside c.loop-i.i c.args.count c.args.blocks _ (search rules) (search rules)) in
    omega (arith, here)

pub mark_slot-requires : goal.mark_slot-requires
mark_slot-requires c =
    let here : c.loop-i.i * (3 + c.args.blocks) + (3 + c.args.blocks) ≤ length c.args.slots.now = (slot_inside c.loop-i.i c.args.count c.args.blocks _ (search rules) (search rules)) in
    (search rules, search rules, search rules, row_long _ _ _ (here), c.loop-i.invariant.0 ∙ c.requires.5, search rules)

pub loop-i-preserved : goal.loop-i-preserved
loop-i-preserved c = let a = c.args in
    let l = c.loop-i in (
      c.mark_slot.auto.marks ∙ l.invariant.0,
      rows_next a.bit (pointer_words a.bytes) (3 + a.blocks) l.i a.slots.now _ _ _ l.invariant.1
          (c.mark_slot.ensures ∙ ap (λ (ws : List ℕ). mark_words a.bit (pointer_words a.bytes ws) l.marks) (part_is a.slots.now (l.i * (3 + a.blocks)) (3 + a.blocks))),
    )

pub shape_of-marks : goal.shape_of-marks
shape_of-marks c = c.loop-i.invariant.0

pub returns : goal.returns
returns c = c.loop-i.invariant.1 ∙ (let a = c.args in ap (λ (n : ℕ). mark_words a.bit (slots_pointers a.bytes a.blocks n a.slots.now) a.marks.now) (let e : c.loop-i.i ≡ c.args.count = omega arith in e))
