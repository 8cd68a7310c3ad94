use native.Mathlib.Omega.{arith}
use borrow.Author.Rules.{rules}
use Prim.Native.Nat.{◌+◌, ◌*◌, ◌≤◌}
use mathlib.Core.Path.{refl}
use lib.ListN.{length}
use Rattle.audit_pointers.proofs.Slots.{slot_inside}
use Rattle.audit_tills.proofs.Numbers.{left_all, left_none, left_low, left_high, left_next}
use Rattle.audit_tills.proofs.numbers_rise.Goals.{then-number-least-via-then-number-least, then-number-least-via-else-number-least+then-last-number}
use Rattle.audit_tills.proofs.numbers_rise.Goals as goal

pub loop-i-init : goal.loop-i-init
loop-i-init c = left_all c.args.blocks c.args.last c.args.count c.args.slots.now

pub overflow_mul-number : goal.overflow_mul-number
overflow_mul-number c =
    let here : c.loop-i.i * (3 + c.args.blocks) + (3 + c.args.blocks) ≤ length c.args.slots.now = (slot_inside c.loop-i.i c.args.count c.args.blocks _ (search rules) c.requires.3) in
    omega (arith, here)

pub offset_bounds-slots-i : goal.offset_bounds-slots-i
offset_bounds-slots-i c =
    let here : c.loop-i.i * (3 + c.args.blocks) + (3 + c.args.blocks) ≤ length c.args.slots.now = (slot_inside c.loop-i.i c.args.count c.args.blocks _ (search rules) c.requires.3) in
    omega (arith, here)

pub bounds-slots-i : goal.bounds-slots-i
bounds-slots-i c =
    let here : c.loop-i.i * (3 + c.args.blocks) + (3 + c.args.blocks) ≤ length c.args.slots.now = (slot_inside c.loop-i.i c.args.count c.args.blocks _ (search rules) c.requires.3) in
    omega (arith, here)

pub returns-then-number-least : goal.returns-then-number-least
returns-then-number-least c = elim c.then-number-least.branch [
  | then-number-least-via-then-number-least w ↦ left_low c.args.blocks c.args.last c.args.count c.args.slots.now c.loop-i.invariant (search rules) w.if-number-least.true
  | then-number-least-via-else-number-least+then-last-number w ↦ left_high c.args.blocks c.args.last c.args.count c.args.slots.now c.loop-i.invariant (search rules) (omega (arith, w.if-number-least.false)) w.if-last-number.true
]

pub overflow_add-least : goal.overflow_add-least
overflow_add-least c = omega (arith, c.if-last-number.false, c.requires.2)

pub loop-i-preserved : goal.loop-i-preserved
loop-i-preserved c = left_next c.args.blocks c.args.last c.args.count c.args.slots.now c.loop-i.invariant (search rules) _ (omega (arith, c.if-number-least.false)) (omega (arith, c.if-last-number.false)) refl

pub returns : goal.returns
returns c = left_none c.args.blocks c.args.last c.args.count c.args.slots.now c.loop-i.invariant (search rules)
