use native.Mathlib.Omega.{arith}
use borrow.Author.Rules.{rules}
use mathlib.Core.Path.{◌≡◌, sym, ◌∙◌}
use mathlib.Core.List.{List}
use Prim.Native.Nat.{ℕ, ◌+◌, ◌*◌, ◌-◌, ◌≤◌}
use lib.ListN.{length, get_or, take, drop}
use Rattle.model.specs.State.{null_pointer}
use Rattle.model.specs.Table.{word_to_pointer, version_in}
use Rattle.lists.proofs.Answers.{part_is, part_long}
use Rattle.audit_pointers.proofs.Slots.{slot_inside, end_stop, end_go, end_none, end_start}
use Rattle.audit_pointers.proofs.end_of.Goals as goal

slot : (bytes : ℕ) (ws : List ℕ) (i bl b w : ℕ) → word_to_pointer w ≡ get_or (version_in bytes (take (i * (3 + bl) + (3 + bl) - i * (3 + bl)) (drop (i * (3 + bl)) ws))).pointers b null_pointer
    → word_to_pointer w ≡ get_or (version_in bytes (take (3 + bl) (drop (i * (3 + bl)) ws))).pointers b null_pointer
slot bytes ws i bl b w e = rw (part_is ws (i * (3 + bl)) (3 + bl)) at e

pub loop-i-init : goal.loop-i-init
loop-i-init c = end_start c.args.bytes c.args.blocks c.args.count c.args.slots.now _

pub overflow_mul-at : goal.overflow_mul-at
overflow_mul-at c =
    let here : c.loop-i.i * (3 + c.args.blocks) + (3 + c.args.blocks) ≤ length c.args.slots.now = (slot_inside c.loop-i.i c.args.count c.args.blocks _ (search rules) c.requires.2) in
    omega (arith, here)

pub overflow_add-end-in-loop-i : goal.overflow_add-end-in-loop-i
overflow_add-end-in-loop-i c =
    let here : c.loop-i.i * (3 + c.args.blocks) + (3 + c.args.blocks) ≤ length c.args.slots.now = (slot_inside c.loop-i.i c.args.count c.args.blocks _ (search rules) c.requires.2) in
    omega (arith, here)

pub offset_bounds-slots-at : goal.offset_bounds-slots-at
offset_bounds-slots-at c =
    let here : c.loop-i.i * (3 + c.args.blocks) + (3 + c.args.blocks) ≤ length c.args.slots.now = (slot_inside c.loop-i.i c.args.count c.args.blocks _ (search rules) c.requires.2) in
    omega (arith, here)

pub slice_bounds-word_at-end : goal.slice_bounds-word_at-end
slice_bounds-word_at-end c =
    let here : c.loop-i.i * (3 + c.args.blocks) + (3 + c.args.blocks) ≤ length c.args.slots.now = (slot_inside c.loop-i.i c.args.count c.args.blocks _ (search rules) c.requires.2) in
    omega (arith, here)

pub word_at-w-requires : goal.word_at-w-requires
word_at-w-requires c =
    let here : c.loop-i.i * (3 + c.args.blocks) + (3 + c.args.blocks) ≤ length c.args.slots.now = (slot_inside c.loop-i.i c.args.count c.args.blocks _ (search rules) c.requires.2) in
    (search rules, part_long c.args.slots.now (c.loop-i.i * (3 + c.args.blocks)) (3 + c.args.blocks) (here), search rules, search rules)

pub returns-then-w-ne2 : goal.returns-then-w-ne2
returns-then-w-ne2 c = let a = c.args in
    end_stop a.bytes a.blocks a.count a.slots.now c.loop-i.i c.loop-i.b _ (search rules) (slot a.bytes a.slots.now c.loop-i.i a.blocks _ _ c.word_at-w.ensures) c.if-w-ne2.true ∙ c.loop-i.invariant

pub loop-i-preserved : goal.loop-i-preserved
loop-i-preserved c = let a = c.args in
    sym (end_go a.bytes a.blocks a.count a.slots.now c.loop-i.i c.loop-i.b _ (search rules) (slot a.bytes a.slots.now c.loop-i.i a.blocks _ _ c.word_at-w.ensures) c.if-w-ne2.false) ∙ c.loop-i.invariant

pub returns : goal.returns
returns c = let a = c.args in
    sym (end_none a.bytes a.blocks a.count c.loop-i.i _ c.loop-i.b (search rules)) ∙ c.loop-i.invariant
