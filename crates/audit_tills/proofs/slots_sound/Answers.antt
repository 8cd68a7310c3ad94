use native.Mathlib.Omega.{arith}
use borrow.Author.Rules.{rules}
use mathlib.Core.Bool.{Bool}
use mathlib.Core.Path.{◌≡◌, refl}
use mathlib.Core.List.{List}
use Prim.Native.Nat.{ℕ, ◌+◌, ◌*◌, ◌-◌, ◌≤◌}
use lib.ListN.{length, take, drop, length-drop}
use borrow.Author.Count.{below_none, below_more}
use Rattle.lists.specs.Decides.{Decides}
use Rattle.lists.proofs.Checkers.{clash, is_so, is_not, refutes, proves}
use Rattle.lists.proofs.Answers.{decides_at}
use Rattle.lists.proofs.Slices.{tail_all}
use Rattle.model.specs.State.{Storage}
use Rattle.audit_pointers.proofs.Slots.{slot_inside}
use Rattle.audit_tills.specs.Sound.{pointer_words, SlotSound}
use Rattle.audit_tills.proofs.Slots.{rest_fits, slot_short, none_tallied, next_tallied, room_left}
use mathlib.Core.Path.{ap}
use mathlib.Core.Bool.{not}
use Rattle.audit_tills.proofs.slots_sound.Goals as goal

rest : {r : Bool} (bytes : ℕ) (storage : Storage) (b n at : ℕ) (ws : List ℕ) → Decides r (SlotSound bytes storage b n (take (length ws - at) (drop at ws))) → Decides r (SlotSound bytes storage b n (drop at ws))
rest bytes storage b n at ws t = decides_at (SlotSound bytes storage b n) (tail_all ws at) t

rest-long : (i n b : ℕ) (ws : List ℕ) → i ≤ n → n * (3 + b) ≤ length ws → (n - i) * (3 + b) ≤ length (take (length ws - i * (3 + b)) (drop (i * (3 + b)) ws))
rest-long i n b ws h g = rw (tail_all ws (i * (3 + b)), length-drop (i * (3 + b)) ws) (rest_fits i n b (length ws) h g)

pub loop-i-init : goal.loop-i-init
loop-i-init c = (below_none _, refl, none_tallied (pointer_words c.args.m.bytes) (3 + c.args.blocks) c.args.slots.now _)

pub overflow_mul-at : goal.overflow_mul-at
overflow_mul-at c =
    let here : c.loop-i.i * (3 + c.args.blocks) + (3 + c.args.blocks) ≤ length c.args.slots.now = (slot_inside c.loop-i.i c.args.count c.args.blocks _ (search rules) c.requires.3) in
    omega (arith, here)

pub offset_bounds-slots-at : goal.offset_bounds-slots-at
offset_bounds-slots-at c =
    let here : c.loop-i.i * (3 + c.args.blocks) + (3 + c.args.blocks) ≤ length c.args.slots.now = (slot_inside c.loop-i.i c.args.count c.args.blocks _ (search rules) c.requires.3) in
    omega (arith, here)

pub slice_bounds-slot_sound-count : goal.slice_bounds-slot_sound-count
slice_bounds-slot_sound-count c =
    let here : c.loop-i.i * (3 + c.args.blocks) + (3 + c.args.blocks) ≤ length c.args.slots.now = (slot_inside c.loop-i.i c.args.count c.args.blocks _ (search rules) c.requires.3) in
    omega (arith, here)

pub slice_bounds-slot_sound-start : goal.slice_bounds-slot_sound-start
slice_bounds-slot_sound-start c =
    let here : c.loop-i.i * (3 + c.args.blocks) + (3 + c.args.blocks) ≤ length c.args.slots.now = (slot_inside c.loop-i.i c.args.count c.args.blocks _ (search rules) c.requires.3) in
    omega (arith, here)

pub slice_bounds-slot_sound-end : goal.slice_bounds-slot_sound-end
slice_bounds-slot_sound-end c =
    let here : c.loop-i.i * (3 + c.args.blocks) + (3 + c.args.blocks) ≤ length c.args.slots.now = (slot_inside c.loop-i.i c.args.count c.args.blocks _ (search rules) c.requires.3) in
    omega (arith, here)

pub slot_sound-requires : goal.slot_sound-requires
slot_sound-requires c = let a = c.args in
    let l = c.loop-i in
    let p = c.requires in
    let m : l.i * (3 + a.blocks) + (3 + a.blocks) ≤ a.count * (3 + a.blocks) = slot_inside l.i a.count a.blocks _ (search rules) (omega arith) in
    (search rules, search rules, search rules, search rules, rest-long l.i a.count a.blocks a.slots.now (search rules) p.3, room_left (pointer_words a.m.bytes) (3 + a.blocks) (slot_short a.m.bytes) l.i a.blocks a.slots.now _ _ l.invariant.2 (λ k. omega (arith, m, p.4 k)))

pub shape_of-counts-then-not-slot_sound : goal.shape_of-counts-then-not-slot_sound
shape_of-counts-then-not-slot_sound c = omega (arith, c.slot_sound.auto, c.loop-i.invariant.1)

pub returns-then-not-slot_sound : goal.returns-then-not-slot_sound
returns-then-not-slot_sound c = (is_not (λ e. refutes (rest _ _ c.args.blocks _ _ c.args.slots.now c.slot_sound.ensures.0) (ap not c.if-not-slot_sound.true) (e c.loop-i.i (search rules))), λ e. absurd (clash refl e))

pub loop-i-preserved : goal.loop-i-preserved
loop-i-preserved c = let l = c.loop-i in
    let a = c.args in
    let e = c.slot_sound.ensures in (
      below_more _ _ l.invariant.0 (proves (rest _ _ a.blocks _ _ a.slots.now e.0) (ap not c.if-not-slot_sound.false)),
      omega (arith, c.slot_sound.auto, l.invariant.1),
      next_tallied (pointer_words a.m.bytes) (3 + a.blocks) l.i a.slots.now _ _ _ l.invariant.2 (rw (tail_all a.slots.now (l.i * (3 + a.blocks))) at (e.1 c.if-not-slot_sound.false)),
    )

pub shape_of-counts : goal.shape_of-counts
shape_of-counts c = c.loop-i.invariant.1

pub returns : goal.returns
returns c = let l = c.loop-i in
    let n : l.i ≡ c.args.count = omega arith in
    (is_so (λ k h. l.invariant.0 k (omega arith)), λ e. rw n at l.invariant.2)
