use native.Mathlib.Omega.{arith}
use borrow.Author.Rules.{rules}
use mathlib.Core.Bool.{Bool}
use mathlib.Core.Path.{◌≡◌, refl}
use mathlib.Core.List.{List}
use Prim.Native.Nat.{ℕ, ◌+◌, ◌*◌, ◌-◌, ◌≤◌}
use lib.ListN.{length, take, drop}
use borrow.Author.Count.{below_none, below_more}
use Rattle.lists.specs.Decides.{Decides}
use Rattle.lists.proofs.Checkers.{clash, is_so, is_not, refutes, proves}
use Rattle.lists.proofs.Answers.{decides_at, part_is, part_long}
use Rattle.model.specs.Measures.{till_words}
use Rattle.model.specs.State.{Storage}
use Rattle.laws.proofs.Measures.{sizes}
use Rattle.audit_tills.specs.Sound.{till_pointers, TillSound}
use Rattle.audit_tills.proofs.Slots.{till_fits, till_short, none_tallied, next_tallied, room_left}
use mathlib.Core.Path.{ap}
use mathlib.Core.Bool.{not}
use Rattle.audit_tills.proofs.tills_sound.Goals as goal

row : {r : Bool} (bytes : ℕ) (storage : Storage) (v b t : ℕ) (ws : List ℕ)
    → Decides r (TillSound bytes storage v b (take (t * till_words v b + till_words v b - t * till_words v b) (drop (t * till_words v b) ws)))
    → Decides r (TillSound bytes storage v b (take (till_words v b) (drop (t * till_words v b) ws)))
row bytes storage v b t ws h = decides_at (TillSound bytes storage v b) (part_is ws (t * till_words v b) (till_words v b)) h

pub overflow_mul-width : goal.overflow_mul-width
overflow_mul-width c = omega (arith, (sizes 0 c.args.versions c.args.blocks (omega arith) c.requires.2 c.requires.3).0)

pub overflow_add-width-2 : goal.overflow_add-width-2
overflow_add-width-2 c = omega (arith, (sizes 0 c.args.versions c.args.blocks (omega arith) c.requires.2 c.requires.3).0)

pub loop-t-init : goal.loop-t-init
loop-t-init c = (below_none _, refl, none_tallied (till_pointers c.args.m.bytes c.args.blocks) (till_words c.args.versions c.args.blocks) c.args.tills.now _)

pub overflow_mul-at : goal.overflow_mul-at
overflow_mul-at c =
    let here : c.loop-t.t * (4 + c.args.versions * (3 + c.args.blocks)) + (4 + c.args.versions * (3 + c.args.blocks)) ≤ length c.args.tills.now = (let f = till_fits c.loop-t.t c.args.count (c.args.versions * (3 + c.args.blocks)) (search rules) in omega (arith, f, c.requires.4)) in
    omega (arith, here)

pub overflow_add-end : goal.overflow_add-end
overflow_add-end c =
    let here : c.loop-t.t * (4 + c.args.versions * (3 + c.args.blocks)) + (4 + c.args.versions * (3 + c.args.blocks)) ≤ length c.args.tills.now = (let f = till_fits c.loop-t.t c.args.count (c.args.versions * (3 + c.args.blocks)) (search rules) in omega (arith, f, c.requires.4)) in
    omega (arith, here)

pub offset_bounds-tills-at : goal.offset_bounds-tills-at
offset_bounds-tills-at c =
    let here : c.loop-t.t * (4 + c.args.versions * (3 + c.args.blocks)) + (4 + c.args.versions * (3 + c.args.blocks)) ≤ length c.args.tills.now = (let f = till_fits c.loop-t.t c.args.count (c.args.versions * (3 + c.args.blocks)) (search rules) in omega (arith, f, c.requires.4)) in
    omega (arith, here)

pub slice_bounds-till_sound-end : goal.slice_bounds-till_sound-end
slice_bounds-till_sound-end c =
    let here : c.loop-t.t * (4 + c.args.versions * (3 + c.args.blocks)) + (4 + c.args.versions * (3 + c.args.blocks)) ≤ length c.args.tills.now = (let f = till_fits c.loop-t.t c.args.count (c.args.versions * (3 + c.args.blocks)) (search rules) in omega (arith, f, c.requires.4)) in
    omega (arith, here)

pub till_sound-requires : goal.till_sound-requires
till_sound-requires c =
    let here : c.loop-t.t * (4 + c.args.versions * (3 + c.args.blocks)) + (4 + c.args.versions * (3 + c.args.blocks)) ≤ length c.args.tills.now = (let f = till_fits c.loop-t.t c.args.count (c.args.versions * (3 + c.args.blocks)) (search rules) in omega (arith, f, c.requires.4)) in
    let a = c.args in
    let l = c.loop-t in
    let w = till_words a.versions a.blocks in
    let n = part_long a.tills.now (l.t * w) w (here) in
    (search rules, search rules, search rules, n, λ k. rw n (room_left (till_pointers a.m.bytes a.blocks) w (till_short a.m.bytes a.blocks) l.t w a.tills.now _ _ l.invariant.2 (λ j. omega (arith, here, c.requires.5 j)) k))

pub shape_of-counts-then-not-till_sound : goal.shape_of-counts-then-not-till_sound
shape_of-counts-then-not-till_sound c = omega (arith, c.till_sound.auto, c.loop-t.invariant.1)

pub returns-then-not-till_sound : goal.returns-then-not-till_sound
returns-then-not-till_sound c = (is_not (λ e. refutes (row _ _ c.args.versions c.args.blocks c.loop-t.t c.args.tills.now c.till_sound.ensures.0) (ap not c.if-not-till_sound.true) (e c.loop-t.t (search rules))), λ e. absurd (clash refl e))

pub loop-t-preserved : goal.loop-t-preserved
loop-t-preserved c = let l = c.loop-t in
    let a = c.args in
    let e = c.till_sound.ensures in
    let w = till_words a.versions a.blocks in (
      below_more _ _ l.invariant.0 (proves (row _ _ a.versions a.blocks l.t a.tills.now e.0) (ap not c.if-not-till_sound.false)),
      omega (arith, c.till_sound.auto, l.invariant.1),
      next_tallied (till_pointers a.m.bytes a.blocks) w l.t a.tills.now _ _ _ l.invariant.2 (rw (part_is a.tills.now (l.t * w) w) at (e.1 c.if-not-till_sound.false)),
    )

pub shape_of-counts : goal.shape_of-counts
shape_of-counts c = c.loop-t.invariant.1

pub returns : goal.returns
returns c = let l = c.loop-t in
    let a = c.args in
    let n : l.t ≡ a.count = omega arith in
    (is_so (λ k h. l.invariant.0 k (omega arith)), λ e. rw n at l.invariant.2)
