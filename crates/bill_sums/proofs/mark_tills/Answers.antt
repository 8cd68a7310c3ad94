use native.Mathlib.Omega.{arith}
use borrow.Author.Rules.{rules}
use mathlib.Core.Path.{◌≡◌, refl, ap, ◌∙◌}
use mathlib.Core.List.{List}
use Prim.Native.Nat.{ℕ, ◌+◌, ◌*◌, ◌%◌, ◌^◌, ◌≤◌}
use lib.ListN.{length}
use Rattle.lists.proofs.Answers.{part_is}
use Rattle.lists.proofs.Masks.{one_shl}
use Rattle.audit_tills.specs.Sound.{till_pointers}
use Rattle.bill_sums.specs.Marks.{mark_words, mark_tills}
use Rattle.bill_sums.proofs.Passes.{tills_none, tills_next, till_inside, till_few, till_room, bit_small}
use Rattle.bill_sums.proofs.mark_tills.Goals as goal

pub loop-t-init : goal.loop-t-init
loop-t-init c = (refl, tills_none _ _ _ _ _)

pub overflow_mul-at : goal.overflow_mul-at
overflow_mul-at c =
    let here : c.loop-t.t * c.args.width + c.args.width ≤ length c.args.tills.now = (till_inside _ _ _ _ c.requires.4 c.loop-t.t (search rules)) in
    omega (arith, here)

pub overflow_add-at : goal.overflow_add-at
overflow_add-at c =
    let here : c.loop-t.t * c.args.width + c.args.width ≤ length c.args.tills.now = (till_inside _ _ _ _ c.requires.4 c.loop-t.t (search rules)) in
    omega (arith, here)

pub offset_bounds-tills-at : goal.offset_bounds-tills-at
offset_bounds-tills-at c =
    let here : c.loop-t.t * c.args.width + c.args.width ≤ length c.args.tills.now = (till_inside _ _ _ _ c.requires.4 c.loop-t.t (search rules)) in
    omega (arith, here)

pub slice_bounds-mark_till-count : goal.slice_bounds-mark_till-count
slice_bounds-mark_till-count c =
    let here : c.loop-t.t * c.args.width + c.args.width ≤ length c.args.tills.now = (till_inside _ _ _ _ c.requires.4 c.loop-t.t (search rules)) in
    omega (arith, here)

pub slice_bounds-mark_till-start : goal.slice_bounds-mark_till-start
slice_bounds-mark_till-start c =
    let here : c.loop-t.t * c.args.width + c.args.width ≤ length c.args.tills.now = (till_inside _ _ _ _ c.requires.4 c.loop-t.t (search rules)) in
    omega (arith, here)

pub slice_bounds-mark_till-end : goal.slice_bounds-mark_till-end
slice_bounds-mark_till-end c =
    let here : c.loop-t.t * c.args.width + c.args.width ≤ length c.args.tills.now = (till_inside _ _ _ _ c.requires.4 c.loop-t.t (search rules)) in
    omega (arith, here)

pub mark_till-requires : goal.mark_till-requires
mark_till-requires c = let l = c.loop-t in (
  c.requires.0,
  c.requires.1,
  c.requires.2,
  till_few _ _ _ _ c.requires.4 l.t (search rules),
  till_room _ _ _ _ c.requires.4 l.t (search rules),
  l.invariant.0 ∙ c.requires.5,
  bit_small l.t (search rules),
)

pub loop-t-preserved : goal.loop-t-preserved
loop-t-preserved c = let a = c.args in
    let l = c.loop-t in (
      c.mark_till.auto.marks ∙ l.invariant.0,
      tills_next a.bytes a.blocks a.width a.tills.now l.t l.marks a.marks.now _ _ (one_shl l.t 16 (search rules)) l.invariant.1
          (c.mark_till.ensures ∙ ap (λ (ws : List ℕ). mark_words (1 * 2 ^ l.t % 2 ^ 16) (till_pointers a.bytes a.blocks ws) l.marks) (part_is a.tills.now (l.t * a.width) a.width)),
    )

pub shape_of-marks : goal.shape_of-marks
shape_of-marks c = c.loop-t.invariant.0

pub returns : goal.returns
returns c = let a = c.args in
    c.loop-t.invariant.1 ∙ ap (λ (n : ℕ). mark_tills a.bytes a.blocks a.width a.tills.now n a.marks.now) (let e : c.loop-t.t ≡ a.count = omega arith in e)
