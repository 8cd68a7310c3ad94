use native.Mathlib.Omega.{arith}
use mathlib.Core.Bool.{Bool}
use mathlib.Core.Path.{◌≡◌, refl, sym, ap, ◌∙◌}
use mathlib.Core.List.{List}
use Prim.Native.Nat.{ℕ, ◌+◌, ◌*◌, ◌-◌, ◌≤◌, ◌<◌}
use lib.ListN.{length, get_or, take, drop}
use Rattle.lists.specs.Lists.{rises, all_zero}
use Rattle.lists.specs.Decides.{Decides}
use Rattle.lists.proofs.Checkers.{clash, is_not, refutes, proves}
use Rattle.lists.proofs.Answers.{decides_at, answer_no, answer_yes}
use Rattle.lists.proofs.Slices.{tail_all}
use Rattle.model.specs.State.{Storage}
use Rattle.audit_tills.specs.Sound.{numbers_in, SlotSound}
use Rattle.audit_tills.proofs.Slots.{used_fit, slots_fit}
use borrow.Author.Rules.{rules}
use mathlib.Core.Bool.{not}
use Rattle.audit_tills.proofs.till_sound.Goals.{then-versions-count-via-then-versions-count, then-versions-count-via-else-versions-count+then-last-gt65535, then-versions-count-via-else-versions-count+else-last-gt65535+then-till, then-versions-count-via-else-versions-count+else-last-gt65535+else-till+then-till-ne0}
use Rattle.audit_tills.proofs.till_sound.Goals as goal

slots : {r : Bool} (bytes : ℕ) (storage : Storage) (b n : ℕ) (row : List ℕ) → Decides r ((i : ℕ) → i < n → SlotSound bytes storage b (n - i) (drop (i * (3 + b)) (take (length row - 4) (drop 4 row))))
    → Decides r ((i : ℕ) → i < n → SlotSound bytes storage b (n - i) (drop (i * (3 + b)) (drop 4 row)))
slots bytes storage b n row t = decides_at (λ ws. (i : ℕ) → i < n → SlotSound bytes storage b (n - i) (drop (i * (3 + b)) ws)) (tail_all row 4) t

rise : {r : Bool} (b n last : ℕ) (row : List ℕ) → r ≡ rises 0 last (numbers_in b n (take (length row - 4) (drop 4 row))) → r ≡ rises 0 last (numbers_in b n (drop 4 row))
rise b n last row e = e ∙ ap (λ (ws : List ℕ). rises 0 last (numbers_in b n ws)) (tail_all row 4)

pub overflow_cast-count : goal.overflow_cast-count
overflow_cast-count c = omega (arith, c.type_inv.till 1)

pub returns-then-versions-count : goal.returns-then-versions-count
returns-then-versions-count c = (
  elim c.then-versions-count.branch [
    | then-versions-count-via-then-versions-count w ↦ is_not (λ t. omega (arith, w.if-versions-count.true, t.few))
    | then-versions-count-via-else-versions-count+then-last-gt65535 w ↦ is_not (λ t. omega (arith, w.if-last-gt65535.true, t.most))
    | then-versions-count-via-else-versions-count+else-last-gt65535+then-till w ↦ is_not (λ t. omega (arith, w.if-till.true, t.rights))
    | then-versions-count-via-else-versions-count+else-last-gt65535+else-till+then-till-ne0 w ↦ is_not (λ t. omega (arith, w.if-till-ne0.true, t.zero))
  ],
  λ e. absurd (clash refl e),
)

pub numbers_rise-requires : goal.numbers_rise-requires
numbers_rise-requires c = (search rules, search rules, search rules, slots_fit c.args.versions c.args.blocks _ c.args.till.now (search rules) c.requires.3)

pub returns-then-not-numbers_rise : goal.returns-then-not-numbers_rise
returns-then-not-numbers_rise c = (is_not (λ t. answer_no (rise c.args.blocks _ _ c.args.till.now c.numbers_rise.ensures) (ap not c.if-not-numbers_rise.true) t.rising), λ e. absurd (clash refl e))

pub slots_sound-requires : goal.slots_sound-requires
slots_sound-requires c =
    let used : get_or c.args.till.now 1 0 * (3 + c.args.blocks) ≤ c.args.versions * (3 + c.args.blocks) = (used_fit c.args.versions c.args.blocks _ c.if-versions-count.false) in
    let a = c.args in
    let p = c.requires in
    (search rules, search rules, search rules, slots_fit a.versions a.blocks _ a.till.now (search rules) p.3, λ k. omega (arith, used, p.3, p.4 k))

pub returns-then-not-slots_sound : goal.returns-then-not-slots_sound
returns-then-not-slots_sound c = (is_not (λ t. refutes (slots _ _ c.args.blocks _ c.args.till.now c.slots_sound.ensures.0) (ap not c.if-not-slots_sound.true) t.slots), λ e. absurd (clash refl e))

pub overflow_mul-end : goal.overflow_mul-end
overflow_mul-end c =
    let used : get_or c.args.till.now 1 0 * (3 + c.args.blocks) ≤ c.args.versions * (3 + c.args.blocks) = (used_fit c.args.versions c.args.blocks _ c.if-versions-count.false) in
    omega (arith, used)

pub overflow_add-end-2 : goal.overflow_add-end-2
overflow_add-end-2 c =
    let used : get_or c.args.till.now 1 0 * (3 + c.args.blocks) ≤ c.args.versions * (3 + c.args.blocks) = (used_fit c.args.versions c.args.blocks _ c.if-versions-count.false) in
    omega (arith, used)

pub offset_bounds-till-end : goal.offset_bounds-till-end
offset_bounds-till-end c =
    let used : get_or c.args.till.now 1 0 * (3 + c.args.blocks) ≤ c.args.versions * (3 + c.args.blocks) = (used_fit c.args.versions c.args.blocks _ c.if-versions-count.false) in
    omega (arith, used)

pub slice_bounds-zeros-count : goal.slice_bounds-zeros-count
slice_bounds-zeros-count c =
    let used : get_or c.args.till.now 1 0 * (3 + c.args.blocks) ≤ c.args.versions * (3 + c.args.blocks) = (used_fit c.args.versions c.args.blocks _ c.if-versions-count.false) in
    omega (arith, used)

pub slice_bounds-zeros-start : goal.slice_bounds-zeros-start
slice_bounds-zeros-start c =
    let used : get_or c.args.till.now 1 0 * (3 + c.args.blocks) ≤ c.args.versions * (3 + c.args.blocks) = (used_fit c.args.versions c.args.blocks _ c.if-versions-count.false) in
    omega (arith, used)

pub returns : goal.returns
returns c = let a = c.args in
    let row = a.till.now in
    let z = c.zeros.ensures ∙ ap all_zero (tail_all row (4 + get_or row 1 0 * (3 + a.blocks))) in
    let e = c.slots_sound.ensures in
    let up = answer_yes (rise a.blocks _ _ row c.numbers_rise.ensures) (ap not c.if-not-numbers_rise.false) in (
      record {
        holds = λ t. record { few = search rules; most = search rules; rising = up; rights = omega (arith, c.if-till.false); zero = omega (arith, c.if-till-ne0.false); slots = proves (slots _ _ a.blocks _ row e.0) (ap not c.if-not-slots_sound.false); rest = sym z ∙ t };
        seen = λ t. z ∙ t.rest;
      },
      λ t. rw (tail_all row 4) at (e.1 c.if-not-slots_sound.false),
    )
