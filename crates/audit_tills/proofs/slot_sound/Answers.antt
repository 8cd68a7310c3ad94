use native.Mathlib.Omega.{arith}
use mathlib.Core.Bool.{Bool}
use mathlib.Core.Path.{refl, sym, ◌∙◌}
use mathlib.Core.List.{List}
use Prim.Native.Nat.{ℕ, ◌+◌, ◌-◌, ◌≤◌}
use lib.ListN.{length, take, drop}
use Rattle.lists.specs.Decides.{Decides}
use Rattle.lists.proofs.Checkers.{clash, is_not, refutes, proves}
use Rattle.lists.proofs.Answers.{decides_at}
use Rattle.audit_words.specs.Words.{SlotFrame}
use Rattle.audit_padding.proofs.Blocks.{first_slot, slot_fits}
use Rattle.audit_tills.proofs.Slots.{storage_records, form_frame, frame_form}
use mathlib.Core.Path.{ap}
use mathlib.Core.Bool.{not}
use Rattle.audit_tills.proofs.slot_sound.Goals as goal

frame : {r : Bool} (bytes b : ℕ) (ws : List ℕ) → Decides r (SlotFrame bytes b (take (3 + b - 0) (drop 0 ws))) → Decides r (SlotFrame bytes b (take (3 + b) ws))
frame bytes b ws t = decides_at (SlotFrame bytes b) (first_slot b ws) t

pub slice_bounds-slot_frame-end : goal.slice_bounds-slot_frame-end
slice_bounds-slot_frame-end c =
    let here : 3 + c.args.blocks ≤ length c.args.slots.now = (slot_fits c.args.blocks c.args.count _ c.requires.1 c.requires.4) in
    omega (arith, here)

pub returns-then-not-slot_frame : goal.returns-then-not-slot_frame
returns-then-not-slot_frame c = (is_not (λ s. refutes (frame _ c.args.blocks c.args.slots.now c.slot_frame.ensures) (ap not c.if-not-slot_frame.true) (form_frame s.form)), λ e. absurd (clash refl e))

pub returns-then-not-slot_pointers_sound : goal.returns-then-not-slot_pointers_sound
returns-then-not-slot_pointers_sound c = (is_not (λ s. refutes (c.slot_pointers_sound.ensures.0 _ (storage_records _ _ _)) (ap not c.if-not-slot_pointers_sound.true) (record { canonical = s.form.pointers; resolves = s.resolves })), λ e. absurd (clash refl e))

pub returns : goal.returns
returns c = let a = c.args in
    let f = proves (frame _ a.blocks a.slots.now c.slot_frame.ensures) (ap not c.if-not-slot_frame.false) in
    let g = proves (c.slot_pointers_sound.ensures.0 _ (storage_records _ a.pool.now a.records.now)) (ap not c.if-not-slot_pointers_sound.false) in (
      record {
        holds = λ e. record { form = frame_form f g.canonical; resolves = g.resolves; ends = sym c.padding_zero.ensures ∙ e };
        seen = λ s. c.padding_zero.ensures ∙ s.ends;
      },
      λ e. c.slot_pointers_sound.ensures.1 c.if-not-slot_pointers_sound.false,
    )
