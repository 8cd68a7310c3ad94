use Rattle.std.proofs.Common.{sym, ◌∙◌}
use Rattle.lists.proofs.Checkers.{clash, is_not, denies}
use Rattle.audit.proofs.parts_sound.Goals.{then-records_form, else-records_form}
use Rattle.audit.proofs.parts_sound.Goals as goal

pub returns-then-cells_sound : goal.returns-then-cells_sound
returns-then-cells_sound c = let t = c.counted_sound.ensures in
    elim c.if-records_form.branch [
      | then-records_form w ↦ record {
        holds = λ e. let p = t.holds e in record {
          forms = c.records_form.ensures.holds w.if-records_form.true;
          cells = w.cells_sound.ensures.holds (sym w.value-is ∙ c.if-cells_sound.true);
          tills_sound = p.0;
          counts = p.1;
        };
        seen = λ b. t.seen (b.tills_sound, b.counts);
      }
      | else-records_form w ↦ absurd (clash (w.value-is ∙ w.if-records_form.false) c.if-cells_sound.true)
    ]

pub returns-else-cells_sound : goal.returns-else-cells_sound
returns-else-cells_sound c = rw c.if-cells_sound.false (elim c.if-records_form.branch [
  | then-records_form w ↦ is_not (λ b. denies w.cells_sound.ensures (sym w.value-is ∙ c.if-cells_sound.false) b.cells)
  | else-records_form w ↦ is_not (λ b. denies c.records_form.ensures w.if-records_form.false b.forms)
])
