use Rattle.std.proofs.Common.{arith, rules}
use Rattle.audit_words.proofs.Ands.{not_so}
use Rattle.audit_words.proofs.held_form.Goals as goal

pub returns-then-blanks-past : goal.returns-then-blanks-past
returns-then-blanks-past c = let p = c.past_masks-past.ensures in
    record {
      holds = λ e. record {
        helds = omega (arith, p, c.if-blanks-past.true);
        removeds = omega (arith, p, c.if-blanks-past.true);
        blanks = omega (arith, p, c.if-blanks-past.true);
        positions = c.positions_form.ensures.holds e;
        used = λ z. absurd (c.requires.2 z);
      };
      seen = λ f. c.positions_form.ensures.seen f.positions;
    }

pub returns-else-blanks-past : goal.returns-else-blanks-past
returns-else-blanks-past c = not_so (search rules) (λ f. omega (arith, f.helds, f.removeds, f.blanks, c.past_masks-past.ensures, c.if-blanks-past.either))

pub positions_form-requires : goal.positions_form-requires
positions_form-requires c = let p = c.past_masks-past.ensures in (c.requires.0, c.requires.1, omega (arith, p, c.if-blanks-past.true), omega (arith, p, c.if-blanks-past.true))
