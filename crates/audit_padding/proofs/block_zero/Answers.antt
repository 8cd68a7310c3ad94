use Rattle.std.proofs.Common.{◌≡◌, Bool, true, inl, inr, sym, ap, ◌∙◌, arith, rules}
use Rattle.lists.specs.Lists.{all_zero}
use Rattle.audit_padding.proofs.Blocks.{blank_block_lem, other_block, past_block, late_block, cell_block}
use Rattle.audit_padding.proofs.block_zero.Goals as goal

both_true : {r b : Bool} → r ≡ true → b ≡ true → r ≡ b
both_true e f = e ∙ sym f

pub returns-in-3 : goal.returns-in-3
returns-in-3 c = sym (blank_block_lem _ _ c.args.w c.args.from c.in-3.is)

pub returns-then-m-from : goal.returns-then-m-from
returns-then-m-from c = let a = c.args in
    both_true (search rules) (elim c.if-m-from.either [
      | inl h ↦ past_block _ (search rules) a.pool.now a.records.now a.w _ _ a.from c.in-1.is c.cell_at-cell.ensures c.byte-at.ensures (omega (arith, h))
      | inr h ↦ late_block _ (search rules) a.pool.now a.records.now a.w _ _ a.from c.in-1.is c.cell_at-cell.ensures c.byte-at.ensures (omega (arith, h)) (omega (arith, h))
    ])

pub returns-else-m-from : goal.returns-else-m-from
returns-else-m-from c = let a = c.args in
    c.all_zero.ensures ∙ ap all_zero (cell_block _ (search rules) a.pool.now a.records.now a.w _ _ a.from c.in-1.is c.cell_at-cell.ensures c.byte-at.ensures (omega (arith, c.if-m-from.false)) (omega (arith, c.if-m-from.false)))

pub returns-in_default : goal.returns-in_default
returns-in_default c = sym (other_block _ _ c.args.w c.args.from (λ z. omega arith) (λ z. omega arith))
