use mathlib.Core.Path.{◌≡◌, ap, sym, ◌∙◌}
use Prim.Native.Nat.{ℕ, ◌*◌}
use native.Mathlib.Omega.{arith}
use Rattle.lists.proofs.Checkers.{denies}
use Rattle.sweep_laws.specs.Ways.{held_at}
use Rattle.sweep_laws.proofs.Sweeps.{recoded, removed_none, removed_all, removed_few, removed_many}
use Rattle.sweep_record.proofs.remove_from.Goals as goal

pub returns-then-r-eq0 : goal.returns-then-r-eq0
returns-then-r-eq0 c = recoded (removed_none _ _ _ _ (sym c.requires.r_value.0 ∙ c.if-r-eq0.true)) c.requires.stored_marked.encodes_marked

pub returns-then-r-s : goal.returns-then-r-s
returns-then-r-s c = let v = c.requires.r_value in
    recoded (removed_all _ _ _ _ (λ e. c.if-r-eq0.false (v.0 ∙ e)) (sym v.0 ∙ c.if-r-s.true ∙ v.1)) c.free_record.ensures

pub returns-then-under_percent : goal.returns-then-under_percent
returns-then-under_percent c = let v = c.requires.r_value in
    let p : c.args.m.percent * c.args.s ≡ c.args.m.percent * held_at c.args.m.blocks c.args.words.now c.args.number.0 = ap (λ (i : ℕ). c.args.m.percent * i) v.1 in
    recoded (removed_few _ _ _ _ (λ e. c.if-r-eq0.false (v.0 ∙ e)) (λ e. c.if-r-s.false (v.0 ∙ e ∙ sym v.1)) (omega (arith, v.0, p, c.under_percent.ensures.holds c.if-under_percent.true)))
    c.strike_record.ensures

pub returns-else-under_percent : goal.returns-else-under_percent
returns-else-under_percent c = let v = c.requires.r_value in
    let p : c.args.m.percent * c.args.s ≡ c.args.m.percent * held_at c.args.m.blocks c.args.words.now c.args.number.0 = ap (λ (i : ℕ). c.args.m.percent * i) v.1 in
    recoded (removed_many _ _ _ _ (λ e. c.if-r-eq0.false (v.0 ∙ e)) (λ e. c.if-r-s.false (v.0 ∙ e ∙ sym v.1)) (omega (arith, v.0, p, denies c.under_percent.ensures c.if-under_percent.false)))
    c.compact_record.ensures
