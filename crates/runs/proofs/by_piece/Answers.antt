use Rattle.std.proofs.Common.{rules, sym, ◌∙◌}
use Rattle.runs.specs.Runs.{free_if}
use Rattle.runs.proofs.Runs.{none_free, all_free}
use Rattle.runs.proofs.by_piece.Goals as goal

pub returns-then-count-eq0 : goal.returns-then-count-eq0
returns-then-count-eq0 c = let a = c.args in
    let p = c.past in
    let e = none_free (free_if a.free) a.piece.now (sym c.count_free-count.ensures ∙ c.if-count-eq0.true) in
    (search rules, search rules, λ fs. p.ensures.2 fs ∙ rw (e, c.requires.1))

pub returns-then-count-eq64 : goal.returns-then-count-eq64
returns-then-count-eq64 c = let a = c.args in
    let p = c.past-then-count-eq64 in
    let e = all_free (free_if a.free) a.piece.now (sym c.count_free-count.ensures ∙ c.if-count-eq64.true ∙ sym c.requires.1) in
    (search rules, search rules, λ fs. p.ensures.2 fs ∙ rw (e, c.requires.1))
