use Rattle.std.proofs.Common.{◌≡◌, ℕ, ◌+◌, ◌<◌, Bool, true, false, ◌&&◌, cond, nat_eq, List, length, get_or, drop, refl, sym, ap, ◌∙◌, rules}
use Rattle.lists.specs.Lists.{every, all_zero}
use Rattle.lists.proofs.Tests.{cond_self}
use Rattle.lists.proofs.Slices.{drop_next}
use Rattle.lists.proofs.Answers.{zero_end}
use Rattle.audit_words.proofs.zeros.Goals as goal

more : (good : Bool) (ws : List ℕ) (i : ℕ) → i < length ws → cond (good && nat_eq (get_or ws i 0) 0) (all_zero (drop (i + 1) ws)) false ≡ cond good (all_zero (drop i ws)) false
unfolding all_zero every
more true ws i h = rw (drop_next ws i 0 h) refl
more false ws i h = refl

pub loop-word-preserved : goal.loop-word-preserved
loop-word-preserved c = more c.loop-word.good _ c.loop-word.word-index c.loop-word-test.true ∙ c.loop-word.invariant

pub returns : goal.returns
returns c = sym (cond_self c.loop-word.good) ∙ ap (λ (t : Bool). cond c.loop-word.good t false) (sym (zero_end _ c.loop-word.word-index (search rules))) ∙ c.loop-word.invariant
