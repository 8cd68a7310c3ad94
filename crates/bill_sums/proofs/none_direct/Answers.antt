use Rattle.std.proofs.Common.{◌≡◌, ℕ, ◌+◌, ◌/◌, ◌<◌, Bool, true, false, not, ◌&&◌, cond, nat_eq, List, length, get_or, drop, refl, sym, ap, ◌∙◌, rules}
use Rattle.lists.specs.Lists.{every}
use Rattle.lists.proofs.Slices.{drop_next}
use Rattle.lists.proofs.Tests.{cond_self}
use Rattle.bill_sums.specs.Marks.{none_direct}
use Rattle.bill_sums.proofs.Passes.{none_end}
use Rattle.bill_sums.proofs.none_direct.Goals as goal

more : (none : Bool) (ws : List ℕ) (i : ℕ) → i < length ws → cond (none && not (nat_eq (get_or ws i 0 / 65536) 256)) (none_direct (drop (i + 1) ws)) false ≡ cond none (none_direct (drop i ws)) false
unfolding none_direct every
more true ws i h = rw (drop_next ws i 0 h) refl
more false ws i h = refl

pub loop-w-preserved : goal.loop-w-preserved
loop-w-preserved c = more c.loop-w.none _ c.loop-w.w-index c.loop-w-test.true ∙ c.loop-w.invariant

pub returns : goal.returns
returns c = sym (cond_self c.loop-w.none) ∙ ap (λ (t : Bool). cond c.loop-w.none t false) (sym (none_end _ c.loop-w.w-index (search rules))) ∙ c.loop-w.invariant
