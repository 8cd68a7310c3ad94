use Rattle.std.proofs.Common.{◌≡◌, ◌-◌, ltb, refl, subst, arith, rules}
use Rattle.lists.specs.Lists.{counted, count}
use Rattle.trial_keeper.specs.Notes.{number_at, numbers, newer_than}
use Rattle.trial_keeper.proofs.Places.{from, count_more}
use Rattle.trial_keeper.proofs.newer.Goals as goal

pub loop-place-init : goal.loop-place-init
unfolding count counted
loop-place-init c = (search rules, refl)

pub loop-place-preserved : goal.loop-place-preserved
loop-place-preserved c =
    let s = count_more (number_at c.args.notes.now c.args.till) c.args.version (c.loop-place.place - 1) c.loop-place.place c.number_at.result c.loop-place.n c.from-n.result (omega arith) (omega arith) c.number_at.ensures c.loop-place.invariant.1 c.from-n.ensures in
    (search rules, s)

pub returns : goal.returns
unfolding newer_than numbers
returns c = (subst (λ k. c.loop-place.n ≡ count (ltb c.args.version) (from (number_at c.args.notes.now c.args.till) k)) (omega arith) c.loop-place.invariant.1, omega arith)
