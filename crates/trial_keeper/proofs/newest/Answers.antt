use Rattle.std.proofs.Common.{◌≡◌, ◌-◌, max, refl, subst, arith, rules}
use Rattle.lists.specs.Lists.{counted, largest}
use Rattle.trial_keeper.specs.Notes.{number_at, numbers, newest_of}
use Rattle.trial_keeper.proofs.Places.{from, largest_more}
use Rattle.trial_keeper.proofs.newest.Goals as goal

pub loop-place-init : goal.loop-place-init
unfolding largest counted
loop-place-init c = refl

pub loop-place-preserved : goal.loop-place-preserved
loop-place-preserved c =
    let m : c.max-most.result ≡ max c.number_at.result c.loop-place.most = search rules in
    largest_more (number_at c.args.notes.now c.args.till) (c.loop-place.place - 1) c.loop-place.place c.number_at.result c.loop-place.most c.max-most.result (omega arith) (omega arith) c.number_at.ensures c.loop-place.invariant m

pub returns : goal.returns
unfolding newest_of numbers
returns c = subst (λ k. c.loop-place.most ≡ largest (from (number_at c.args.notes.now c.args.till) k)) (omega arith) c.loop-place.invariant
