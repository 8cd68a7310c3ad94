use Rattle.std.proofs.Common.{◌≡◌, ◌-◌, refl, subst, arith}
use Rattle.lists.specs.Lists.{counted}
use Rattle.trial_keeper.specs.Notes.{number_at, numbers, oldest_of, least_held}
use Rattle.trial_keeper.proofs.Places.{from, least_more}
use Rattle.trial_keeper.proofs.oldest.Goals as goal

pub loop-place-init : goal.loop-place-init
unfolding least_held counted
loop-place-init c = refl

pub loop-place-preserved : goal.loop-place-preserved
loop-place-preserved c = least_more (number_at c.args.notes.now c.args.till) (c.loop-place.place - 1) c.loop-place.place c.number_at.result c.loop-place.least c.lesser-least.result (omega arith) (omega arith) c.number_at.ensures c.loop-place.invariant c.lesser-least.ensures.0 c.lesser-least.ensures.1 c.lesser-least.ensures.2 c.lesser-least.ensures.3

pub returns : goal.returns
unfolding oldest_of numbers
returns c = subst (λ k. c.loop-place.least ≡ least_held (from (number_at c.args.notes.now c.args.till) k)) (omega arith) c.loop-place.invariant
