use Rattle.std.proofs.Common.{◌≡◌, ◌-◌, refl, subst, arith, rules}
use Rattle.lists.specs.Lists.{counted}
use Rattle.trial_keeper.specs.Notes.{number_at, numbers, place_of, first_place}
use Rattle.trial_keeper.proofs.Places.{from, first_here, first_later}
use Rattle.trial_keeper.proofs.place_of.Goals as goal

pub loop-place-init : goal.loop-place-init
unfolding first_place counted
loop-place-init c = (search rules, refl)

pub loop-place-preserved-then-number_at-number : goal.loop-place-preserved-then-number_at-number
loop-place-preserved-then-number_at-number c = (omega arith, first_here (number_at c.args.notes.now c.args.till) c.args.number (c.loop-place.place - 1) c.loop-place.place c.number_at.result (omega arith) (omega arith) c.number_at.ensures c.if-number_at-number.true)

pub loop-place-preserved : goal.loop-place-preserved
loop-place-preserved c = (omega arith, first_later (number_at c.args.notes.now c.args.till) c.args.number (c.loop-place.place - 1) c.loop-place.place c.number_at.result (omega arith) (omega arith) c.number_at.ensures c.loop-place.found c.if-number_at-number.false c.loop-place.invariant.1)

pub returns : goal.returns
unfolding place_of numbers
returns c = (subst (λ k. c.loop-place.found ≡ first_place c.args.number k (from (number_at c.args.notes.now c.args.till) k)) (omega arith) c.loop-place.invariant.1, omega arith)
