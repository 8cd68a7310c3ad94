use native.Mathlib.Omega.{arith}
use mathlib.Core.Path.{◌∙◌}
use lib.ListN.{length}
use Rattle.sent_find.proofs.Finding.{none_yet}
use Rattle.sent_find.proofs.find_records.Goals as goal

pub find_down-requires : goal.find_down-requires
find_down-requires c = let f = none_yet (length c.args.numbers.now) c.fill.new.self (c.fill.ensures.after (λ y e. e)) in (c.requires.0, omega (arith, c.requires.1, f.0), f.1)

pub returns : goal.returns
returns c = let f = none_yet _ _ (c.fill.ensures.after (λ y e. e)) in (c.find_down.ensures.0 ∙ f.0, c.find_down.ensures.1)
