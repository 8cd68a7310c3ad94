use mathlib.Core.Path.{◌≡◌}
use lib.ListN.{drop}
use Rattle.lists.specs.Lists.{first_from, same_numbers}
use Rattle.lists.specs.Rows.{parts}
use Rattle.sent_bring.proofs.find_sent.Given as goal

abbrev pub invariant-loop-k : goal.invariant-loop-k
invariant-loop-k l = first_from (λ p. same_numbers p l.fingerprint) l.k (drop l.k (parts 20 l.n l.prints)) ≡ first_from (λ p. same_numbers p l.fingerprint) 0 (parts 20 l.n l.prints)
