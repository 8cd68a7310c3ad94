use Rattle.std.proofs.Common.{◌≡◌, ◌*◌, ◌<◌, length, get_or, arith, rules, tests}
use Rattle.std.proofs.lemmas.Iterator.{first_from_Range, serves_from_Range}
use Rattle.std.proofs.lemmas.List.{get_or_read}
use Rattle.turn.proofs.Turning.{begins_in}
use Rattle.turn.proofs.next_start.Goals as goal

pub find-requires-clause-callable : goal.find-requires-clause-callable
find-requires-clause-callable c = serves_from_Range (λ x q k. search (rules, tests))
    (λ x low high. let inside : x * c.args.bytes < length c.args.image.now = begins_in c.args.bytes x (length c.args.image.now) c.requires.3 (omega (arith, c.requires.1)) in grind arith)

pub returns : goal.returns
returns c = let a = c.args in
    first_from_Range _ _ _ _ (λ i. get_or a.image.now (i * a.bytes) 0 ≡ a.byte) (λ i. get_or a.image.now (i * a.bytes) 0 ≡ a.byte → ⊥) c.find.ensures.ran
    (λ x q k. grind (arith, tests, get_or_read))
    (λ x q k. (search rules, grind (arith, tests, get_or_read)))
