use mathlib.Core.Path.{ap}
use native.Mathlib.Omega.{arith}
use lib.ListN.{length}
use Rattle.std.proofs.lemmas.Iterator.{empty_from_Zip}
use Rattle.std.proofs.lemmas.Slice.Zip.{Zip-more}
use Rattle.turn.proofs.Turning.{released_last, released_next}
use Rattle.turn.proofs.list_released.Goals as goal

pub keep_pointer-m-requires : goal.keep_pointer-m-requires
keep_pointer-m-requires c = let z = Zip-more c.loop-word.word-iterator c.next.new.self c.next.result (c.in-Some.word, c.in-Some.target) c.in-Some.is c.next.ensures.steps in
    omega (arith, ap length z.0)

pub loop-word-preserved : goal.loop-word-preserved
loop-word-preserved c = let v = c.loop-word.invariant in
    let z = Zip-more c.loop-word.word-iterator c.next.new.self c.next.result (c.in-Some.word, c.in-Some.target) c.in-Some.is c.next.ensures.steps in (
      omega (arith, v.0, ap length z.0, ap length z.1),
      omega (arith, v.1, ap length z.0, c.keep_pointer-m.ensures.1),
      omega (arith, v.2),
      released_next _ _ _ _ _ _ _ _ _ z.0 z.1 c.keep_pointer-m.ensures.0 v.3,
    )

pub returns : goal.returns
returns c = let v = c.loop-word.invariant in
    let spent = empty_from_Zip _ c.next.new.self _ c.in-None.is c.next.ensures.steps v.0 in
    (released_last _ _ _ _ spent.0 v.3, omega (arith, v.1))
