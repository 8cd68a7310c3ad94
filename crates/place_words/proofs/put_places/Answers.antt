use Rattle.std.proofs.Common.{arith, refl, ap, ◌∙◌, ◌≡◌, ◌+◌, ◌/◌, ◌<◌, ℕ, length}
use Rattle.lists.proofs.Walks.{walk_end, walk_step}
use Rattle.laws.proofs.RoundTrip.{direct_word}
use Rattle.place_words.proofs.Rowing.{next_pointer, out_pointer, placed_words}
use Rattle.place_words.proofs.put_places.Goals as goal

pub overflow_add-first : goal.overflow_add-first
overflow_add-first c = omega (arith, c.direct-first.ensures, direct_word c.args.k.0 0)

pub loop-i-preserved : goal.loop-i-preserved
loop-i-preserved c = let l = c.loop-i in
    let h : l.i < length c.args.words.now = omega arith in
    let next : c.direct-first.result.0 + (l.i + 1) ≡ c.direct-first.result.0 + l.i + 1 = omega arith in
    walk_step out_pointer next_pointer l.invariant 0 h c.pointer_if.ensures refl (ap (λ (w : ℕ). (w, l.b / 2)) next)

pub returns : goal.returns
returns c = λ seg e s t.
    walk_end out_pointer next_pointer c.loop-i.invariant (omega arith) ∙ placed_words c.args.k.0 c.direct-first.result.0 c.args.mask c.args.blank c.args.words.now c.direct-first.ensures seg e s t
