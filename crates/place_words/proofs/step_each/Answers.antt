use Rattle.std.proofs.Common.{arith, refl, ap, ◌∙◌, ◌≡◌, ◌%◌, ◌<◌, length, get_or}
use Rattle.std.proofs.lemmas.Grind.{common_steps}
use Rattle.lists.specs.Walk.{next_same}
use Rattle.lists.proofs.Walks.{walk_end, walk_step}
use Rattle.place_words.proofs.step_each.Goals as goal

pub loop-word-preserved : goal.loop-word-preserved
loop-word-preserved g c =
    let l = c.loop-word in
    let h : l.word-index < length c.args.words.now = omega arith in
    let r : get_or l.words l.word-index 0 ≡ get_or c.args.words.now l.word-index 0 = l.invariant.0 l.word-index (omega arith) in (
      λ j q. grind (arith, common_steps, l.invariant.0 j (omega arith)),
      λ out f. walk_step (λ b a x. out b x) next_same (l.invariant.1 out f) 0 h (f (l.m % 2) (get_or l.words l.word-index 0) c.step.result c.step.ensures ∙ ap (out (l.m % 2)) r) refl refl,
    )

pub returns : goal.returns
returns g c = λ out f. walk_end (λ b a x. out b x) next_same (c.loop-word.invariant.1 out f) (omega arith)
