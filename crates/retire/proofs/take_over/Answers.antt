use Rattle.std.proofs.Common.{◌≡◌, ◌<◌, refl, ap, ◌∙◌, arith, length, get_or}
use Rattle.lists.proofs.Maps.{map_more}
use Rattle.retire.specs.Answers.{taken_word, take_over_word}
use Rattle.retire.proofs.Words.{still_at}
use Rattle.retire.proofs.take_over.Goals as goal

pub loop-i-preserved : goal.loop-i-preserved
loop-i-preserved c = let l = c.loop-i in
    let gone = c.args.gone.now in
    let older = c.args.older.now in
    let h : l.i < length older = omega arith in
    let e = still_at (take_over_word gone) older l.older l.i h l.invariant.0 in
    let q : c.taken_pointer-named.result.0 ≡ taken_word gone (get_or l.older l.i 0) = c.taken_pointer-named.ensures in (
      map_more (take_over_word gone) older older l.older l.i _ h refl l.invariant.0 (c.pointer_after-after.ensures gone q ∙ ap (take_over_word gone) e),
      map_more (taken_word gone) older c.args.taken.now l.taken l.i _ h c.requires l.invariant.1 (q ∙ ap (taken_word gone) e),
    )
