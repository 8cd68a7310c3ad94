use native.Mathlib.Omega.{arith}
use borrow.Author.Rules.{rules}
use mathlib.Core.Path.{refl, sym, ap, ◌∙◌}
use mathlib.Core.Bool.{not}
use mathlib.Core.List.{[]}
use lib.ListN.{get_or}
use borrow.Author.Count.{below_none, below_more}
use Rattle.lists.proofs.Answers.{every_map}
use Rattle.lists.proofs.Checkers.{clash, is_so, is_not, refutes, proves}
use Rattle.lists.proofs.Each.{each_at, each_of}
use Rattle.lists.proofs.Slices.{every_next, every_end}
use Rattle.lists.proofs.Tests.{every_at}
use Rattle.model.specs.Table.{word_to_pointer, records_in}
use Rattle.audit_words.specs.Words.{IsPointerWord}
use Rattle.audit_counts.proofs.Counters.{bumped_le, tallied_turn, tally_done}
use Rattle.audit_pointers.proofs.pointers_sound.Goals as goal

pub loop-w-init : goal.loop-w-init
loop-w-init c = (below_none _, λ storage q. refl, refl, refl, λ k. omega (arith, c.requires.1 k))

pub pointer_sound-requires : goal.pointer_sound-requires
pointer_sound-requires c = (search rules, λ k. omega (arith, c.loop-w.invariant.4 k))

pub shape_of-counts-then-not-pointer_sound : goal.shape_of-counts-then-not-pointer_sound
shape_of-counts-then-not-pointer_sound c = omega (arith, c.pointer_sound.auto, c.loop-w.invariant.2)

pub returns-then-not-pointer_sound : goal.returns-then-not-pointer_sound
returns-then-not-pointer_sound c = let words = c.args.words.now in
    let l = c.loop-w in (
      λ storage q. is_not (λ g. refutes (c.pointer_sound.ensures.0 storage q) (ap not c.if-not-pointer_sound.true)
          (record { canonical = each_at IsPointerWord 0 words g.canonical l.w-index (search rules); resolves = every_at _ 0 words (sym (every_map _ word_to_pointer words) ∙ g.resolves) l.w-index (search rules) })),
      λ e. absurd (clash refl e),
    )

pub loop-w-preserved : goal.loop-w-preserved
loop-w-preserved c = let l = c.loop-w in
    let words = c.args.words.now in
    let good = c.pointer_sound.ensures in
    let e = good.1 c.if-not-pointer_sound.false in (
      below_more _ _ l.invariant.0 (proves (good.0 (record { records = records_in _ _; cells = [] }) refl) (ap not c.if-not-pointer_sound.false)).canonical,
      λ storage q. sym (every_next _ words l.w-index 0 (search rules) (proves (good.0 storage q) (ap not c.if-not-pointer_sound.false)).resolves) ∙ l.invariant.1 storage q,
      omega (arith, c.pointer_sound.auto, l.invariant.2),
      rw e (sym (tallied_turn words l.w-index _ (search rules)) ∙ l.invariant.3),
      λ k. rw e (omega (arith, bumped_le (get_or words l.w-index 0) l.counts k, l.invariant.4 k)),
    )

pub shape_of-counts : goal.shape_of-counts
shape_of-counts c = c.loop-w.invariant.2

pub returns : goal.returns
returns c = let l = c.loop-w in
    let words = c.args.words.now in (
      λ storage q. is_so (record {
        canonical = each_of IsPointerWord 0 words (λ k h. l.invariant.0 k (omega arith));
        resolves = every_map _ word_to_pointer words ∙ sym (l.invariant.1 storage q) ∙ every_end _ words l.w-index (search rules);
      }),
      λ e. tally_done words l.w-index l.counts _ (search rules) l.invariant.3,
    )
