use Rattle.std.proofs.Common.{refl, rules}
use Rattle.lists.proofs.Checkers.{denies, same_as}
use Rattle.audit_words.proofs.Ands.{not_so}
use Rattle.audit_counts.proofs.Counters.{zeros_fit}
use Rattle.audit_counts.proofs.Counts.{counts_are}
use Rattle.audit_tills.specs.Sound.{tills_pointers}
use Rattle.audit.proofs.counted_sound.Goals as goal

pub tills_sound-requires : goal.tills_sound-requires
tills_sound-requires c = (search rules, search rules, search rules, search rules, search rules, λ k. zeros_fit 65536 k _ (search rules))

pub returns-then-tills_sound : goal.returns-then-tills_sound
returns-then-tills_sound c = let a = c.args in
    let s = c.tills_sound.ensures in
    let t = counts_are a.m.blocks (tills_pointers a.m.bytes a.versions a.blocks a.count a.tills.now) a.records.now 65536 _ (search rules) (search rules) refl (s.1 c.if-tills_sound.true) c.records_counts.ensures in
    same_as (λ p. (s.0.holds c.if-tills_sound.true, p)) (λ p. p.1) t

pub returns-else-tills_sound : goal.returns-else-tills_sound
returns-else-tills_sound c = not_so c.if-tills_sound.false (λ p. denies c.tills_sound.ensures.0 c.if-tills_sound.false p.0)
