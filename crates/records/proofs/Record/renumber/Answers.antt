use Rattle.std.proofs.Common.{refl, sym, ◌∙◌, arith}
use lib.Count.{ones-le}
use Rattle.lists.proofs.Masks.{first_ones}
use Rattle.numbers.proofs.Bits.{lowest, bit_value}
use Rattle.records.proofs.Records.{held_small, first_renumbered, renumbered_none, moved_of}
use Rattle.records.proofs.Record.renumber.Goals as goal

pub loop-left-init : goal.loop-left-init
loop-left-init c = let h = held_small _ c.requires.formed in
    (h, omega (arith, ones-le 16 c.args.self.held h), refl, refl, refl, refl, refl, refl)

pub loop-left-preserved : goal.loop-left-preserved
loop-left-preserved c =
    let l = c.loop-left in
    let i = l.invariant in
    let t = c.loop-left-test.true in
    let bit = lowest l.left t i.0 in
    rw (bit_value l.left t i.0)
    (omega arith, omega (arith, first_ones bit), i.2, i.3, i.4, i.5, sym (first_renumbered _ _ bit) ∙ i.6, i.7)

pub returns : goal.returns
returns c = let i = c.loop-left.invariant in
    moved_of _ _ c.requires.formed c.requires.self_value.0 _ i.2 i.3 i.4 i.5 (sym (renumbered_none c.loop-left.at _) ∙ (rw c.loop-left-test.false at i.6)) i.7
