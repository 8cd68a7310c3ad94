use native.Mathlib.Omega.{arith}
use mathlib.Core.Path.{sym, ap, ◌∙◌}
use Prim.Native.Nat.{◌-◌}
use lib.ListN.{length}
use Rattle.stream.specs.Stream.{Read}
use Rattle.stream_laws.proofs.Steps.{group_some, group_accepted}
use Rattle.stream_read.proofs.fill_group.Goals as goal

pub bounds-stream-at : goal.bounds-stream-at
bounds-stream-at c = let a = c.args in group_some (length a.image.now - a.to) a.at a.stream.now c.requires.2

pub overflow_add-at : goal.overflow_add-at
overflow_add-at c = let a = c.args in omega (arith, group_some (length a.image.now - a.to) a.at a.stream.now c.requires.2)

pub fill_blocks-requires : goal.fill_blocks-requires
fill_blocks-requires c = let a = c.args in
    let h = group_some (length a.image.now - a.to) a.at a.stream.now c.requires.2 in
    let e = group_accepted (length a.image.now - a.to) a.at a.stream.now h c.requires.2 in
    (omega (arith, h), omega arith, rw c.from-bits.ensures (ap (λ (x : Read). x.refusal) (sym e) ∙ c.requires.2))

pub returns : goal.returns
returns c = let a = c.args in
    let h = group_some (length a.image.now - a.to) a.at a.stream.now c.requires.2 in
    let e = group_accepted (length a.image.now - a.to) a.at a.stream.now h c.requires.2 in
    rw e (rw c.from-bits.ensures at c.fill_blocks.ensures)
