use native.Mathlib.Omega.{arith}
use borrow.Author.Rules.{rules}
use mathlib.Core.Path.{refl}
use Prim.Native.Nat.{◌+◌, ◌*◌, ◌≤◌}
use lib.ListN.{length}
use Rattle.lists.proofs.Places.{row_room}
use Rattle.sent_bring.proofs.Contents.{put_start, put_next, put_end}
use Rattle.sent_bring.proofs.put_content.Goals as goal

pub loop-i-init : goal.loop-i-init
loop-i-init c = let a = c.args in
    (refl, λ s seg e l q. put_start a.bytes s seg a.out.now a.row.now q)

pub put_position-requires : goal.put_position-requires
put_position-requires c =
    let room : (let a = c.args in c.loop-i.i * a.bytes + a.bytes ≤ length a.out.now) = (omega (arith, c.requires.5, row_room c.loop-i.i c.args.n c.args.bytes c.loop-i-test.true)) in
    (omega arith, omega arith, c.requires.1 c.loop-i.i c.loop-i-test.true, c.requires.2, c.requires.3, omega (arith, room, c.loop-i.invariant.0))

pub loop-i-preserved : goal.loop-i-preserved
loop-i-preserved c =
    let room : (let a = c.args in c.loop-i.i * a.bytes + a.bytes ≤ length a.out.now) = (omega (arith, c.requires.5, row_room c.loop-i.i c.args.n c.args.bytes c.loop-i-test.true)) in
    let a = c.args in
    let l = c.loop-i in (
      search rules,
      λ s seg e n q. put_next (l.invariant.1 s seg e n q) (omega arith) a.row.now q _ (search rules) (omega (arith, room, l.invariant.0)) (λ p x y z. c.put_position.ensures s p e x y z),
    )

pub shape_of-out : goal.shape_of-out
shape_of-out c = c.loop-i.invariant.0

pub returns : goal.returns
returns c = λ s seg e l q. put_end (c.loop-i.invariant.1 s seg e l q) c.args.n l (omega (arith, c.loop-i.invariant.0, c.requires.5)) (omega arith)
