use Rattle.std.proofs.Common.{arith, sym, ◌∙◌, ◌≡◌, ◌*◌, ◌+◌, ◌-◌}
use native.Mathlib.Nat.{zero-mul}
use Rattle.lists.proofs.Places.{row_next}
use Rattle.place_match.proofs.Copying.{bit_first, bits_rest, block_low}
use Rattle.place_match.proofs.Matching.{equal_end, equal_here, equal_no, equal_start, equal_yes}
use Rattle.place_match.proofs.positions_equal.Goals as goal

pub loop-i-init : goal.loop-i-init
loop-i-init c = let a = c.args in
    let z : a.n - 0 ≡ a.n = omega arith in
    let y : a.from + 0 * a.bytes ≡ a.from = omega (arith, zero-mul a.bytes) in
    (rw (y, z) c.requires.1, λ s seg e l q. rw y (equal_start s a.bytes a.image.now a.from a.n seg a.row.now q c.requires.3 c.requires.9))

pub position_holds-requires : goal.position_holds-requires
position_holds-requires c = let l = c.loop-i in
    let a = c.args in (
      omega (arith, block_low a.from a.bytes a.n l.i c.requires.0 c.requires.6 c.requires.8 (omega arith)),
      bit_first a.bytes a.image.now a.n l.m (a.from + l.i * a.bytes) l.i (omega arith) l.invariant.0,
      omega arith,
      c.requires.4 l.i (omega arith),
      c.requires.5,
      c.requires.6,
      c.requires.7,
    )

pub returns-then-not-position_holds : goal.returns-then-not-position_holds
returns-then-not-position_holds c = λ s seg e l q.
    let t = c.loop-i.invariant.1 s seg e l q in
    let a = c.args in
    equal_no t l (omega arith) a.row.now q
    (sym c.if-not-position_holds.true ∙ equal_here t l (omega arith) a.row.now q _ (λ p x y z w. c.position_holds.ensures s p e x y z w))

pub loop-i-preserved : goal.loop-i-preserved
loop-i-preserved c = let a = c.args in
    let l = c.loop-i in
    let next : a.from + (l.i + 1) * a.bytes ≡ a.from + l.i * a.bytes + a.bytes = omega (arith, row_next l.i a.bytes) in (
      rw next (bits_rest a.bytes a.image.now a.n l.m (a.from + l.i * a.bytes) l.i (omega arith) l.invariant.0),
      λ s seg e n q.
          let t = l.invariant.1 s seg e n q in
          rw next (equal_yes t n (omega arith) a.row.now q
          (sym c.if-not-position_holds.false ∙ equal_here t n (omega arith) a.row.now q _ (λ p x y z w. c.position_holds.ensures s p e x y z w))),
    )

pub returns : goal.returns
returns c = λ s seg e l q. equal_end (c.loop-i.invariant.1 s seg e l q) l (omega arith)
