use native.Mathlib.Omega.{arith}
use mathlib.Core.Path.{◌≡◌, refl}
use Prim.Native.Nat.{◌+◌, ◌-◌}
use Rattle.place_words.proofs.Rowing.{new_row_all}
use Rattle.place_words.proofs.new_row.Goals as goal

pub returns : goal.returns
returns c = λ seg e s t.
    let a = c.args in
    let z : 3 + a.n - 3 ≡ a.n = omega arith in
    rw z (new_row_all a.n a.row.now _ _ _ _ a.mask a.blank a.start.0 (omega arith) c.put_masks.ensures (rw z at c.number.ensures) refl (rw z at c.put_bits.ensures) seg e s t)
