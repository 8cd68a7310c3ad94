use native.Mathlib.Omega.{arith}
use mathlib.Core.Bool.{Bool, true, false}
use mathlib.Core.Path.{◌≡◌, refl, sym, ap, ◌∙◌}
use mathlib.Core.List.{List, []}
use Rattle.std.proofs.Common.{inl, inr}
use Prim.Native.Nat.{ℕ, ◌+◌, ◌*◌, ◌≤◌, ◌<◌}
use lib.Dec.{eqb}
use lib.ListN.{length, get_or}
use borrow.Author.Tests.{eqb-true, eqb-false}
use Rattle.model.specs.Measures.{record_words}
use Rattle.model.specs.State.{null_position}
use Rattle.model.specs.Records.{is_held}
use Rattle.model.specs.Table.{position_of, records_in}
use Rattle.audit_words.specs.Words.{bit_of}
use Rattle.audit_words.proofs.Positions.{bit_off, position_held, other_held}
use Rattle.audit_pointers.proofs.Positions.{position_in, position_past, position_beside}
use borrow.Author.Rules.{rules}
use Rattle.audit_pointers.proofs.held_at.Goals as goal

module _ (n : ℕ) (ws : List ℕ) (k i : ℕ) where
  abbrev at : ℕ
  at = k * record_words n

  held-bit : (x r : ℕ) → x ≡ at → at + record_words n ≤ length ws → i < n → r ≡ bit_of (get_or ws x 0) i → eqb r 1 ≡ is_held (get_or (get_or (records_in n ws) k []) i null_position)
  held-bit x r f h g e = rw (position_in n ws k i h g) (go (eqb r 1) refl)
    where
      q : r ≡ bit_of (get_or ws at 0) i
      q = e ∙ ap (λ (y : ℕ). bit_of (get_or ws y 0) i) f

      go : (t : Bool) → eqb r 1 ≡ t → eqb r 1 ≡ is_held (position_of (bit_of (get_or ws at 0) i) (bit_of (get_or ws (at + 1) 0) i) (bit_of (get_or ws (at + 2) 0) i) (get_or ws (at + (3 + i)) 0) (get_or ws (at + (3 + n + i)) 0))
      go true z = z ∙ sym (ap is_held (position_held _ _ (bit_of (get_or ws (at + 2) 0) i) (get_or ws (at + (3 + i)) 0) (get_or ws (at + (3 + n + i)) 0) (sym q ∙ eqb-true r 1 z)))
      go false z = z ∙ sym (other_held _ _ _ _ _ (bit_off (get_or ws at 0) i (λ y. eqb-false r 1 z (q ∙ y))))

no_answer : {r b : Bool} → r ≡ false → b ≡ false → r ≡ b
no_answer e f = e ∙ sym f

pub returns-then-i-n : goal.returns-then-i-n
returns-then-i-n c = let a = c.args in held-bit a.n a.records.now a.k.0 a.i _ _ c.word-at.ensures (omega (arith, c.word-at.ensures, c.row_words.ensures, c.if-i-n.true)) (omega (arith, c.if-i-n.true)) c.bit.ensures

pub returns-else-i-n : goal.returns-else-i-n
returns-else-i-n c = let a = c.args in
    no_answer (search rules) (elim c.if-i-n.either [
      | inl h ↦ ap is_held (position_beside a.n a.records.now a.k.0 a.i (omega (arith, c.word-at.ensures, c.row_words.ensures, h)) (omega (arith, h)))
      | inr h ↦ ap is_held (position_past a.n a.records.now a.k.0 a.i (omega (arith, c.word-at.ensures, c.row_words.ensures, h)))
    ])
