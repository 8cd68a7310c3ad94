use native.Mathlib.Omega.{arith}
use mathlib.Core.Path.{◌≡◌, sym, ap, ◌∙◌}
use mathlib.Core.List.{List, []}
use Prim.Native.Nat.{ℕ, ◌+◌, ◌*◌, ◌≤◌, ◌<◌}
use lib.ListN.{length, get_or}
use Rattle.model.specs.Measures.{record_words}
use Rattle.model.specs.State.{null_position}
use Rattle.model.specs.Records.{cell_of}
use Rattle.model.specs.Table.{records_in}
use Rattle.audit_words.specs.Words.{bit_of}
use Rattle.audit_words.proofs.Positions.{bit_off, position_held, other_cell}
use Rattle.audit_pointers.proofs.Positions.{position_in, position_past, position_beside}
use borrow.Author.Rules.{rules}
use Rattle.audit_pointers.proofs.cell_at.Goals.{then-records-at-via-then-records-at, then-records-at-via-else-records-at+then-n-i, then-records-at-via-else-records-at+else-n-i+then-bit-ne1}
use Rattle.audit_pointers.proofs.cell_at.Goals as goal

module _ (n : ℕ) (ws : List ℕ) (k i x : ℕ) (f : x ≡ k * record_words n) (h : x + record_words n ≤ length ws) (g : i < n) where
  abbrev at : ℕ
  at = k * record_words n

  bit_is : bit_of (get_or ws x 0) i ≡ bit_of (get_or ws at 0) i
  bit_is = ap (λ (y : ℕ). bit_of (get_or ws y 0) i) f

  cell-on : bit_of (get_or ws x 0) i ≡ 1 → get_or ws (x + 3 + i) 0 ≡ cell_of (get_or (get_or (records_in n ws) k []) i null_position)
  cell-on e =
      rw (position_in n ws k i (omega arith) g, position_held _ (bit_of (get_or ws (at + 1) 0) i) (bit_of (get_or ws (at + 2) 0) i) (get_or ws (at + (3 + i)) 0) (get_or ws (at + (3 + n + i)) 0) (sym bit_is ∙ e))
      (ap (λ (j : ℕ). get_or ws j 0) (let z : x + 3 + i ≡ at + (3 + i) = omega arith in z))

  cell-off : (bit_of (get_or ws x 0) i ≡ 1 → ⊥) → 0 ≡ cell_of (get_or (get_or (records_in n ws) k []) i null_position)
  cell-off e = rw (position_in n ws k i (omega arith) g) (sym (other_cell _ _ _ _ _ (bit_off (get_or ws at 0) i (λ z. e (bit_is ∙ z)))))

pub returns-then-records-at : goal.returns-then-records-at
returns-then-records-at c = let a = c.args in elim c.then-records-at.branch [
  | then-records-at-via-then-records-at w ↦ sym (ap cell_of (position_past a.n a.records.now a.k.0 a.i (search rules)))
  | then-records-at-via-else-records-at+then-n-i w ↦ sym (ap cell_of (position_beside a.n a.records.now a.k.0 a.i (search rules) (search rules)))
  | then-records-at-via-else-records-at+else-n-i+then-bit-ne1 w ↦ cell-off a.n a.records.now a.k.0 a.i _ c.word-at.ensures (search rules) (search rules) (λ e. w.if-bit-ne1.true (w.bit.ensures ∙ e))
]

pub returns : goal.returns
returns c = let a = c.args in cell-on a.n a.records.now a.k.0 a.i _ c.word-at.ensures (search rules) (search rules) (sym c.bit.ensures ∙ c.if-bit-ne1.false)
