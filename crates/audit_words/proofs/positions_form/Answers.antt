use Rattle.std.proofs.Common.{◌≡◌, ℕ, ◌<◌, ◌^◌, Bool, get_or, List, refl}
use Rattle.lists.specs.Decides.{Decides}
use Rattle.lists.proofs.Checkers.{same_as}
use Rattle.audit_words.specs.Words.{bit_of, PositionForm}
use Rattle.audit_words.proofs.Ands.{and_then, and_else}
use Rattle.audit_words.proofs.Disjoint.{Clear, apart_below, form_of}
use Rattle.audit_words.proofs.positions_form.Goals.{then-apart, else-apart, then-apart-2, else-apart-2}
use Rattle.audit_words.proofs.positions_form.Goals as goal

abbrev Apart : List ℕ → ℕ → ℕ → Type 0
Apart row a b = (i : ℕ) → bit_of (get_or row a 0) i ≡ 1 → bit_of (get_or row b 0) i ≡ 0

-- the four tests tell the form of all positions
form : {t : Bool} (n : ℕ) (row : List ℕ) → get_or row 0 0 < 2 ^ n → get_or row 1 0 < 2 ^ n → Decides t (((Apart row 0 1 × Apart row 0 2) × Apart row 1 2) × ((i : ℕ) → i < n → Clear n row i)) → Decides t ((i : ℕ) → i < n → PositionForm n row i)
form n row h r t = same_as
    (λ f. form_of n row f.0.0.0 f.0.0.1 f.0.1 f.1)
    (λ f. (((apart_below n _ _ h (λ i l. (f i l).kept), apart_below n _ _ h (λ i l. (f i l).stored)), apart_below n _ _ r (λ i l. (f i l).gone)), λ i l z. ((f i l).cell z, (f i l).count z)))
    t

pub returns-then-apart-3 : goal.returns-then-apart-3
returns-then-apart-3 c =
    let one : Decides c.if-apart.value (Apart c.args.row.now 0 1 × Apart c.args.row.now 0 2) = elim c.if-apart.branch [
      | then-apart w ↦ and_then w.if-apart.true w.value-is c.apart.ensures (λ p. w.apart-then-apart.ensures)
      | else-apart w ↦ and_else w.if-apart.false w.value-is c.apart.ensures
    ] in
    let two : Decides c.if-apart-2.value ((Apart c.args.row.now 0 1 × Apart c.args.row.now 0 2) × Apart c.args.row.now 1 2) = elim c.if-apart-2.branch [
      | then-apart-2 w ↦ and_then w.if-apart-2.true w.value-is one (λ p. w.apart-then-apart-2.ensures)
      | else-apart-2 w ↦ and_else w.if-apart-2.false w.value-is one
    ] in
    form _ _ c.requires.2 c.requires.3 (and_then c.if-apart-3.true refl two (λ p. c.unheld_zero.ensures))

pub returns-else-apart-3 : goal.returns-else-apart-3
returns-else-apart-3 c =
    let one : Decides c.if-apart.value (Apart c.args.row.now 0 1 × Apart c.args.row.now 0 2) = elim c.if-apart.branch [
      | then-apart w ↦ and_then w.if-apart.true w.value-is c.apart.ensures (λ p. w.apart-then-apart.ensures)
      | else-apart w ↦ and_else w.if-apart.false w.value-is c.apart.ensures
    ] in
    let two : Decides c.if-apart-2.value ((Apart c.args.row.now 0 1 × Apart c.args.row.now 0 2) × Apart c.args.row.now 1 2) = elim c.if-apart-2.branch [
      | then-apart-2 w ↦ and_then w.if-apart-2.true w.value-is one (λ p. w.apart-then-apart-2.ensures)
      | else-apart-2 w ↦ and_else w.if-apart-2.false w.value-is one
    ] in
    form _ _ c.requires.2 c.requires.3 (and_else c.if-apart-3.false refl two)
