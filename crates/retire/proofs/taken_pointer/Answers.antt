use Rattle.std.proofs.Common.{◌≡◌, ℕ, zero, suc, ◌<◌, List, [], ◌∷◌, length, get_or, sym, ◌∙◌, arith}
use lib.ListN.{get_or-eq_default}
use borrow.Author.Tests.{ltb-true, ltb-false}
use Rattle.model.specs.Table.{pointer_word}
use Rattle.retire.specs.Answers.{taken_word}
use Rattle.retire.proofs.taken_pointer.Goals as goal

-- an element within a list, whatever stands for one outside
within : (xs : List ℕ) (n x : ℕ) → n < length xs → x ≡ get_or xs n x → x ≡ get_or xs n 0
within [] n x l e = absurd (omega (arith, l))
within (y ∷ ys) zero x l e = e
within (y ∷ ys) (suc n) x l e = within ys n x (omega (arith, l)) e

pub returns-then-not-is_indirect : goal.returns-then-not-is_indirect
unfolding taken_word pointer_word
returns-then-not-is_indirect c = rw (sym c.is_indirect.ensures ∙ c.if-not-is_indirect.true) c.null.ensures

pub returns-in-Some : goal.returns-in-Some
unfolding taken_word
returns-in-Some c = rw (sym c.is_indirect.ensures ∙ c.if-not-is_indirect.false, ← c.block-named.ensures)
    (within c.args.gone.now c.block-named.result.0 c.in-Some.word.now (ltb-true _ _ (sym c.in-Some.ensures.lookup.0)) c.in-Some.ensures.lookup.1)

pub returns-in-None : goal.returns-in-None
unfolding taken_word pointer_word
returns-in-None c = rw (sym c.is_indirect.ensures ∙ c.if-not-is_indirect.false, ← c.block-named.ensures)
    (c.null-in-None.ensures ∙ sym (get_or-eq_default c.args.gone.now 0 (ltb-false c.block-named.result.0 _ (sym c.in-None.ensures.lookup.0))))
