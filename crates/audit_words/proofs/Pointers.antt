-- What a word of each kind is read as, and which words say a pointer.
use mathlib.Core.Path.{◌≡◌, refl, sym, ap, ◌∙◌}
use mathlib.Core.Bool.{Bool, true, false}
use Prim.Native.Nat.{ℕ, zero, suc, ◌/◌, ◌%◌}
use borrow.Author.Tests.{eqb-true, eqb-false}
use lib.Dec.{eqb}
use native.Mathlib.Omega.{arith}
use Rattle.model.specs.State.{null_pointer, blank_pointer, direct, indirect}
use Rattle.model.specs.Table.{kind_unit, pointer_word, pointer_of, word_to_pointer}
use Rattle.audit_words.specs.Words.{IsPointerWord}

pub read_null : (w : ℕ) → w / kind_unit ≡ 0 → word_to_pointer w ≡ null_pointer
unfolding word_to_pointer pointer_of
read_null w e = ap (λ (k : ℕ). pointer_of k (w % kind_unit)) e

pub read_direct : (w : ℕ) → w / kind_unit ≡ 1 → word_to_pointer w ≡ direct (w % kind_unit / 16) (w % kind_unit % 16)
unfolding word_to_pointer pointer_of
read_direct w e = ap (λ (k : ℕ). pointer_of k (w % kind_unit)) e

pub read_indirect : (w : ℕ) → w / kind_unit ≡ 2 → word_to_pointer w ≡ indirect (w % kind_unit)
unfolding word_to_pointer pointer_of
read_indirect w e = ap (λ (k : ℕ). pointer_of k (w % kind_unit)) e

pub read_blank : (w : ℕ) → w / kind_unit ≡ 3 → word_to_pointer w ≡ blank_pointer
unfolding word_to_pointer pointer_of
read_blank w e = ap (λ (k : ℕ). pointer_of k (w % kind_unit)) e

other : (k n : ℕ) → (k ≡ 1 → ⊥) → (k ≡ 2 → ⊥) → (k ≡ 3 → ⊥) → pointer_of k n ≡ null_pointer
unfolding pointer_of
other zero n a b d = refl
other (suc zero) n a b d = absurd (a refl)
other (suc (suc zero)) n a b d = absurd (b refl)
other (suc (suc (suc zero))) n a b d = absurd (d refl)
other (suc (suc (suc (suc k)))) n a b d = refl

pub read_other : (w : ℕ) → (w / kind_unit ≡ 1 → ⊥) → (w / kind_unit ≡ 2 → ⊥) → (w / kind_unit ≡ 3 → ⊥) → word_to_pointer w ≡ null_pointer
unfolding word_to_pointer
read_other w a b d = other (w / kind_unit) (w % kind_unit) a b d

-- ---- IsPointerWord

pub direct_canonical : (w : ℕ) → w / kind_unit ≡ 1 → IsPointerWord w
unfolding pointer_word
direct_canonical w e = rw (read_direct w e) (omega arith)

pub indirect_canonical : (w : ℕ) → w / kind_unit ≡ 2 → IsPointerWord w
unfolding pointer_word
indirect_canonical w e = rw (read_indirect w e) (omega arith)

-- the two words that stand alone
pub null_reads : (w : ℕ) → w ≡ pointer_word null_pointer → word_to_pointer w ≡ null_pointer
unfolding pointer_word
null_reads w e = read_null w (omega arith)

pub blank_reads : (w : ℕ) → w ≡ pointer_word blank_pointer → word_to_pointer w ≡ blank_pointer
unfolding pointer_word
blank_reads w e = read_blank w (omega arith)

pub null_canonical : (w : ℕ) → w ≡ pointer_word null_pointer → IsPointerWord w
null_canonical w e = ap pointer_word (null_reads w e) ∙ sym e

pub blank_canonical : (w : ℕ) → w ≡ pointer_word blank_pointer → IsPointerWord w
blank_canonical w e = ap pointer_word (blank_reads w e) ∙ sym e

pub canonical_other : (w : ℕ) → (w / kind_unit ≡ 1 → ⊥) → (w / kind_unit ≡ 2 → ⊥) → (w ≡ pointer_word null_pointer → ⊥) → IsPointerWord w → w ≡ pointer_word blank_pointer
canonical_other w a b z e = go (eqb (w / kind_unit) 3) refl
  where
    go : (t : Bool) → eqb (w / kind_unit) 3 ≡ t → w ≡ pointer_word blank_pointer
    go true k = sym (rw (read_blank w (eqb-true _ _ k)) at e)
    go false k = absurd (z (sym (rw (read_other w a b (eqb-false _ _ k)) at e)))
