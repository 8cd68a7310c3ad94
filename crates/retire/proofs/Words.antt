-- Pointers taken over, as words.
use mathlib.Core.Path.{◌≡◌, refl, sym, ap, ◌∙◌}
use mathlib.Core.Bool.{Bool, true, false, cond}
use mathlib.Core.List.{List, [], ◌∷◌, ◌++◌, map}
use Prim.Native.Nat.{ℕ, zero, suc, ◌+◌, ◌*◌, ◌/◌, ◌%◌, ◌<◌}
use native.Mathlib.Omega.{arith}
use lib.ListN.{length, get_or, take, drop, length-map, get_or-map}
use lib.Seq.{get_or-append-add, length-take-le, get_or-drop}
use lib.Dec.{eqb}
use borrow.Author.Tests.{eqb-true, eqb-false}
use Rattle.lists.specs.Each.{Each}
use Rattle.model.specs.State.{Pointer, null_pointer, blank_pointer, direct, indirect}
use Rattle.model.specs.Table.{kind_unit, pointer_word, pointer_of, word_to_pointer}
use Rattle.model.specs.Calls.{taken, take_over}
use Rattle.laws.proofs.Fits.{PointerFits}
use Rattle.retire.specs.Answers.{taken_word, take_over_word}

-- ---- what is taken

no_indirect : (gone : List Pointer) (k r : ℕ) → (k ≡ 2 → ⊥) → taken gone (pointer_of k r) ≡ null_pointer
unfolding pointer_of
no_indirect gone zero r f = refl
no_indirect gone (suc zero) r f = refl
no_indirect gone (suc (suc zero)) r f = absurd (f refl)
no_indirect gone (suc (suc (suc zero))) r f = refl
no_indirect gone (suc (suc (suc (suc k)))) r f = refl

taken_pointer : (gone : List ℕ) (w : ℕ) → word_to_pointer (taken_word gone w) ≡ taken (map word_to_pointer gone) (word_to_pointer w)
unfolding taken_word word_to_pointer pointer_of
taken_pointer gone w = go (eqb (w / kind_unit) 2) refl
  where
    go : (b : Bool) → eqb (w / kind_unit) 2 ≡ b → word_to_pointer (cond (eqb (w / kind_unit) 2) (get_or gone (w % kind_unit) 0) 0) ≡ taken (map word_to_pointer gone) (word_to_pointer w)
    go true e = rw (e, eqb-true (w / kind_unit) 2 e) (sym (get_or-map word_to_pointer gone (w % kind_unit) 0))
    go false e = rw e (sym (no_indirect (map word_to_pointer gone) (w / kind_unit) (w % kind_unit) (eqb-false (w / kind_unit) 2 e)))

pub taken_pointers : (gone ws : List ℕ) → map word_to_pointer (map (taken_word gone) ws) ≡ map (taken (map word_to_pointer gone)) (map word_to_pointer ws)
taken_pointers gone [] = refl
taken_pointers gone (w ∷ ws) =
    ap (λ (p : Pointer). p ∷ map word_to_pointer (map (taken_word gone) ws)) (taken_pointer gone w)
    ∙ ap (λ (l : List Pointer). taken (map word_to_pointer gone) (word_to_pointer w) ∷ l) (taken_pointers gone ws)

-- what holds of each of the version's words, and of 0, holds of those taken
pub taken_each : (P : ℕ → Type 0) (gone ws : List ℕ) → P 0 → ((n : ℕ) → P (get_or gone n 0)) → (i : ℕ) → P (get_or (map (taken_word gone) ws) i 0)
unfolding taken_word
taken_each P gone [] z f i = z
taken_each P gone (w ∷ ws) z f zero = go (eqb (w / kind_unit) 2)
  where
    go : (b : Bool) → P (cond b (get_or gone (w % kind_unit) 0) 0)
    go true = f (w % kind_unit)
    go false = z
taken_each P gone (w ∷ ws) z f (suc i) = taken_each P gone ws z f i

-- ---- the pointer after it

over_word : (gone : List Pointer) (p : Pointer) → PointerFits p → take_over_word (map pointer_word gone) (pointer_word p) ≡ pointer_word (take_over gone p)
unfolding take_over_word pointer_word
over_word gone null_pointer h = refl
over_word gone blank_pointer h = refl
over_word gone (direct k i) h = let q : (kind_unit + (k * 16 + i)) / kind_unit ≡ 1 = omega arith in rw q refl
over_word gone (indirect n) h =
    let q : (2 * kind_unit + n) / kind_unit ≡ 2 = omega arith in
    let r : (2 * kind_unit + n) % kind_unit ≡ n = omega arith in
    rw (q, r) (get_or-map pointer_word gone n null_pointer)

pub over_words : (gone ps : List Pointer) → Each PointerFits ps → map (take_over_word (map pointer_word gone)) (map pointer_word ps) ≡ map pointer_word (map (take_over gone) ps)
over_words gone [] e = refl
over_words gone (p ∷ ps) e =
    ap (λ (w : ℕ). w ∷ map (take_over_word (map pointer_word gone)) (map pointer_word ps)) (over_word gone p e.0)
    ∙ ap (λ (l : List ℕ). pointer_word (take_over gone p) ∷ l) (over_words gone ps e.1)

-- ---- one word after the other

-- the word at a place up to which a list is mapped in itself
pub still_at : (f : ℕ → ℕ) (xs ys : List ℕ) (i : ℕ) → i < length xs → ys ≡ map f (take i xs) ++ drop i xs → get_or ys i 0 ≡ get_or xs i 0
still_at f xs ys i h e =
    let l : length (map f (take i xs)) ≡ i = length-map (take i xs) f ∙ length-take-le i xs (omega (arith, h)) in
    let k : i ≡ length (map f (take i xs)) + 0 = omega (arith, l) in
    ap (λ (ws : List ℕ). get_or ws i 0) e ∙ ap (λ (j : ℕ). get_or (map f (take i xs) ++ drop i xs) j 0) k
    ∙ get_or-append-add (map f (take i xs)) (drop i xs) 0 0 ∙ get_or-drop i xs 0 0 ∙ ap (λ (j : ℕ). get_or xs j 0) (let z : i + 0 ≡ i = omega arith in z)
