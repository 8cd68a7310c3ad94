-- The numbers of a till's slots, as the code goes through them.
use mathlib.Core.Path.{◌≡◌, sym, ap, ap₂, ◌∙◌}
use mathlib.Core.Bool.{true, false}
use mathlib.Core.List.{List, [], ◌∷◌}
use Prim.Native.Nat.{ℕ, zero, suc, ◌+◌, ◌-◌, ◌*◌, ◌≤◌, ◌<◌}
use native.Mathlib.Nat.{zero-mul, sub-zero, add-zero}
use native.Mathlib.Omega.{arith}
use borrow.Author.Tests.{lt-ltb, le-ltb, le-leb, lt-leb}
use lib.ListN.{get_or, drop}
use lib.Seq.{get_or-take, get_or-drop}
use Rattle.lists.specs.Lists.{rises}
use Rattle.lists.specs.Rows.{parts}
use Rattle.audit_pointers.proofs.Slots.{slots_next}
use Rattle.audit_tills.specs.Sound.{numbers_in}

-- ---- the first of some numbers

first_low : (low high n : ℕ) (ns : List ℕ) → n ≤ low → rises low high (n ∷ ns) ≡ false
unfolding rises
first_low low high n ns h = rw (le-ltb low n h)

first_high : (low high n : ℕ) (ns : List ℕ) → low < n → high < n → rises low high (n ∷ ns) ≡ false
unfolding rises
first_high low high n ns g h = rw (lt-ltb low n g, lt-leb n high h)

first_good : (low high n : ℕ) (ns : List ℕ) → low < n → n ≤ high → rises low high (n ∷ ns) ≡ rises n high ns
unfolding rises
first_good low high n ns g h = rw (lt-ltb low n g, le-leb n high h)

-- ---- the number of slot i, and those after it

numbers_none : (b n : ℕ) (ws : List ℕ) → n ≡ 0 → numbers_in b n ws ≡ []
unfolding numbers_in parts
numbers_none b n ws e = rw e

numbers_cons : (b n : ℕ) (ws : List ℕ) → 0 < n → numbers_in b n ws ≡ get_or ws 0 0 ∷ numbers_in b (n - 1) (drop (3 + b) ws)
unfolding numbers_in parts
numbers_cons b zero ws h = absurd (omega arith)
numbers_cons b (suc n) ws h = let e : suc n - 1 ≡ n = omega arith in rw (e, get_or-take (3 + b) ws 0 0 (omega arith))

-- what is left to see from slot i of n on, whose number is to be `least` or more
pub record StillRises (b last n least i : ℕ) (ws : List ℕ) : Type 0 where
  pub some : 1 ≤ least
  pub rest : rises (least - 1) last (numbers_in b (n - i) (drop (i * (3 + b)) ws)) ≡ rises 0 last (numbers_in b n ws)

module _ (b last n : ℕ) (ws : List ℕ) where
  pub left_all : StillRises b last n 1 0 ws
  left_all = record { some = omega arith; rest = rw (zero-mul (3 + b), sub-zero n) }

  module _ {least i : ℕ} (l : StillRises b last n least i ws) where
    pub left_none : n ≤ i → true ≡ rises 0 last (numbers_in b n ws)
    unfolding rises
    left_none h = sym (ap (rises (least - 1) last) (numbers_none b (n - i) (drop (i * (3 + b)) ws) (omega arith))) ∙ l.rest

    module _ (h : i < n) where
      abbrev number : ℕ
      number = get_or ws (i * (3 + b)) 0

      abbrev newer : List ℕ
      newer = numbers_in b (n - (i + 1)) (drop ((i + 1) * (3 + b)) ws)

      numbers_are : numbers_in b (n - i) (drop (i * (3 + b)) ws) ≡ number ∷ newer
      numbers_are =
          let e : n - i - 1 ≡ n - (i + 1) = omega arith in
          numbers_cons b (n - i) (drop (i * (3 + b)) ws) (omega arith)
          ∙ ap₂ (λ (m : ℕ) (ms : List ℕ). m ∷ ms) (get_or-drop (i * (3 + b)) ws 0 0 ∙ ap (λ (m : ℕ). get_or ws m 0) (add-zero (i * (3 + b)))) (ap₂ (numbers_in b) e (slots_next b ws i))

      here : rises (least - 1) last (number ∷ newer) ≡ rises 0 last (numbers_in b n ws)
      here = ap (rises (least - 1) last) (sym numbers_are) ∙ l.rest

      pub left_low : number < least → false ≡ rises 0 last (numbers_in b n ws)
      left_low g = sym (first_low (least - 1) last number newer (omega arith)) ∙ here

      pub left_high : least ≤ number → last < number → false ≡ rises 0 last (numbers_in b n ws)
      left_high g k = sym (first_high (least - 1) last number newer (omega (arith, l.some)) k) ∙ here

      pub left_next : (next : ℕ) → least ≤ number → number ≤ last → next ≡ number + 1 → StillRises b last n next (i + 1) ws
      left_next next g k e =
          let f : next - 1 ≡ number = omega arith in
          record { some = omega arith; rest = ap (λ (m : ℕ). rises m last newer) f ∙ sym (first_good (least - 1) last number newer (omega (arith, l.some)) k) ∙ here }
