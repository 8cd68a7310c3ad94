-- The next till, by the first mark above the last till or else the first of all.
use mathlib.Core.Path.{◌≡◌, refl, sym, ap, ◌∙◌, subst}
use mathlib.Core.Bool.{Bool, true, false}
use mathlib.Core.Option.{none, some}
use Prim.Native.Nat.{ℕ, ◌+◌, ◌-◌, ◌/◌, ◌%◌, ◌^◌, ◌≤◌, ◌<◌}
use native.Mathlib.Nat.{zero-div, mod-eq_of_lt, mod-eq-sub-mod, div-lt_iff_lt-mul, one-mul}
use native.Mathlib.Omega.{arith}
use lib.Pow.{pow_pos, shr_lt}
use lib.Dec.{leb}
use borrow.Author.Tests.{leb-true, leb-false, ltb-true}
use Rattle.lists.proofs.Masks.{First, first_lt, first_bit}
use Rattle.lists.proofs.Bits.{shifted_bit, first_clear}
use Rattle.lists.proofs.Search.{found_at, found_none, found_passes}
use Rattle.lists.proofs.Tests.{clause}
use Rattle.dispatcher.specs.declared.Turn.{Turn}
use Rattle.dispatcher.specs.Turns.{is_turn, waits, in_turn, next_till}
use Rattle.dispatcher.proofs.Marks.{bit_waits, bit_rests, none_waits, marks_lt, waits_below}

module _ (r : Turn) (s : is_turn r ≡ true) where
  pub some_tills_lem : 1 ≤ r.tills
  unfolding is_turn
  some_tills_lem = leb-true 1 r.tills (clause _ 0 s)

  pub few_tills : r.tills ≤ 16
  unfolding is_turn
  few_tills = leb-true r.tills 16 (clause _ 1 s)

  pub few_marks : r.waiting < 2 ^ r.tills
  unfolding is_turn
  few_marks = marks_lt r.tills r.waiting (clause _ 2 s)

  pub last_present : r.last < r.tills
  unfolding is_turn
  last_present = ltb-true r.last r.tills (clause _ 3 s)

  -- the j-th till after the last, before the end of the circle and past it
  above : (j : ℕ) → r.last + 1 + j < r.tills → (r.last + (1 + j)) % r.tills ≡ r.last + 1 + j
  above j h = let e : r.last + (1 + j) ≡ r.last + 1 + j = omega arith in rw e (mod-eq_of_lt h)

  around : (j : ℕ) → r.tills ≤ r.last + 1 + j → j < r.tills → (r.last + (1 + j)) % r.tills ≡ r.last + 1 + j - r.tills
  around j h l =
      let e : r.last + (1 + j) ≡ r.last + 1 + j = omega arith in
      rw e (mod-eq-sub-mod h ∙ mod-eq_of_lt (omega (arith, last_present)))

  pub next_after : (t : ℕ) → First (r.waiting / 2 ^ (r.last + 1)) t → (next_till r ≡ some (r.last + 1 + t)) × (r.last + 1 + t < r.tills)
  unfolding next_till in_turn
  next_after t f = (found_at (waits r.waiting) (λ k. (r.last + k) % r.tills) 1 r.tills t (omega (arith, inside)) passed here ∙ ap some (above t inside), inside)
    where
      width : r.tills ≡ r.tills - (r.last + 1) + (r.last + 1)
      width = omega (arith, last_present)

      inside : r.last + 1 + t < r.tills
      inside = omega (arith, last_present, first_lt (r.tills - (r.last + 1)) f (shr_lt (r.tills - (r.last + 1)) (r.last + 1) (subst (λ (n : ℕ). r.waiting < 2 ^ n) width few_marks)))

      passed : (j : ℕ) → j < t → waits r.waiting ((r.last + (1 + j)) % r.tills) ≡ false
      passed j h = rw (above j (omega (arith, inside))) (bit_rests r.waiting (r.last + 1 + j) (sym (shifted_bit r.waiting (r.last + 1) j) ∙ first_clear f j h))

      here : waits r.waiting ((r.last + (1 + t)) % r.tills) ≡ true
      here = rw (above t inside) (bit_waits r.waiting (r.last + 1 + t) (sym (shifted_bit r.waiting (r.last + 1) t) ∙ first_bit f))

  pub next_around : (t : ℕ) → r.waiting / 2 ^ (r.last + 1) ≡ 0 → First r.waiting t → next_till r ≡ some t
  unfolding next_till in_turn
  next_around t z f = found_at (waits r.waiting) (λ k. (r.last + k) % r.tills) 1 r.tills (r.tills - (r.last + 1) + t) inside passed here ∙ ap some at
    where
      low : t < r.last + 1
      low = first_lt (r.last + 1) f (rw (one-mul (2 ^ (r.last + 1))) at ((div-lt_iff_lt-mul {x = r.waiting} {y = 1} (pow_pos (r.last + 1))).0 (omega arith)))

      inside : r.tills - (r.last + 1) + t < r.tills
      inside = omega (arith, low, last_present)

      at : (r.last + (1 + (r.tills - (r.last + 1) + t))) % r.tills ≡ t
      at = around (r.tills - (r.last + 1) + t) (omega (arith, last_present)) inside ∙ omega (arith, last_present)

      passed : (j : ℕ) → j < (r.tills - (r.last + 1) + t) → waits r.waiting ((r.last + (1 + j)) % r.tills) ≡ false
      passed j h = go (leb r.tills (r.last + 1 + j)) refl
        where
          go : (b : Bool) → leb r.tills (r.last + 1 + j) ≡ b → waits r.waiting ((r.last + (1 + j)) % r.tills) ≡ false
          go true e =
              let l : r.tills ≤ r.last + 1 + j = leb-true r.tills (r.last + 1 + j) e in
              rw (around j l (omega (arith, inside))) (bit_rests r.waiting (r.last + 1 + j - r.tills) (first_clear f (r.last + 1 + j - r.tills) (omega (arith, last_present))))
          go false e =
              let l : r.last + 1 + j < r.tills = leb-false r.tills (r.last + 1 + j) e in
              rw (above j l) (bit_rests r.waiting (r.last + 1 + j) (sym (shifted_bit r.waiting (r.last + 1) j) ∙ rw (z, zero-div (2 ^ j))))

      here : waits r.waiting ((r.last + (1 + (r.tills - (r.last + 1) + t))) % r.tills) ≡ true
      here = rw at (bit_waits r.waiting t (first_bit f))

  -- what is next waits, and is present
  pub next_waits : (t : ℕ) → next_till r ≡ some t → waits r.waiting t ≡ true
  unfolding next_till
  next_waits t e = found_passes (waits r.waiting) (in_turn r.tills r.last) t e

  pub next_present : (t : ℕ) → next_till r ≡ some t → t < r.tills
  next_present t e = waits_below r.waiting r.tills t few_marks (next_waits t e)

pub next_none : (r : Turn) → r.waiting ≡ 0 → next_till r ≡ none
unfolding next_till in_turn
next_none r z = found_none (waits r.waiting) (λ k. (r.last + k) % r.tills) 1 r.tills (λ j h. rw z (none_waits ((r.last + (1 + j)) % r.tills)))
