-- A till that keeps waiting is served within as many turns as there are tills: each turn that serves another one brings it nearer.
use mathlib.Core.Path.{◌≡◌, refl, ap, ◌∙◌}
use mathlib.Core.Bool.{Bool, true, false, cond}
use mathlib.Core.List.{List, [], ◌∷◌}
use mathlib.Core.Option.{some}
use Prim.Native.Nat.{ℕ, suc, ◌+◌, ◌-◌, ◌%◌, ◌^◌, ◌≤◌, ◌<◌}
use native.Mathlib.Nat.{mod-lt, mod-add-mod}
use native.Mathlib.Omega.{arith}
use lib.ListN.{length}
use lib.Dec.{eqb}
use borrow.Author.Tests.{eqb-false}
use Rattle.lists.specs.Lists.{counted, every}
use Rattle.lists.specs.Search.{first_that}
use Rattle.lists.proofs.Search.{Found, found}
use Rattle.lists.proofs.Tests.{every_head, every_tail}
use Rattle.dispatcher.specs.declared.Turn.{Turn}
use Rattle.dispatcher.specs.Turns.{waits, marks_present, in_turn, next_till, served_turn, turn_of}
use Rattle.dispatcher.specs.Claims.{with_marks, answers_for, serves, is_served, KeepsWaiting, Fair}
use Rattle.dispatcher.proofs.Marks.{marks_lt, waits_below}
use Rattle.dispatcher.proofs.Next.{some_tills_lem, few_tills, last_present}
use Rattle.dispatcher.proofs.OneTurn.{turn_served, turn_record, ahead}

-- the first turn of those to come finds the till's mark
first_stands : (t mask : ℕ) (masks : List ℕ) (r : Turn) → KeepsWaiting t r (mask ∷ masks) → waits mask t ≡ true
unfolding is_served
first_stands t mask masks r stands = stands 0 (omega arith) refl

module _ (tills : ℕ) (least : 1 ≤ tills) (most : tills ≤ 16) (t : ℕ) where
  abbrev turn : ℕ → ℕ → Turn
  turn mask last = record { tills = tills; waiting = mask; last = last }

  next_is : (mask last at : ℕ) → first_that (waits mask) (counted (λ j. (last + j) % tills) 1 tills) ≡ some ((last + (1 + at)) % tills) → next_till (turn mask last) ≡ some ((last + (1 + at)) % tills)
  unfolding next_till in_turn
  next_is mask last at e = e

  -- the answers from a turn that serves till s on
  run_served : (marks last mask s : ℕ) (masks : List ℕ) → turn_of (turn mask last) ≡ served_turn (turn mask last) s
      → answers_for (turn marks last) (mask ∷ masks) ≡ record { refusal = 0; served = true; till = s } ∷ answers_for (turn (mask - 2 ^ s) s) masks
  unfolding answers_for with_marks served_turn
  run_served marks last mask s masks e = rw e

  -- t is k + 1 tills after the last one: it is served within the turns of the masks, if these are more than k
  abbrev Soon : List ℕ → Type 0
  Soon masks = (marks last k : ℕ) → last < tills → k < tills → k < length masks → (last + (1 + k)) % tills ≡ t
      → every (marks_present tills) masks ≡ true → KeepsWaiting t (turn marks last) masks → is_served t (answers_for (turn marks last) masks) ≡ true

  -- the turn serves the till that is at + 1 tills after the last one: it is t, or t is nearer
  nearer : (mask : ℕ) (masks : List ℕ) → Soon masks → (marks last k at : ℕ) → k < tills → k < suc (length masks) → (last + (1 + k)) % tills ≡ t → at ≤ k
      → answers_for (turn marks last) (mask ∷ masks) ≡ record { refusal = 0; served = true; till = (last + (1 + at)) % tills } ∷ answers_for (turn (mask - 2 ^ ((last + (1 + at)) % tills)) ((last + (1 + at)) % tills)) masks
      → every (marks_present tills) (mask ∷ masks) ≡ true → KeepsWaiting t (turn marks last) (mask ∷ masks) → is_served t (answers_for (turn marks last) (mask ∷ masks)) ≡ true
  unfolding is_served serves
  nearer mask masks soon marks last k at b c e d run present stands = rw run (go (eqb ((last + (1 + at)) % tills) t) refl)
    where
      go : (q : Bool) → eqb ((last + (1 + at)) % tills) t ≡ q
          → cond q true (is_served t (answers_for (turn (mask - 2 ^ ((last + (1 + at)) % tills)) ((last + (1 + at)) % tills)) masks)) ≡ true
      go true h = refl
      go false h =
          let other : at ≡ k → ⊥ = λ n. eqb-false ((last + (1 + at)) % tills) t h (ap (λ (x : ℕ). (last + (1 + x)) % tills) n ∙ e) in
          let sum : last + (1 + at) + (1 + (k - at - 1)) ≡ last + (1 + k) = omega arith in
          soon (mask - 2 ^ ((last + (1 + at)) % tills)) ((last + (1 + at)) % tills) (k - at - 1) (mod-lt (last + (1 + at)) least) (omega arith) (omega arith)
          (mod-add-mod (last + (1 + at)) tills (1 + (k - at - 1)) ∙ ap (λ (x : ℕ). x % tills) sum ∙ e)
          (every_tail (marks_present tills) mask masks present) (λ i l n. stands (suc i) (omega arith) (rw (run, h) n))

  soon : (masks : List ℕ) → Soon masks
  soon [] marks last k a b c e present stands = absurd (omega arith)
  soon (mask ∷ masks) marks last k a b c e present stands =
      let w : waits mask t ≡ true = first_stands t mask masks (turn marks last) stands in
      let m : mask < 2 ^ tills = marks_lt tills mask (every_head (marks_present tills) mask masks present) in
      let f : Found (waits mask) (λ j. (last + j) % tills) 1 tills k = found (waits mask) (λ j. (last + j) % tills) 1 tills k b (rw e w) in
      nearer mask masks (soon masks) marks last k f.at b c e f.before
      (run_served marks last mask ((last + (1 + f.at)) % tills) masks (turn_served _ _ (turn_record tills mask last least most m a) (next_is mask last f.at f.is)))
      present stands

-- t is present, since it waits at the first turn
pub fair : Fair
fair r t [] s n present stands = absurd (omega (arith, some_tills_lem r s))
fair r t (mask ∷ masks) s n present stands =
    let m : mask < 2 ^ r.tills = marks_lt r.tills mask (every_head (marks_present r.tills) mask masks present) in
    let j = ahead r.tills r.last t (last_present r s) (waits_below mask r.tills t m (first_stands t mask masks r stands)) in
    soon r.tills (some_tills_lem r s) (few_tills r s) t (mask ∷ masks) r.waiting r.last j.0 (last_present r s) j.1 (omega (arith, j.1)) j.2 present stands
