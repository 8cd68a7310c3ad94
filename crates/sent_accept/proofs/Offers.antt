-- The first message's answer, by its refusal and by its marks.
use mathlib.Core.Path.{◌≡◌, refl, sym, ap, ◌∙◌}
use mathlib.Core.Bool.{Bool, true, false, cond, not}
use mathlib.Core.List.{List, [], ◌∷◌, map}
use Prim.Native.Nat.{ℕ, ◌*◌, ◌≤◌}
use native.Mathlib.Nat.{mul-le-mul}
use native.Mathlib.Omega.{arith}
use lib.ListN.{length}
use lib.Dec.{eqb, leb, ltb}
use borrow.Author.Tests.{leb-true, eqb-true}
use Rattle.lists.specs.Lists.{is_some, all_of}
use Rattle.lists.specs.Rows.{chunks}
use Rattle.lists.proofs.Tests.{not_not, clause}
use Rattle.sha1_definition.specs.Sha1.{sha1}
use Rattle.model.specs.Measures.{parts_for}
use Rattle.model.specs.State.{State, Outcome, refused, done}
use Rattle.model.specs.Table.{shape_of, state_in}
use Rattle.laws.specs.Stores.{Sound}
use Rattle.laws.proofs.Measures.{parts_least}
use Rattle.laws.proofs.Stores.{header}
use Rattle.sent.specs.Sent.{offer_fits, had, offer, offer_answer, offer_in, offer_of}
use Rattle.sent_accept.specs.Refusals.{offer_refusal}

-- two tests in their order, as a number and as an outcome
tests_refuse : {A : Type 0} (a b : Bool) (o : Outcome A) → ¬ (cond {A = ℕ} a 3 (cond b 4 0) ≡ 0) → cond a (refused 3) (cond b (refused 4) o) ≡ refused (cond a 3 (cond b 4 0))
tests_refuse true b o z = refl
tests_refuse false true o z = refl
tests_refuse false false o z = absurd (z refl)

tests_pass : {A : Type 0} (a b : Bool) (o : Outcome A) → cond {A = ℕ} a 3 (cond b 4 0) ≡ 0 → (cond a (refused 3) (cond b (refused 4) o) ≡ o) × (b ≡ false)
tests_pass true b o z = absurd (omega (arith, z))
tests_pass false true o z = absurd (omega (arith, z))
tests_pass false false o z = (refl, refl)

module _ {pool table : List ℕ} (h : Sound pool table) (t : ℕ) (fs marks : List ℕ) where
  abbrev state : State
  state = state_in (shape_of table) pool table

  abbrev answered : Outcome (List ℕ)
  answered = done (map (λ f. cond (is_some (had sha1 (shape_of table).measures state.storage [] f)) 1 0) (chunks 20 fs))

  answer_is : offer_of pool table t fs marks
      ≡ offer_answer marks (cond (leb (shape_of table).capacities.tills t) (refused 3) (cond (not (offer_fits (shape_of table) fs marks)) (refused 4) answered))
  unfolding offer_of offer_in offer
  answer_is = rw h.is

  pub offer_early : (r : ℕ) → r ≡ offer_refusal (shape_of table) t fs marks → ¬ (r ≡ 0) → record { refusal = r; marks = marks } ≡ offer_of pool table t fs marks
  unfolding offer_answer
  offer_early r e z =
      ap (λ (n : ℕ). record { refusal = n; marks = marks }) e
      ∙ sym (answer_is ∙ ap (offer_answer marks) (tests_refuse (leb (shape_of table).capacities.tills t) (not (offer_fits (shape_of table) fs marks)) answered (λ q. z (e ∙ q))))

  module _ (e : offer_refusal (shape_of table) t fs marks ≡ 0) where
    fits : offer_fits (shape_of table) fs marks ≡ true
    fits = not_not _ (tests_pass (leb (shape_of table).capacities.tills t) (not (offer_fits (shape_of table) fs marks)) answered e).1

    pub offer_done : (ms : List ℕ) → ms ≡ map (λ f. cond (is_some (had sha1 (shape_of table).measures state.storage [] f)) 1 0) (chunks 20 fs)
        → record { refusal = 0; marks = ms } ≡ offer_of pool table t fs marks
    unfolding offer_answer
    offer_done ms q =
        ap (λ (l : List ℕ). record { refusal = 0; marks = l }) q
        ∙ sym (answer_is ∙ ap (offer_answer marks) (tests_pass (leb (shape_of table).capacities.tills t) (not (offer_fits (shape_of table) fs marks)) answered e).0)

    -- the lists fit
    abbrev tests : List Bool
    tests =
        ltb 0 (length marks) ∷ leb (length marks) (parts_for (shape_of table).measures.segment_blocks (shape_of table).capacities.blocks) ∷ eqb (length fs) (20 * length marks) ∷ []

    tested : all_of tests ≡ true
    unfolding offer_fits
    tested = fits

    pub offer_whole : length fs ≡ 20 * length marks
    offer_whole = eqb-true _ _ (clause tests 2 tested)

    pub offer_few : length marks ≤ 256
    unfolding shape_of
    offer_few =
        let l : length marks ≤ parts_for (shape_of table).measures.segment_blocks (shape_of table).capacities.blocks = leb-true _ _ (clause tests 1 tested) in
        let w = (header h).measured.some_blocks in
        let q : 4 * 256 ≤ (shape_of table).measures.segment_blocks * 256 = mul-le-mul w (let one : 256 ≤ 256 = omega arith in one) in
        omega (arith, l, parts_least (shape_of table).measures.segment_blocks (shape_of table).capacities.blocks 256 (omega (arith, w)) (omega (arith, (header h).blocks, q)))
