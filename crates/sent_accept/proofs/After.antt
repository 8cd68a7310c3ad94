-- The second message's answer, by its refusals and by the image that was put together.
use mathlib.Core.Path.{◌≡◌, refl, sym, ap, ◌∙◌, subst}
use mathlib.Core.Bool.{Bool, true, false, cond, not}
use mathlib.Core.List.{List}
use Prim.Native.Nat.{ℕ}
use native.Mathlib.Omega.{arith}
use lib.ListN.{length}
use lib.Dec.{eqb, leb}
use Rattle.lists.proofs.Tests.{not_not}
use Rattle.sha1_definition.specs.Sha1.{sha1}
use Rattle.model.specs.State.{State, Outcome, refused, done}
use Rattle.model.specs.Table.{shape_of, state_in}
use Rattle.model.specs.Calls.{BackupAnswer, till_of, backup_answer, backup_in, backup_by, backup_of}
use Rattle.laws.specs.Stores.{Sound}
use Rattle.backup_accept.specs.Accept.{refused_backup}
use Rattle.sent.specs.Sent.{sent_fits, assembled, made, backup_on, backup_sent, backup_sent_in, backup_sent_by, backup_sent_of}
use Rattle.sent.specs.Found.{Brings}
use Rattle.sent_laws.proofs.Numbers.{NotZero, made_or_refused}
use Rattle.sent_accept.specs.Refusals.{sent_refusal}

-- four tests in their order, as a number and as an outcome
module _ {A : Type 0} (a b c d : Bool) (o : Outcome A) where
  abbrev number : ℕ
  number = cond a 3 (cond b 4 (cond c 11 (cond d 12 0)))

  abbrev outcome : Outcome A
  outcome = cond a (refused 3) (cond b (refused 4) (cond c (refused 11) (cond d (refused 12) o)))

tests_refuse : {A : Type 0} (a b c d : Bool) (o : Outcome A) → ¬ (number a b c d o ≡ 0) → outcome a b c d o ≡ refused (number a b c d o)
tests_refuse true b c d o z = refl
tests_refuse false true c d o z = refl
tests_refuse false false true d o z = refl
tests_refuse false false false true o z = refl
tests_refuse false false false false o z = absurd (z refl)

tests_pass : {A : Type 0} (a b c d : Bool) (o : Outcome A) → number a b c d o ≡ 0 → (outcome a b c d o ≡ o) × (b ≡ false)
tests_pass true b c d o z = absurd (omega (arith, z))
tests_pass false true c d o z = absurd (omega (arith, z))
tests_pass false false true d o z = absurd (omega (arith, z))
tests_pass false false false true o z = absurd (omega (arith, z))
tests_pass false false false false o z = (refl, refl)

module _ {pool table : List ℕ} (h : Sound pool table) (t bytes : ℕ) (fs marks ss : List ℕ) where
  abbrev state : State
  state = state_in (shape_of table) pool table

  abbrev image : Outcome (List ℕ)
  image = assembled sha1 (shape_of table).measures state.storage bytes fs marks ss

  abbrev all : Outcome (List ℕ)
  all = made sha1 (shape_of table) state t bytes fs marks ss

  abbrev answer : Outcome (List ℕ) → BackupAnswer
  answer o = backup_answer pool table (shape_of table) (backup_on (shape_of table) state t o)

  answer_is : backup_sent_of pool table t bytes fs marks ss ≡ answer all
  unfolding backup_sent_of backup_sent_by backup_sent_in backup_sent
  answer_is = rw h.is

  -- the tests
  abbrev a : Bool
  a = leb (shape_of table).capacities.tills t

  abbrev b : Bool
  b = not (sent_fits (shape_of table) bytes fs marks ss)

  abbrev c : Bool
  c = leb (shape_of table).capacities.versions (length (till_of state t).versions)

  abbrev d : Bool
  d = eqb (till_of state t).last 65535

  all_is : all ≡ outcome a b c d image
  unfolding made
  all_is = refl

  -- refused before a segment is looked at
  pub sent_early : (r : ℕ) → r ≡ sent_refusal (shape_of table) state t bytes fs marks ss → ¬ (r ≡ 0) → refused_backup r pool table ≡ backup_sent_of pool table t bytes fs marks ss
  unfolding backup_on backup_answer
  sent_early r e z =
      ap (λ (n : ℕ). refused_backup n pool table) e ∙ sym (answer_is ∙ ap answer (all_is ∙ tests_refuse a b c d image (λ q. z (e ∙ q))))

  module _ (e : sent_refusal (shape_of table) state t bytes fs marks ss ≡ 0) where
    pub sent_fits_lem : sent_fits (shape_of table) bytes fs marks ss ≡ true
    sent_fits_lem = not_not _ (tests_pass a b c d image e).1

    all_image : all ≡ image
    all_image = all_is ∙ (tests_pass a b c d image e).0

    -- 19 or 20
    pub sent_late : (r : ℕ) (out : List ℕ) → Brings image r out → ¬ (r ≡ 0) → refused_backup r pool table ≡ backup_sent_of pool table t bytes fs marks ss
    sent_late r out w z = go image w ∙ sym (answer_is ∙ ap answer all_image)
      where
        go : (o : Outcome (List ℕ)) → Brings o r out → refused_backup r pool table ≡ answer o
        go (refused n) q = unfold backup_on backup_answer in ap (λ (n : ℕ). refused_backup n pool table) q
        go (done i) q = absurd (z q.0)

    -- the image is there
    pub sent_backed : (r : ℕ) (out : List ℕ) → Brings image r out → r ≡ 0 → backup_of pool table t out ≡ backup_sent_of pool table t bytes fs marks ss
    unfolding backup_of backup_by backup_in
    sent_backed r out w z = go image w (subst NotZero all_image (made_or_refused sha1 (shape_of table) state t bytes fs marks ss)) ∙ sym (answer_is ∙ ap answer all_image)
      where
        go : (o : Outcome (List ℕ)) → Brings o r out → NotZero o → backup_of pool table t out ≡ answer o
        go (refused n) q nz = absurd (nz (sym q ∙ z))
        go (done i) q nz = unfold backup_on in rw (h.is, q.1)
