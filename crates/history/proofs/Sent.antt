-- A second message of §5 does what the backup does that it comes to.
use mathlib.Core.Path.{◌≡◌, refl, sym, ◌∙◌}
use mathlib.Core.Bool.{false}
use mathlib.Core.List.{List, []}
use mathlib.Core.Option.{Option, none, some}
use Prim.Native.Nat.{ℕ}
use native.Mathlib.Nat.{suc-ne-zero}
use lib.Dec.{eqb, leb}
use borrow.Author.Tests.{ne_eqb}
use Rattle.lists.proofs.Tests.{by_test}
use Rattle.model.specs.Measures.{Shape}
use Rattle.model.specs.State.{State, Outcome, refused, done}
use Rattle.model.specs.Image.{with_blanks}
use Rattle.model.specs.Sound.{Store}
use Rattle.model.specs.Calls.{backup, backup_answer, backup_in, After, state_or, outcome_refusal}
use Rattle.sha1_definition.specs.Sha1.{sha1}
use Rattle.sent.specs.Sent.{made, backup_on, backup_sent, backup_sent_in}
use Rattle.sent_laws.proofs.Numbers.{NotZero, made_or_refused}
use Rattle.history.specs.Keeper.{image_or, image_sent}

module _ (s : Shape) (st : State) where
  -- the store of a state
  abbrev pub here : Option Store
  here = some (record { shape = s; state = st })

  -- no image is refused
  none_kept : (t : ℕ) → (state_or st (backup with_blanks s st t none []) ≡ st) × (eqb (outcome_refusal (backup with_blanks s st t none [])) 0 ≡ false)
  unfolding backup state_or outcome_refusal
  none_kept t =
      by_test (λ (o : Outcome After). (state_or st o ≡ st) × (eqb (outcome_refusal o) 0 ≡ false)) (leb s.capacities.tills t) (λ e. (refl, refl)) (λ e. (refl, refl))

  abbrev Alike : Outcome After → Outcome After → Type 0
  Alike o q = (state_or st o ≡ state_or st q) × (eqb (outcome_refusal o) 0 ≡ eqb (outcome_refusal q) 0)

  pub sent_alike : (t n : ℕ) (fs ms ss : List ℕ) → Alike (backup_sent sha1 s st t n fs ms ss) (backup with_blanks s st t none (image_sent here t n fs ms ss))
  unfolding backup_sent image_sent
  sent_alike t n fs ms ss = go (made sha1 s st t n fs ms ss) (made_or_refused sha1 s st t n fs ms ss)
    where
      go : (o : Outcome (List ℕ)) → NotZero o → Alike (backup_on s st t o) (backup with_blanks s st t none (image_or o))
      go (refused k) h =
          unfold backup_on image_or state_or outcome_refusal in
          (sym (unfold state_or in (none_kept t).0), ne_eqb k 0 h ∙ sym (unfold outcome_refusal in (none_kept t).1))
      go (done image) h = unfold backup_on image_or in (refl, refl)

-- of any buffers, an accepted one is that backup
pub accepted_is : (o : Option Store) (pool table : List ℕ) (t n : ℕ) (fs ms ss : List ℕ) → (backup_sent_in sha1 o pool table t n fs ms ss).refusal ≡ 0
    → backup_sent_in sha1 o pool table t n fs ms ss ≡ backup_in with_blanks o pool table t none (image_sent o t n fs ms ss)
unfolding backup_sent_in backup_in image_sent
accepted_is none pool table t n fs ms ss e = absurd (suc-ne-zero 9 e)
accepted_is (some x) pool table t n fs ms ss e =
    unfold backup_sent in
    go (made sha1 x.shape x.state t n fs ms ss) (made_or_refused sha1 x.shape x.state t n fs ms ss) (unfold backup_sent in e)
  where
    go : (o : Outcome (List ℕ)) → NotZero o → (backup_answer pool table x.shape (backup_on x.shape x.state t o)).refusal ≡ 0
        → backup_answer pool table x.shape (backup_on x.shape x.state t o) ≡ backup_answer pool table x.shape (backup with_blanks x.shape x.state t none (image_or o))
    go (refused k) h e = absurd (h (unfold backup_on backup_answer in e))
    go (done image) h e = unfold backup_on image_or in refl
