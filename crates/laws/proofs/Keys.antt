-- Setting rights: an accepted change leaves a sound state, in which one till has other rights and nothing else is other.
use mathlib.Core.Path.{◌≡◌, refl, sym, ap, ◌∙◌, subst}
use mathlib.Core.Bool.{true, ◌||◌}
use mathlib.Core.List.{List, [], ◌∷◌, ◌++◌}
use Prim.Native.Nat.{ℕ, zero, suc, ◌-◌, ◌<◌}
use native.Mathlib.Omega.{arith}
use lib.ListN.{length, get_or, set, length-set}
use lib.Dec.{eqb, ltb, leb}
use borrow.Author.Tests.{leb-false}
use Rattle.lists.specs.Rows.{rows, joined}
use Rattle.lists.proofs.Tests.{clause, all_true, every_at, every_set}
use Rattle.model.specs.Measures.{Shape}
use Rattle.model.specs.State.{Pointer, Version, Rights, staff, Till, State, Outcome, done}
use Rattle.model.specs.Table.{state_to_bytes}
use Rattle.model.specs.Sound.{is_shaped, is_numbered, is_till, all_pointers, all_counted, is_sound}
use Rattle.model.specs.Calls.{empty_till, till_of, with_till, After}
use Rattle.model.specs.Rights.{with_rights, set_rights}
use Rattle.laws.proofs.Serves.{sound_valid}
use Rattle.laws.proofs.Retire.{passed, the_after}

-- what an accepted change of rights did
pub record RightsSet (s : Shape) (st : State) (subject t : ℕ) (r : Rights) (a : After) : Type 0 where
  pub there : t < length st.tills
  pub state : a.state ≡ with_till st t (with_rights (till_of st t) subject r) st.storage
  pub bytes : state_to_bytes st ≡ state_to_bytes a.state
  pub sound : is_sound s a.state ≡ true

-- the pointers of the store are those of the versions
same_pointers : (ts : List Till) (t : ℕ) (till : Till) → till.versions ≡ (get_or ts t empty_till).versions → all_pointers (set ts t till) ≡ all_pointers ts
unfolding all_pointers joined
same_pointers [] t till e = refl
same_pointers (x ∷ ts) zero till e = ap (λ (vs : List Version). rows (λ (v : Version). v.pointers) vs ++ all_pointers ts) e
same_pointers (x ∷ ts) (suc t) till e = ap (λ (ps : List Pointer). rows (λ (v : Version). v.pointers) x.versions ++ ps) (same_pointers ts t till e)

module _ (s : Shape) (st : State) (h : is_sound s st ≡ true) (subject t : ℕ) (r : Rights) (ht : t < length st.tills) where
  abbrev new : Till
  new = with_rights (till_of st t) subject r

  good_till : is_till s st.storage new ≡ true
  unfolding with_rights is_till is_numbered is_sound till_of
  good_till =
      let old : is_till s st.storage (till_of st t) ≡ true = every_at (is_till s st.storage) empty_till st.tills (clause _ 4 h) t ht in
      all_true _ (clause _ 0 old, (clause _ 1 old, (ap (λ (n : ℕ). eqb n staff) (length-set (till_of st t).rights (subject - 1) r) ∙ clause _ 2 old, tt)))

  set_sound : is_sound s (with_till st t new st.storage) ≡ true
  unfolding is_sound is_shaped with_till
  set_sound =
      all_true _ (
        clause _ 0 h,
        (
          all_true _ (ap (λ (n : ℕ). eqb n s.capacities.tills) (length-set st.tills t new) ∙ clause _ 0 (clause _ 1 h), (clause _ 1 (clause _ 1 h), (clause _ 2 (clause _ 1 h), (clause _ 3 (clause _ 1 h), (clause _ 4 (clause _ 1 h), tt))))),
          (
            clause _ 2 h,
            (
              clause _ 3 h,
              (
                every_set (is_till s st.storage) st.tills t new (clause _ 4 h) good_till,
                (
                  ap (λ (ps : List Pointer). all_counted ps 0 st.storage.records) (same_pointers st.tills t new (unfold with_rights till_of in refl)) ∙ clause _ 5 h,
                  (clause _ 6 h, tt),
                ),
              ),
            ),
          ),
        ),
      )

pub rights_set_lem : (s : Shape) (st : State) (user subject t : ℕ) (r : Rights) (a : After) → is_sound s st ≡ true → set_rights s st user subject t r ≡ done a → RightsSet s st subject t r a
unfolding set_rights with_till state_to_bytes
rights_set_lem s st user subject t r a h e =
    let (e₁, r₁) = passed (leb s.capacities.tills t) 3 _ a e in
    let (e₂, r₂) = passed (ltb staff user || (eqb subject 0 || ltb staff subject)) 22 _ a r₁ in
    let (e₃, r₃) = passed (ltb 0 user) 23 _ a r₂ in
    let ht : t < length st.tills = omega (arith, leb-false s.capacities.tills t e₁, (sound_valid s st h).till_count) in
    let is : with_till st t (with_rights (till_of st t) subject r) st.storage ≡ a.state = unfold the_after in ap (λ (o : Outcome After). (the_after a o).state) r₃ in
    record {
      there = ht;
      state = sym is;
      bytes = ap state_to_bytes is;
      sound = subst (λ (x : State). is_sound s x ≡ true) is (set_sound s st h subject t r ht);
    }
