-- The refusals in their order, and a till's word of rights in the table.
use mathlib.Core.Path.{◌≡◌, refl, sym, ap, ◌∙◌, subst}
use mathlib.Core.Bool.{Bool, true, false, cond, ◌||◌}
use mathlib.Core.List.{List, [], ◌∷◌, ◌++◌}
use Prim.Native.Nat.{ℕ, zero, suc, ◌+◌, ◌-◌, ◌≤◌, ◌<◌}
use native.Mathlib.Omega.{arith}
use lib.ListN.{length, get_or, set, take, drop, length-take, take-append-drop}
use lib.Seq.{set-append_left}
use lib.Dec.{eqb, ltb, leb}
use borrow.Author.Tests.{le-leb, lt-leb, leb-false, eqb-true, eqb-false, ltb-false}
use Rattle.lists.proofs.Tests.{clause}
use Rattle.lists.proofs.Slices.{part_get}
use Rattle.model.specs.Measures.{till_words}
use Rattle.model.specs.State.{Rights, staff, State, refused, done}
use Rattle.model.specs.Table.{rights_word, rights_in, till_to_words, state_to_words, shape_of, state_in}
use Rattle.model.specs.Sound.{is_till, store_of}
use Rattle.model.specs.Calls.{no_rights, till_of, with_till}
use Rattle.model.specs.Rights.{Right, has, user_refusal, refusal_for, not_owner, with_rights, set_rights, rights_answer, set_rights_in, set_rights_of}
use Rattle.laws.specs.Stores.{till_at, Sound}
use Rattle.laws.proofs.Rights.{rights_back, rights_lt}
use Rattle.laws.proofs.Measures.{sizes}
use Rattle.laws.proofs.Stores.{till_put, found, header}
use Rattle.laws.proofs.Tills.{till, there, till_words_lem, is_till_lem, in_words}
use Rattle.rights.specs.Answers.{RightsAt, set_refusal, rights_answered}

-- ---- a user who may not

-- 23 is one of the staff's
pub one_of_staff : (user : ℕ) → not_owner user ≡ 23 → (0 < user) × (user ≤ staff)
one_of_staff zero e = absurd (omega (arith, e))
one_of_staff (suc u) e = (omega arith, go (leb staff u) refl e)
  where
    go : (b : Bool) → leb staff u ≡ b → ◌≡◌ {A = ℕ} (cond b 22 23) 23 → suc u ≤ staff
    go true f q = absurd (omega (arith, q))
    go false f q = omega (arith, leb-false staff u f)

module _ {pool table : List ℕ} (h : Sound pool table) (user t : ℕ) (right : Right) where
  abbrev state : State
  state = state_in (shape_of table) pool table

  abbrev asked : ℕ
  asked = refusal_for (store_of pool table) user t right

  pub no_till_lem : get_or table 0 0 ≤ t → 0 ≡ asked
  unfolding refusal_for shape_of
  no_till_lem n = rw h.is (go user)
    where
      go : (k : ℕ) → 0 ≡ user_refusal (leb (get_or table 0 0) t) (till_of state t).rights k right
      go zero = refl
      go (suc u) = rw (le-leb (get_or table 0 0) t n)

  module _ (n : t < get_or table 0 0) where
    -- the owner, or an unknown user
    pub not_staff : ¬ (not_owner user ≡ 23) → not_owner user ≡ asked
    unfolding refusal_for shape_of
    not_staff z = rw h.is (go user z)
      where
        none : (b c : Bool) → ¬ (◌≡◌ {A = ℕ} (cond b 22 23) 23) → ◌≡◌ {A = ℕ} (cond b 22 23) (cond b 22 (cond c 0 23))
        none true c z = refl
        none false c z = absurd (z refl)

        go : (k : ℕ) → ¬ (not_owner k ≡ 23) → not_owner k ≡ user_refusal (leb (get_or table 0 0) t) (till_of state t).rights k right
        go zero z = refl
        go (suc u) z = rw (lt-leb (get_or table 0 0) t n) (none (leb staff u) (has right (get_or (till_of state t).rights u no_rights)) z)

    pub by_right : 0 < user → user ≤ staff → cond (has right (get_or (till_of state t).rights (user - 1) no_rights)) 0 23 ≡ asked
    unfolding refusal_for shape_of
    by_right z l = rw h.is (go user z l)
      where
        go : (k : ℕ) → 0 < k → k ≤ staff
            → cond (has right (get_or (till_of state t).rights (k - 1) no_rights)) 0 23 ≡ user_refusal (leb (get_or table 0 0) t) (till_of state t).rights k right
        go zero z l = absurd (omega (arith, z))
        go (suc u) z l =
            let e : suc u - 1 ≡ u = omega arith in
            rw (lt-leb (get_or table 0 0) t n, lt-leb staff u (omega (arith, l)), e)

-- ---- a till's word of rights

-- an element put into a part
put_inside : (ws : List ℕ) (a k j x : ℕ) → a + j < length ws → j < k → set ws (a + j) x ≡ take a ws ++ (set (take k (drop a ws)) j x ++ drop k (drop a ws))
put_inside ws zero k j x l m =
    let e : 0 + j ≡ j = omega arith in
    ap (λ (n : ℕ). set ws n x) e ∙ ap (λ (l : List ℕ). set l j x) (sym (take-append-drop k ws)) ∙ set-append_left (take k ws) (drop k ws) j x (omega (arith, l, m, length-take k ws))
put_inside [] (suc a) k j x l m = absurd (omega (arith, l))
put_inside (w ∷ ws) (suc a) k j x l m =
    let e : suc a + j ≡ suc (a + j) = omega arith in
    ap (λ (n : ℕ). set (w ∷ ws) n x) e ∙ ap (λ (l : List ℕ). w ∷ l) (put_inside ws a k j x (omega (arith, l)) m)

module _ {pool table : List ℕ} (h : Sound pool table) (t : ℕ) (n : t < get_or table 0 0) where
  pub begins_few : (at : ℕ) → at ≡ till_at (shape_of table) t → at ≤ 1051720
  unfolding shape_of
  begins_few at e =
      let (a, b) = sizes t (get_or table 1 0) (get_or table 2 0) (omega (arith, n, (header h).tills)) (header h).versions (header h).blocks in
      omega (arith, e, b)

  pub word_at : (at : ℕ) → at ≡ till_at (shape_of table) t → RightsAt table t (at + 2)
  word_at at e = record {
    is = ap (λ (k : ℕ). k + 2) e;
    inside = omega (arith, e, in_words h t n);
    most = omega (arith, begins_few at e);
  }

module _ {pool table : List ℕ} (h : Sound pool table) (t : ℕ) (n : t < get_or table 0 0) (at : ℕ) (o : RightsAt table t at) where
  rights_count : length (till h t n).rights ≡ staff
  unfolding is_till
  rights_count = eqb-true _ _ (clause _ 2 (is_till_lem h t n))

  rights_word_lem : get_or table (at) 0 ≡ rights_word (till h t n).rights
  unfolding till_to_words
  rights_word_lem =
      ap (λ (k : ℕ). get_or table k 0) o.is
      ∙ sym (part_get table (till_at (shape_of table) t) (till_words (get_or table 1 0) (get_or table 2 0)) 2 0 (omega arith))
      ∙ ap (λ (ws : List ℕ). get_or ws 2 0) (till_words_lem h t n)

  pub word_few : get_or table (at) 0 < 268435456
  word_few = omega (arith, rights_word_lem, rights_lt (till h t n).rights rights_count)

  pub rights_read : rights_in staff (get_or table (at) 0) ≡ (till h t n).rights
  rights_read = ap (rights_in staff) rights_word_lem ∙ rights_back staff (till h t n).rights rights_count

  pub rights_put : (subject : ℕ) (r : Rights) (w : ℕ) → w ≡ rights_word (set (till h t n).rights (subject - 1) r)
      → set table (at) w ≡ state_to_words (shape_of table) (with_till (state_in (shape_of table) pool table) t (with_rights (till h t n) subject r) (state_in (shape_of table) pool table).storage)
  unfolding with_till with_rights till_to_words shape_of
  rights_put subject r w q =
      ap (λ (k : ℕ). set table k w) o.is
      ∙ put_inside table (till_at (shape_of table) t) (till_words (get_or table 1 0) (get_or table 2 0)) 2 w (omega (arith, in_words h t n)) (omega arith)
      ∙ ap (λ (ws : List ℕ). take (till_at (shape_of table) t) table ++ (set ws 2 w ++ drop (till_words (get_or table 1 0) (get_or table 2 0)) (drop (till_at (shape_of table) t) table))) (till_words_lem h t n)
      ∙ ap (λ (x : ℕ). take (till_at (shape_of table) t) table ++ (set (till_to_words (get_or table 1 0) (get_or table 2 0) (till h t n)) 2 x ++ drop (till_words (get_or table 1 0) (get_or table 2 0)) (drop (till_at (shape_of table) t) table))) q
      ∙ subst (λ (ws : List ℕ). take (till_at (shape_of table) t) ws ++ (till_to_words (get_or table 1 0) (get_or table 2 0) (with_rights (till h t n) subject r) ++ drop (till_words (get_or table 1 0) (get_or table 2 0)) (drop (till_at (shape_of table) t) ws)) ≡ state_to_words (shape_of table) (with_till (state_in (shape_of table) pool table) t (with_rights (till h t n) subject r) (state_in (shape_of table) pool table).storage))
      (found h).words (till_put (shape_of table) (state_in (shape_of table) pool table) t (there h t n) (with_rights (till h t n) subject r))

  -- what one of the staff may
  pub judged : (user : ℕ) (right : Right) (b : Bool) → 0 < user → user ≤ staff → b ≡ has right (get_or (rights_in staff (get_or table (at) 0)) (user - 1) no_rights)
      → cond b 0 23 ≡ refusal_for (store_of pool table) user t right
  judged user right b z l q =
      ap (λ (x : Bool). cond x 0 23) (q ∙ ap (λ (rs : List Rights). has right (get_or rs (user - 1) no_rights)) rights_read) ∙ by_right h user t right n z l

-- ---- the answer

module _ {pool table : List ℕ} (h : Sound pool table) (user subject t : ℕ) (r : Rights) where
  abbrev old : State
  old = state_in (shape_of table) pool table

  abbrev new : State
  new = with_till old t (with_rights (till_of old t) subject r) old.storage

  pub refused_set : (k : ℕ) → k ≡ set_refusal table user subject t → ¬ (k ≡ 0) → rights_answered k table ≡ set_rights_of pool table user subject t r
  unfolding set_rights_of set_rights_in set_rights rights_answer shape_of
  refused_set k e z = rw h.is (go (leb (get_or table 0 0) t) (ltb staff user || (eqb subject 0 || ltb staff subject)) (ltb 0 user) k e z)
    where
      go : (a b c : Bool) (k : ℕ) → k ≡ cond a 3 (cond b 22 (cond c 23 0)) → ¬ (k ≡ 0)
          → rights_answered k table ≡ rights_answer table (shape_of table) (cond a (refused 3) (cond b (refused 22) (cond c (refused 23) (done (record { state = new; answer = 0 })))))
      go true b c k e z = ap (λ (x : ℕ). rights_answered x table) e
      go false true c k e z = ap (λ (x : ℕ). rights_answered x table) e
      go false false true k e z = ap (λ (x : ℕ). rights_answered x table) e
      go false false false k e z = absurd (z e)

  -- what holds where there is no refusal
  pub record Accepted : Type 0 where
    pub there : t < get_or table 0 0
    pub some : 0 < subject
    pub few : subject ≤ staff

  pub accepted : 0 ≡ set_refusal table user subject t → Accepted
  accepted e = go (leb (get_or table 0 0) t) (ltb staff user) (eqb subject 0) (ltb staff subject) (ltb 0 user) refl refl refl e
    where
      go : (a b c d f : Bool) → leb (get_or table 0 0) t ≡ a → eqb subject 0 ≡ c → ltb staff subject ≡ d → ◌≡◌ {A = ℕ} 0 (cond a 3 (cond (b || (c || d)) 22 (cond f 23 0))) → Accepted
      go true b c d f i j k e = absurd (omega (arith, e))
      go false true c d f i j k e = absurd (omega (arith, e))
      go false false true d f i j k e = absurd (omega (arith, e))
      go false false false true f i j k e = absurd (omega (arith, e))
      go false false false false f i j k e = record {
        there = leb-false (get_or table 0 0) t i;
        some = omega (arith, eqb-false subject 0 j);
        few = ltb-false staff subject k;
      }

  pub accepted_set : 0 ≡ set_refusal table user subject t → (ws : List ℕ) → ws ≡ state_to_words (shape_of table) new → rights_answered 0 ws ≡ set_rights_of pool table user subject t r
  unfolding set_rights_of set_rights_in set_rights rights_answer shape_of
  accepted_set e ws q = rw h.is (go (leb (get_or table 0 0) t) (ltb staff user || (eqb subject 0 || ltb staff subject)) (ltb 0 user) e)
    where
      go : (a b c : Bool) → ◌≡◌ {A = ℕ} 0 (cond a 3 (cond b 22 (cond c 23 0)))
          → rights_answered 0 ws ≡ rights_answer table (shape_of table) (cond a (refused 3) (cond b (refused 22) (cond c (refused 23) (done (record { state = new; answer = 0 })))))
      go true b c e = absurd (omega (arith, e))
      go false true c e = absurd (omega (arith, e))
      go false false true e = absurd (omega (arith, e))
      go false false false e = ap (rights_answered 0) q
