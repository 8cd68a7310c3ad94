-- What the limit does to a backup's answer: nothing to a refusal, nothing for a store alone; and it commutes with the user's refusals.
use mathlib.Core.Path.{◌≡◌, refl, sym, ap, ◌∙◌}
use mathlib.Core.Bool.{Bool, true, false, cond}
use mathlib.Core.List.{List, [], ◌∷◌}
use mathlib.Core.Option.{Option, none, some}
use Prim.Native.Nat.{ℕ, ◌+◌, ◌≤◌, zero-le}
use native.Mathlib.Omega.{arith}
use lib.ListN.{length}
use lib.Dec.{eqb, ltb}
use borrow.Author.Tests.{eq-eqb, ne_eqb, le-ltb}
use Rattle.lists.specs.Lists.{counted, all_of, is_in}
use Rattle.lists.proofs.Counted.{length_counted}
use Rattle.lists.proofs.Counts.{count_most}
use Rattle.lists.proofs.Tests.{cond_self, cond_never}
use Rattle.model.specs.Image.{Era}
use Rattle.model.specs.Measures.{Shape}
use Rattle.model.specs.Records.{named_cells}
use Rattle.model.specs.State.{State, done}
use Rattle.model.specs.Sound.{is_sound, Store, store_of}
use Rattle.model.specs.Calls.{BackupAnswer, After, state_or, backup, backup_answer, backup_in, backup_by, tally_in, tally_of}
use Rattle.model.specs.Rights.{to_back_up, refusal_for, unless, backup_refusal, backup_as}
use Rattle.laws.proofs.Calls.{backup_store}
use Rattle.laws.proofs.Named.{named_count}
use Rattle.laws.proofs.Ranges.{ranges}
use Rattle.laws.proofs.RoundTrip.{store_found}
use Rattle.laws.proofs.Serves.{sound_valid}
use Rattle.closing.specs.Closing.{TillImage, images_in, closing_fits, backup_all, all_refused, all_answer, backup_all_answer, backup_all_in, backup_all_as}
use Rattle.closing.specs.Singly.{SinglyMade, made_each, image_backup, answer_to}
use Rattle.closing.proofs.Singly.{closing_is_singly}
use Rattle.chain.specs.Limit.{occupied, within, image_within, backup_all_within}

-- ---- the cells that a store occupies

pub occupied_is : (pool table : List ℕ) (x : Store) → store_of pool table ≡ some x → occupied pool table ≡ length (named_cells x.state.storage.records)
unfolding occupied tally_of tally_in
occupied_is pool table x e = ap (λ (o : Option Store). (tally_in o).cells) e

named_most : (s : Shape) (st : State) → is_sound s st ≡ true → length (named_cells st.storage.records) ≤ 32768
named_most s st h =
    omega (
      arith,
      named_count s st h,
      count_most (λ c. is_in c (named_cells st.storage.records)) (counted (λ c. c) 0 s.capacities.cells),
      length_counted (λ c. c) 0 s.capacities.cells,
      (ranges s (sound_valid s st h).range).cells,
    )

-- at most as many as a pool has
pub occupied_most : (pool table : List ℕ) → occupied pool table ≤ 32768
unfolding occupied tally_of
occupied_most pool table = go (store_of pool table) refl
  where
    go : (o : Option Store) → store_of pool table ≡ o → (tally_in o).cells ≤ 32768
    go none e = unfold tally_in in zero-le
    go (some x) e = unfold tally_in in named_most x.shape x.state (store_found pool table x e).sound

-- ---- the limit

module _ (others limit : ℕ) (pool table : List ℕ) where
  -- a refusal stays
  pub within_refused : (a : BackupAnswer) → ¬ (a.refusal ≡ 0) → within others limit pool table a ≡ a
  unfolding within all_of
  within_refused a h = rw (ne_eqb a.refusal 0 h)

  pub within_still : (x a : BackupAnswer) → x ≡ a → ¬ (x.refusal ≡ 0) → x ≡ within others limit pool table a
  within_still x a e h = e ∙ sym (within_refused a (λ q. h (ap (λ (y : BackupAnswer). y.refusal) e ∙ q)))

  -- what is accepted is tested
  pub within_accepted : (a : BackupAnswer) → a.refusal ≡ 0
      → within others limit pool table a ≡ cond (ltb limit (others + occupied a.pool a.table)) (backup_refusal pool table 21) a
  unfolding within all_of
  within_accepted a e = rw (eq-eqb a.refusal 0 e, cond_self (ltb limit (others + occupied a.pool a.table)))

  pub within_unless : (n : ℕ) (a : BackupAnswer) → within others limit pool table (unless n (backup_refusal pool table) a) ≡ unless n (backup_refusal pool table) (within others limit pool table a)
  within_unless n a = go (eqb n 0) refl
    where
      go : (b : Bool) → eqb n 0 ≡ b → within others limit pool table (cond b a (backup_refusal pool table n)) ≡ cond b (within others limit pool table a) (backup_refusal pool table n)
      go true e = refl
      go false e = unfold within backup_refusal all_of in rw e

  -- a user's backup: the user's refusals come first
  pub within_as : (era : Era) (user t : ℕ) (brought : Option ℕ) (image : List ℕ)
      → within others limit pool table (backup_as era pool table user t brought image)
      ≡ unless (refusal_for (store_of pool table) user t to_back_up) (backup_refusal pool table) (within others limit pool table (backup_by era pool table t brought image))
  unfolding backup_as
  within_as era user t brought image = within_unless (refusal_for (store_of pool table) user t to_back_up) (backup_by era pool table t brought image)

  -- it leaves what the backup leaves, or nothing altered
  pub within_either : (P : List ℕ → List ℕ → Type 0) (a : BackupAnswer) → P a.pool a.table → P pool table → P (within others limit pool table a).pool (within others limit pool table a).table
  unfolding within backup_refusal
  within_either P a h k = go (all_of (eqb a.refusal 0 ∷ ltb limit (others + occupied a.pool a.table) ∷ []))
    where
      go : (b : Bool) → P (cond b (record { refusal = 21; version = 0; pool = pool; table = table }) a).pool (cond b (record { refusal = 21; version = 0; pool = pool; table = table }) a).table
      go true = k
      go false = h

  module _ (x : Store) (e : store_of pool table ≡ some x) where
    -- an accepted backup of a sound store is tested by the cells of the state that it leaves
    pub within_done : (era : Era) (t : ℕ) (brought : Option ℕ) (image : List ℕ) (a : After) → backup era x.shape x.state t brought image ≡ done a
        → within others limit pool table (backup_by era pool table t brought image)
        ≡ cond (ltb limit (others + length (named_cells a.state.storage.records))) (backup_refusal pool table 21) (backup_by era pool table t brought image)
    unfolding state_or
    within_done era t brought image a q =
        within_accepted (backup_by era pool table t brought image) (unfold backup_by backup_in backup_answer in rw (e, q))
        ∙ ap (λ (n : ℕ). cond (ltb limit (others + n)) (backup_refusal pool table 21) (backup_by era pool table t brought image))
        (occupied_is _ _ _ (rw q at (backup_store pool table x e era t brought image)))

-- ---- a store alone

-- no sum of cells is above 4,294,967,295
pub within_none : (pool table : List ℕ) (a : BackupAnswer) → within 0 4294967295 pool table a ≡ a
unfolding within all_of
within_none pool table a =
    let few : ltb 4294967295 (0 + occupied a.pool a.table) ≡ false = le-ltb 4294967295 (0 + occupied a.pool a.table) (omega (arith, occupied_most a.pool a.table)) in
    rw (few, cond_never (eqb a.refusal 0))

same_each : (f g : List ℕ → List ℕ → TillImage → BackupAnswer) → ((pool table : List ℕ) (x : TillImage) → f pool table x ≡ g pool table x)
    → (pool table : List ℕ) (xs : List TillImage) → made_each f pool table xs ≡ made_each g pool table xs
unfolding made_each
same_each f g h pool table [] = refl
same_each f g h pool table (x ∷ xs) =
    ap (λ (a : BackupAnswer). ahead a (made_each f a.pool a.table xs)) (h pool table x)
    ∙ ap (ahead (g pool table x)) (same_each f g h (g pool table x).pool (g pool table x).table xs)
  where
    ahead : BackupAnswer → SinglyMade → SinglyMade
    ahead a m = record { refusals = a.refusal ∷ m.refusals; versions = a.version ∷ m.versions; pool = m.pool; table = m.table }

pub all_none : (pool table : List ℕ) (user : ℕ) (tills lengths images : List ℕ) (x : Store) → store_of pool table ≡ some x
    → backup_all_within 0 4294967295 pool table user tills lengths images ≡ backup_all_as pool table user tills lengths images
unfolding backup_all_within
all_none pool table user tills lengths images x e = go (closing_fits tills lengths images) refl
  where
    go : (b : Bool) → closing_fits tills lengths images ≡ b
        → cond b (answer_to (made_each (image_within 0 4294967295 user) pool table (images_in tills lengths images))) (record { answer = all_refused 4; pool = pool; table = table })
        ≡ backup_all_as pool table user tills lengths images
    go true f =
        ap answer_to (same_each (image_within 0 4294967295 user) (image_backup user) (λ p t y. unfold image_within in within_none p t (image_backup user p t y)) pool table (images_in tills lengths images))
        ∙ sym (closing_is_singly pool table user tills lengths images (unfold backup_all_as backup_all_in backup_all backup_all_answer all_answer in rw (e, f)))
    go false f = unfold backup_all_as backup_all_in backup_all backup_all_answer in rw (e, f)
