-- A sound store's calls leave a sound store, on the buffers: whatever is backed up or retired, accepted or refused.
use mathlib.Core.Path.{◌≡◌, refl}
use mathlib.Core.Bool.{Bool, true, false, cond}
use mathlib.Core.List.{List}
use mathlib.Core.Option.{Option, some}
use Prim.Native.Nat.{ℕ}
use lib.Dec.{eqb}
use Rattle.model.specs.Measures.{Shape}
use Rattle.model.specs.Image.{Era}
use Rattle.model.specs.State.{State, Outcome, refused, done}
use Rattle.model.specs.Table.{state_to_words, state_to_bytes}
use Rattle.model.specs.Sound.{is_sound, Store, store_of}
use Rattle.model.specs.Rights.{to_back_up, refusal_for, refusal_at, unless, backup_refusal, backup_as}
use Rattle.model.specs.Calls.{layout_of, empty_state, backup, backup_answer, backup_in, backup_by, retire, retire_answer, retire_in, retire_of, After, state_or}
use Rattle.laws.proofs.Fits.{Fit, range_fit}
use Rattle.laws.proofs.Serves.{sound_valid}
use Rattle.laws.proofs.RoundTrip.{round_trip, store_found}
use Rattle.laws.proofs.Empty.{empty_sound, layout_accepted}
use Rattle.laws.proofs.Backup.{backup_sound}
use Rattle.laws.proofs.Retire.{retire_sound}

-- the buffers are a sound store
pub record IsStore (pool table : List ℕ) : Type 0 where
  pub store : Store
  pub is : store_of pool table ≡ some store

left : (s : Shape) (st : State) → Fit s → is_sound s st ≡ true → IsStore (state_to_bytes st) (state_to_words s st)
left s st fit h = record { store = record { shape = s; state = st }; is = round_trip s st fit h }

pub layout_leaves : (s : Shape) (pool table : List ℕ) → (layout_of s pool table).refusal ≡ 0
    → IsStore (layout_of s pool table).pool (layout_of s pool table).table
layout_leaves s pool table h =
    let a = layout_accepted s pool table h in rw (a.1, a.2) (left s (empty_state s) (range_fit s a.0) (empty_sound s a.0))

module _ (pool table : List ℕ) (x : Store) (e : store_of pool table ≡ some x) where
  fit : Fit x.shape
  fit = range_fit x.shape (sound_valid x.shape x.state (store_found pool table x e).sound).range

  -- the store that a backup leaves
  pub backup_store : (era : Era) (t : ℕ) (brought : Option ℕ) (image : List ℕ)
      → store_of (backup_by era pool table t brought image).pool (backup_by era pool table t brought image).table
      ≡ some (record { shape = x.shape; state = state_or x.state (backup era x.shape x.state t brought image) })
  unfolding backup_by backup_in
  backup_store era t brought image = rw e (go (backup era x.shape x.state t brought image) refl)
    where
      go : (o : Outcome After) → backup era x.shape x.state t brought image ≡ o
          → store_of (backup_answer pool table x.shape o).pool (backup_answer pool table x.shape o).table ≡ some (record { shape = x.shape; state = state_or x.state o })
      go (refused n) q = unfold backup_answer state_or in e
      go (done a) q =
          unfold backup_answer state_or in
          round_trip x.shape a.state fit (backup_sound era x.shape fit.proper t brought image x.state a (store_found pool table x e).sound q)

  pub backup_leaves : (era : Era) (t : ℕ) (brought : Option ℕ) (image : List ℕ) → IsStore (backup_by era pool table t brought image).pool (backup_by era pool table t brought image).table
  backup_leaves era t brought image = record {
    store = record { shape = x.shape; state = state_or x.state (backup era x.shape x.state t brought image) };
    is = backup_store era t brought image;
  }

  -- a user's backup is the backup, or 22 or 23
  pub backup_as_lem : (era : Era) (user t : ℕ) (brought : Option ℕ) (image : List ℕ)
      → backup_as era pool table user t brought image
      ≡ backup_answer pool table x.shape (unless (refusal_at x.shape x.state user t to_back_up) refused (backup era x.shape x.state t brought image))
  unfolding backup_as refusal_for backup_by backup_in backup_refusal
  backup_as_lem era user t brought image = rw e (go (refusal_at x.shape x.state user t to_back_up) (eqb (refusal_at x.shape x.state user t to_back_up) 0) (backup era x.shape x.state t brought image))
    where
      go : (n : ℕ) (b : Bool) (o : Outcome After)
          → cond b (backup_answer pool table x.shape o) (record { refusal = n; version = 0; pool = pool; table = table }) ≡ backup_answer pool table x.shape (cond b o (refused n))
      go n true o = refl
      go n false o = unfold backup_answer in refl

  pub backup_as_store : (era : Era) (user t : ℕ) (brought : Option ℕ) (image : List ℕ)
      → store_of (backup_as era pool table user t brought image).pool (backup_as era pool table user t brought image).table
      ≡ some (record { shape = x.shape; state = state_or x.state (unless (refusal_at x.shape x.state user t to_back_up) refused (backup era x.shape x.state t brought image)) })
  unfolding backup_as refusal_for backup_refusal
  backup_as_store era user t brought image = rw e (go (eqb (refusal_at x.shape x.state user t to_back_up) 0))
    where
      go : (b : Bool)
          → store_of (cond b (backup_by era pool table t brought image) (record { refusal = refusal_at x.shape x.state user t to_back_up; version = 0; pool = pool; table = table })).pool
          (cond b (backup_by era pool table t brought image) (record { refusal = refusal_at x.shape x.state user t to_back_up; version = 0; pool = pool; table = table })).table
          ≡ some (record { shape = x.shape; state = state_or x.state (cond b (backup era x.shape x.state t brought image) (refused (refusal_at x.shape x.state user t to_back_up))) })
      go true = backup_store era t brought image
      go false = unfold state_or in e

  pub retire_leaves : (t v : ℕ) → IsStore (retire_of pool table t v).pool (retire_of pool table t v).table
  unfolding retire_of retire_in
  retire_leaves t v = rw e (go (retire x.shape x.state t v) refl)
    where
      go : (o : Outcome After) → retire x.shape x.state t v ≡ o
          → IsStore (retire_answer pool table x.shape o).pool (retire_answer pool table x.shape o).table
      go (refused n) q = unfold retire_answer in record { store = x; is = e }
      go (done a) q = unfold retire_answer in left x.shape a.state fit (retire_sound x.shape t v x.state a (store_found pool table x e).sound q)
