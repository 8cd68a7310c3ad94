-- The frame law: a plain call changes what its own till shows, as a function of what that till showed and the call's arguments, and no other till's. (A
-- second message of §5 and a closing of §7 are the backups that they come to.) For any measures whose blocks and segments are not empty.
use mathlib.Core.Path.{◌≡◌, refl}
use mathlib.Core.Bool.{true}
use mathlib.Core.List.{List}
use mathlib.Core.Option.{Option}
use Prim.Native.Nat.{ℕ}
use native.Mathlib.Omega.{arith}
use lib.Dec.{eqb}
use borrow.Author.Tests.{ne_eqb}
use Rattle.model.specs.Measures.{Shape}
use Rattle.model.specs.Image.{Era}
use Rattle.model.specs.State.{Rights, State, Outcome, refused, done}
use Rattle.model.specs.Sound.{is_sound}
use Rattle.model.specs.Calls.{backup, retire, After, state_or, outcome_refusal}
use Rattle.model.specs.Rights.{set_rights}
use Rattle.laws.proofs.Fits.{Proper}
use Rattle.laws.proofs.Backup.{backup_filed}
use Rattle.laws.proofs.Retire.{retire_done}
use Rattle.laws.proofs.Keys.{rights_set_lem}
use Rattle.history.specs.Calls.{Call, call_layout, call_backup, call_restore, call_retire, call_listing, call_version_on, call_tally, call_bill, call_write_stream, call_offer, call_backup_sent, call_backup_all, call_set_rights, refusal_in, till_named}
use Rattle.history.proofs.Calls.{state_after, answer_in, is_accepted}
use Rattle.history.proofs.View.{view_at, changed, IsPlain}
use Rattle.history.proofs.Filing.{filed_own, filed_other, retired_own, retired_other, rights_own, rights_other}
use Rattle.history.proofs.Numbered.{Numbered, backup_numbered, retire_numbered, rights_numbered}

module _ (s : Shape) (pr : Proper s.measures) (st : State) (h : is_sound s st ≡ true) where
  backup_own : (era : Era) (t : ℕ) (d : Option ℕ) (image : List ℕ) (o : Outcome After) → Numbered o → backup era s st t d image ≡ o
      → view_at s.measures.block_bytes (state_or st o) t
      ≡ changed s.measures.block_bytes (call_backup era t d image) (eqb (outcome_refusal o) 0) (view_at s.measures.block_bytes st t)
  unfolding state_or changed outcome_refusal
  backup_own era t d image (refused n) g q = rw (ne_eqb n 0 (λ z. omega (arith, g, z))) refl
  backup_own era t d image (done a) g q = filed_own era s pr st h t d image a (backup_filed era s pr t d image st a h q)

  retire_own : (t v : ℕ) (o : Outcome After) → Numbered o → retire s st t v ≡ o
      → view_at s.measures.block_bytes (state_or st o) t
      ≡ changed s.measures.block_bytes (call_retire t v) (eqb (outcome_refusal o) 0) (view_at s.measures.block_bytes st t)
  unfolding state_or changed outcome_refusal
  retire_own t v (refused n) g q = rw (ne_eqb n 0 (λ z. omega (arith, g, z))) refl
  retire_own t v (done a) g q = retired_own s st t v a (retire_done s t v st a h q)

  set_own : (subject t : ℕ) (r : Rights) (o : Outcome After) → Numbered o → set_rights s st 0 subject t r ≡ o
      → view_at s.measures.block_bytes (state_or st o) t
      ≡ changed s.measures.block_bytes (call_set_rights subject t r) (eqb (outcome_refusal o) 0) (view_at s.measures.block_bytes st t)
  unfolding state_or changed outcome_refusal
  set_own subject t r (refused n) g q = rw (ne_eqb n 0 (λ z. omega (arith, g, z))) refl
  set_own subject t r (done a) g q = rights_own s st subject t r a (rights_set_lem s st 0 subject t r a h q)

  -- the till that the call is on
  pub frame_own : (call : Call) → IsPlain call
      → view_at s.measures.block_bytes (state_after s st call) (till_named call)
      ≡ changed s.measures.block_bytes call (is_accepted s st call) (view_at s.measures.block_bytes st (till_named call))
  unfolding state_after changed is_accepted answer_in refusal_in till_named
  frame_own (call_layout c) p = refl
  frame_own (call_backup era t d image) p = backup_own era t d image (backup era s st t d image) (backup_numbered era s st t d image) refl
  frame_own (call_restore t v output) p = refl
  frame_own (call_retire t v) p = retire_own t v (retire s st t v) (retire_numbered s st t v) refl
  frame_own (call_listing t) p = refl
  frame_own (call_version_on t day) p = refl
  frame_own call_tally p = refl
  frame_own (call_bill price) p = refl
  frame_own (call_write_stream t v output) p = refl
  frame_own (call_offer t fs ms) p = refl
  frame_own (call_backup_sent t n fs ms ss) p = absurd p
  frame_own (call_backup_all ts ns is) p = absurd p
  frame_own (call_set_rights subject t r) p = set_own subject t r (set_rights s st 0 subject t r) (rights_numbered s st 0 subject t r) refl

  backup_other : (era : Era) (t : ℕ) (d : Option ℕ) (image : List ℕ) (u : ℕ) → (u ≡ t → ⊥) → (o : Outcome After) → backup era s st t d image ≡ o
      → view_at s.measures.block_bytes (state_or st o) u ≡ view_at s.measures.block_bytes st u
  unfolding state_or
  backup_other era t d image u ne (refused n) q = refl
  backup_other era t d image u ne (done a) q = filed_other era s pr st h t d image a (backup_filed era s pr t d image st a h q) u ne

  retire_other : (t v u : ℕ) → (u ≡ t → ⊥) → (o : Outcome After) → retire s st t v ≡ o
      → view_at s.measures.block_bytes (state_or st o) u ≡ view_at s.measures.block_bytes st u
  unfolding state_or
  retire_other t v u ne (refused n) q = refl
  retire_other t v u ne (done a) q = retired_other s st t v a (retire_done s t v st a h q) u ne

  set_other : (subject t : ℕ) (r : Rights) (u : ℕ) → (u ≡ t → ⊥) → (o : Outcome After) → set_rights s st 0 subject t r ≡ o
      → view_at s.measures.block_bytes (state_or st o) u ≡ view_at s.measures.block_bytes st u
  unfolding state_or
  set_other subject t r u ne (refused n) q = refl
  set_other subject t r u ne (done a) q = rights_other s st subject t r a (rights_set_lem s st 0 subject t r a h q) u ne

  -- any other till
  pub frame_other : (call : Call) → IsPlain call → (u : ℕ) → (u ≡ till_named call → ⊥)
      → view_at s.measures.block_bytes (state_after s st call) u ≡ view_at s.measures.block_bytes st u
  unfolding state_after till_named
  frame_other (call_layout c) p u ne = refl
  frame_other (call_backup era t d image) p u ne = backup_other era t d image u ne (backup era s st t d image) refl
  frame_other (call_restore t v output) p u ne = refl
  frame_other (call_retire t v) p u ne = retire_other t v u ne (retire s st t v) refl
  frame_other (call_listing t) p u ne = refl
  frame_other (call_version_on t day) p u ne = refl
  frame_other call_tally p u ne = refl
  frame_other (call_bill price) p u ne = refl
  frame_other (call_write_stream t v output) p u ne = refl
  frame_other (call_offer t fs ms) p u ne = refl
  frame_other (call_backup_sent t n fs ms ss) p u ne = absurd p
  frame_other (call_backup_all ts ns is) p u ne = absurd p
  frame_other (call_set_rights subject t r) p u ne = set_other subject t r u ne (set_rights s st 0 subject t r) refl
