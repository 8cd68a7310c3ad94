-- §10, "Two tills closing together": "Lines arrive in either order." One claim, `EitherOrder`; proofs/Together.antt has its proof.
use Rattle.std.specs.Prelude.{ℕ, ◌≡◌, List, [], ◌∷◌}
use Rattle.std.proofs.Math.Option.{some}
use Rattle.model.specs.Measures.{Shape}
use Rattle.model.specs.State.{Storage, Version}
use Rattle.model.specs.Trace.{image_of, longest_chain}
use Rattle.model.specs.Sound.{Store, store_of}
use Rattle.model.specs.Calls.{layout_of, till_of}
use Rattle.history.specs.Calls.{Call, call_layout, call_backup, call_restore, call_retire, call_listing, call_version_on, call_tally, call_bill, call_write_stream, call_offer, call_backup_sent, call_backup_all, call_set_rights, Buffers, till_named}
use Rattle.history.specs.Users.{UserCall, buffers_by, answer_by, refusal_by, buffers_after_all, refused_layouts}
use Rattle.history.specs.Demand.{laid_out_in}

-- "each a backup of a full image, restore or retire"; a backup was made before blank blocks were known, or with them
abbrev pub IsBackupRestoreOrRetire : Call → Type 0
IsBackupRestoreOrRetire (call_layout c) = ⊥
IsBackupRestoreOrRetire (call_backup era t d image) = Unit {0}
IsBackupRestoreOrRetire (call_restore t v output) = Unit {0}
IsBackupRestoreOrRetire (call_retire t v) = Unit {0}
IsBackupRestoreOrRetire (call_listing t) = ⊥
IsBackupRestoreOrRetire (call_version_on t day) = ⊥
IsBackupRestoreOrRetire call_tally = ⊥
IsBackupRestoreOrRetire (call_bill price) = ⊥
IsBackupRestoreOrRetire (call_write_stream t v output) = ⊥
IsBackupRestoreOrRetire (call_offer t fs ms) = ⊥
IsBackupRestoreOrRetire (call_backup_sent t n fs ms ss) = ⊥
IsBackupRestoreOrRetire (call_backup_all ts ns is) = ⊥
IsBackupRestoreOrRetire (call_set_rights subject t r) = ⊥

-- the first is accepted, and then the second
abbrev pub AcceptedInTurn : Buffers → UserCall → UserCall → Type 0
AcceptedInTurn b first second =
    (refusal_by b first.user first.call ≡ 0) × (refusal_by (buffers_by b first.user first.call) second.user second.call ≡ 0)

-- a version that a till holds: its number, its length, its day, its image and its longest chain
pub record HeldVersion : Type 0 where
  pub number : ℕ
  pub length : ℕ
  pub day : ℕ
  pub image : List ℕ
  pub chain : ℕ

-- the versions of a till, the oldest first
unfoldable pub held_versions : ℕ → Storage → List Version → List HeldVersion
held_versions bytes storage [] = []
held_versions bytes storage (v ∷ newer) =
    record { number = v.number; length = v.length; day = v.day; image = image_of bytes storage (v ∷ newer); chain = longest_chain (v ∷ newer) } ∷ held_versions bytes storage newer

-- what till `t` of a store holds
unfoldable pub held_by : Store → ℕ → List HeldVersion
held_by store t = held_versions store.shape.measures.block_bytes store.state.storage (till_of store.state t).versions

-- Both are stores, and their tills hold the same. Nothing is said of cells and records, which "may differ".
pub record SameTills (b b' : Buffers) : Type 0 where
  pub one : Store
  pub other : Store
  pub is_one : store_of b.pool b.table ≡ some one
  pub is_other : store_of b'.pool b'.table ≡ some other
  -- "the tills then hold the same numbers, lengths and images and every version has the same longest chain"; §13: and the same days
  pub held : (t : ℕ) → held_by one t ≡ held_by other t
  -- so every restore answers the same and leaves the same output, and every listing answers the same
  pub restores : (u t v : ℕ) (output : List ℕ) → answer_by b u (call_restore t v output) ≡ answer_by b' u (call_restore t v output)
  pub listings : (u t : ℕ) → answer_by b u (call_listing t) ≡ answer_by b' u (call_listing t)

-- "For two calls on different tills, … accepted in both orders"
abbrev pub OrderFree : Buffers → Type 0
OrderFree b =
    (c d : UserCall) → IsBackupRestoreOrRetire c.call → IsBackupRestoreOrRetire d.call
    → ¬ (till_named c.call ≡ till_named d.call)
    → AcceptedInTurn b c d
    → AcceptedInTurn b d c
    → SameTills (buffers_after_all b (c ∷ d ∷ [])) (buffers_after_all b (d ∷ c ∷ []))

-- The claim: on every store that a list of calls leaves, from any accepted lay out, as in demand 3.
abbrev pub EitherOrder : Type 0
EitherOrder =
    (s : Shape) (pool table : List ℕ) (calls : List UserCall) → (layout_of s pool table).refusal ≡ 0 → refused_layouts (laid_out_in s pool table) calls
    → OrderFree (buffers_after_all (laid_out_in s pool table) calls)
