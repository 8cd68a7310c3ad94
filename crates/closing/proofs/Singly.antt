-- A closing is backups made singly: from a sound store the fold over states and that over buffers agree.
use mathlib.Core.Path.{◌≡◌, refl, sym, ap, ap₂, ◌∙◌}
use mathlib.Core.Bool.{Bool, true, false, cond}
use mathlib.Core.List.{List, [], ◌∷◌}
use mathlib.Core.Option.{Option, none, some}
use Prim.Native.Nat.{ℕ}
use native.Mathlib.Nat.{suc-ne-zero}
use Rattle.model.specs.State.{Outcome, refused, done}
use Rattle.model.specs.Image.{with_blanks}
use Rattle.model.specs.Table.{state_to_words, state_to_bytes}
use Rattle.model.specs.Measures.{Shape}
use Rattle.model.specs.Sound.{Store, store_of}
use Rattle.model.specs.Calls.{After, state_or, outcome_refusal, outcome_number, backup_answer, BackupAnswer}
use Rattle.model.specs.Rights.{backup_as}
use Rattle.laws.proofs.RoundTrip.{store_found}
use Rattle.laws.proofs.Calls.{backup_as_lem, backup_as_store}
use Rattle.closing.specs.Closing.{TillImage, images_in, closing_fits, Closed, backup_one, backup_each, backup_all, all_refused, all_answer, backup_all_answer, backup_all_in, backup_all_as}
use Rattle.closing.specs.Singly.{SinglyMade, made_each, made_singly, answer_to, ClosingIsSingly}

answer_is : (pool table : List ℕ) (s : Shape) (o : Outcome After)
    → ((backup_answer pool table s o).refusal ≡ outcome_refusal o) × ((backup_answer pool table s o).version ≡ outcome_number o)
unfolding backup_answer outcome_refusal outcome_number
answer_is pool table s (refused n) = (refl, refl)
answer_is pool table s (done a) = (refl, refl)

-- a state in buffers
unfoldable pub made : Shape → Closed → SinglyMade
made s c = record { refusals = c.refusals; versions = c.versions; pool = state_to_bytes c.state; table = state_to_words s c.state }

pub each_made : (user : ℕ) (xs : List TillImage) (pool table : List ℕ) (x : Store) → store_of pool table ≡ some x
    → made_singly pool table user xs ≡ made x.shape (backup_each x.shape x.state user xs)
unfolding made_each backup_each made
each_made user [] pool table x e =
    let f = store_found pool table x e in
    ap₂ (λ (p t : List ℕ). record { refusals = []; versions = []; pool = p; table = t }) (sym f.bytes) (sym f.words)
each_made user (y ∷ ys) pool table x e =
    let o : Outcome After = backup_one x.shape x.state user y in
    let a : BackupAnswer = backup_as with_blanks pool table user y.till none y.image in
    let is : a ≡ backup_answer pool table x.shape o = unfold backup_one in backup_as_lem pool table x e with_blanks user y.till none y.image in
    let are : (a.refusal ≡ outcome_refusal o) × (a.version ≡ outcome_number o) = rw is (answer_is pool table x.shape o) in
    let later : made_singly a.pool a.table user ys ≡ made x.shape (backup_each x.shape (state_or x.state o) user ys) =
    each_made user ys a.pool a.table (record { shape = x.shape; state = state_or x.state o }) (unfold backup_one in backup_as_store pool table x e with_blanks user y.till none y.image) in
    ap₂ (λ (n v : ℕ). ahead n v (made_singly a.pool a.table user ys)) are.0 are.1 ∙ ap (ahead (outcome_refusal o) (outcome_number o)) later
  where
    ahead : ℕ → ℕ → SinglyMade → SinglyMade
    ahead n v m = record { refusals = n ∷ m.refusals; versions = v ∷ m.versions; pool = m.pool; table = m.table }

-- what is not refused whole
fits_singly : (fit : Bool) (user : ℕ) (pool table tills lengths bytes : List ℕ) (x : Store) → store_of pool table ≡ some x
    → (backup_all_answer pool table x.shape (cond fit (done (backup_each x.shape x.state user (images_in tills lengths bytes))) (refused 4))).answer.refusal ≡ 0
    → backup_all_answer pool table x.shape (cond fit (done (backup_each x.shape x.state user (images_in tills lengths bytes))) (refused 4))
    ≡ answer_to (made_singly pool table user (images_in tills lengths bytes))
unfolding backup_all_answer all_answer all_refused answer_to made
fits_singly true user pool table tills lengths bytes x e z = ap answer_to (sym (each_made user (images_in tills lengths bytes) pool table x e))
fits_singly false user pool table tills lengths bytes x e z = absurd (suc-ne-zero 3 z)

pub closing_is_singly : ClosingIsSingly
unfolding backup_all_as
closing_is_singly pool table user tills lengths bytes = go (store_of pool table) refl
  where
    go : (o : Option Store) → store_of pool table ≡ o → (backup_all_in o pool table user tills lengths bytes).answer.refusal ≡ 0
        → backup_all_in o pool table user tills lengths bytes ≡ answer_to (made_singly pool table user (images_in tills lengths bytes))
    go none e z = absurd (suc-ne-zero 9 (unfold backup_all_in all_refused in z))
    go (some x) e z = unfold backup_all_in backup_all in fits_singly (closing_fits tills lengths bytes) user pool table tills lengths bytes x e (unfold backup_all_in backup_all in z)
