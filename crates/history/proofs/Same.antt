-- A user's call on a till answers the same on two states in which that till shows the same, 14 and 16 apart.
use mathlib.Core.Path.{◌≡◌, refl, sym, ap, ◌∙◌, subst}
use mathlib.Core.Bool.{Bool, true, false, cond, false≢true}
use mathlib.Core.Option.{some}
use Prim.Native.Nat.{ℕ}
use lib.Dec.{eqb, leb}
use Rattle.model.specs.Measures.{Shape}
use Rattle.model.specs.State.{Rights, State, Outcome, refused}
use Rattle.model.specs.Calls.{backup, restore, restore_refusal, retire, listing_in, listing_refusal, version_on_in, After, outcome_refusal, outcome_number}
use Rattle.model.specs.Rights.{Right, to_list, to_back_up, to_restore, to_retire, user_refusal, refusal_at, unless, version_on_refusal, set_rights}
use Rattle.stream.specs.Stream.{stream_refusal}
use Rattle.stream.specs.Version.{write_version}
use Rattle.history.specs.Calls.{Call, call_layout, call_backup, call_restore, call_retire, call_listing, call_version_on, call_tally, call_bill, call_write_stream, call_offer, call_backup_sent, call_backup_all, call_set_rights, backed_up, restored, retired, listed, found_on, streamed, rights_set, till_named}
use Rattle.history.proofs.Calls.{answer_in}
use Rattle.history.specs.Users.{answer_in_by}
use Rattle.history.proofs.View.{TillView, view_of, view_at, is_on_till, answer_shown}
use Rattle.history.proofs.Users.{set_refusal_lem}
use Rattle.history.proofs.Local.{NotFull, HasRoom, answer_in_lem}

-- what waits for a right, on both states
pub unless_same : {A B : Type 0} (F : A → B) (n n' : ℕ) → n ≡ n' → (refuse : ℕ → A) (a a' : A) → (eqb n 0 ≡ true → F (unless n refuse a) ≡ F a → F (unless n' refuse a') ≡ F a' → F a ≡ F a')
    → F (unless n refuse a) ≡ F (unless n' refuse a')
unless_same F n n' e refuse a a' h = subst (λ (k : ℕ). F (unless n refuse a) ≡ F (unless k refuse a')) e (go (eqb n 0) refl (subst (λ (k : ℕ). eqb n 0 ≡ true → F (unless n refuse a) ≡ F a → F (unless k refuse a') ≡ F a' → F a ≡ F a') (sym e) h))
  where
    go : (q : Bool) → eqb n 0 ≡ q → (eqb n 0 ≡ true → F (cond (eqb n 0) a (refuse n)) ≡ F a → F (cond (eqb n 0) a' (refuse n)) ≡ F a' → F a ≡ F a') → F (cond (eqb n 0) a (refuse n)) ≡ F (cond (eqb n 0) a' (refuse n))
    go true q h = subst (λ (b : Bool). (b ≡ true → F (cond b a (refuse n)) ≡ F a → F (cond b a' (refuse n)) ≡ F a' → F a ≡ F a') → F (cond b a (refuse n)) ≡ F (cond b a' (refuse n))) (sym q) (λ g. g refl refl refl) h
    go false q h = subst (λ (b : Bool). F (cond b a (refuse n)) ≡ F (cond b a' (refuse n))) (sym q) refl

module _ (s : Shape) (st st' : State) (u : ℕ) where
  pub refusal_same : (t : ℕ) (right : Right) → view_at s.measures.block_bytes st t ≡ view_at s.measures.block_bytes st' t → refusal_at s st u t right ≡ refusal_at s st' u t right
  unfolding view_of
  refusal_same t right e = ap (λ (w : TillView). user_refusal (leb s.capacities.tills t) w.rights u right) e

  -- the calls themselves
  pub plain_same : (call : Call) → is_on_till call ≡ true → HasRoom call (answer_in s st call) → HasRoom call (answer_in s st' call)
      → view_at s.measures.block_bytes st (till_named call) ≡ view_at s.measures.block_bytes st' (till_named call) → answer_in s st call ≡ answer_in s st' call
  plain_same call on room room' e = answer_in_lem s st call on room ∙ ap (λ (w : TillView). answer_shown s w call) e ∙ sym (answer_in_lem s st' call on room')

  -- a change of rights is refused by its arguments alone
  pub set_same : (subject t : ℕ) (r : Rights) → rights_set (outcome_refusal (set_rights s st u subject t r)) ≡ rights_set (outcome_refusal (set_rights s st' u subject t r))
  set_same subject t r = ap rights_set (set_refusal_lem s st u subject t r ∙ sym (set_refusal_lem s st' u subject t r))

  pub same_by : (call : Call) → is_on_till call ≡ true → HasRoom call (answer_in_by s st u call) → HasRoom call (answer_in_by s st' u call)
      → view_at s.measures.block_bytes st (till_named call) ≡ view_at s.measures.block_bytes st' (till_named call) → answer_in_by s st u call ≡ answer_in_by s st' u call
  unfolding answer_in_by till_named answer_in
  same_by (call_layout c) on room room' e = absurd (false≢true on)
  same_by (call_backup era t d image) on room room' e =
      unless_same (λ (o : Outcome After). backed_up (outcome_refusal o) (outcome_number o)) (refusal_at s st u t to_back_up) (refusal_at s st' u t to_back_up) (refusal_same t to_back_up e) refused
      (backup era s st t d image) (backup era s st' t d image) (λ q p p'. plain_same (call_backup era t d image) refl (subst NotFull p room) (subst NotFull p' room') e)
  same_by (call_restore t v output) on room room' e =
      unless_same restored (refusal_at s st u t to_restore) (refusal_at s st' u t to_restore) (refusal_same t to_restore e) (λ n. restore_refusal n output)
      (restore s st t v output) (restore s st' t v output) (λ q p p'. plain_same (call_restore t v output) refl tt tt e)
  same_by (call_retire t v) on room room' e =
      unless_same (λ (o : Outcome After). retired (outcome_refusal o) (outcome_number o)) (refusal_at s st u t to_retire) (refusal_at s st' u t to_retire) (refusal_same t to_retire e) refused
      (retire s st t v) (retire s st' t v) (λ q p p'. plain_same (call_retire t v) refl tt tt e)
  same_by (call_listing t) on room room' e =
      unless_same listed (refusal_at s st u t to_list) (refusal_at s st' u t to_list) (refusal_same t to_list e) listing_refusal
      (listing_in (some (record { shape = s; state = st })) t) (listing_in (some (record { shape = s; state = st' })) t) (λ q p p'. plain_same (call_listing t) refl tt tt e)
  same_by (call_version_on t day) on room room' e =
      unless_same found_on (refusal_at s st u t to_list) (refusal_at s st' u t to_list) (refusal_same t to_list e) version_on_refusal
      (version_on_in (some (record { shape = s; state = st })) t day) (version_on_in (some (record { shape = s; state = st' })) t day) (λ q p p'. plain_same (call_version_on t day) refl tt tt e)
  same_by call_tally on room room' e = absurd (false≢true on)
  same_by (call_bill price) on room room' e = absurd (false≢true on)
  same_by (call_write_stream t v output) on room room' e =
      unless_same streamed (refusal_at s st u t to_restore) (refusal_at s st' u t to_restore) (refusal_same t to_restore e) (λ n. stream_refusal n output)
      (write_version s st t v output) (write_version s st' t v output) (λ q p p'. plain_same (call_write_stream t v output) refl tt tt e)
  same_by (call_offer t fs ms) on room room' e = absurd (false≢true on)
  same_by (call_backup_sent t n fs ms ss) on room room' e = absurd (false≢true on)
  same_by (call_backup_all ts ns is) on room room' e = absurd (false≢true on)
  same_by (call_set_rights subject t r) on room room' e = set_same subject t r
