-- §10, from the frame law: after two accepted calls on different tills every till shows the same in either order, and what a till holds follows from
-- what it shows.
use mathlib.Core.Path.{◌≡◌, refl, sym, ap, ap₂, ◌∙◌, subst}
use mathlib.Core.List.{List, [], ◌∷◌}
use mathlib.Core.Bool.{true}
use Prim.Native.Nat.{ℕ}
use borrow.Author.Tests.{eq-eqb}
use Rattle.model.specs.Measures.{Shape}
use Rattle.model.specs.State.{Storage, Version, State}
use Rattle.model.specs.Trace.{image_of}
use Rattle.model.specs.Calls.{empty_state, till_of}
use Rattle.history.specs.Calls.{Call, call_layout, call_backup, call_restore, call_retire, call_listing, call_version_on, call_tally, call_bill, call_write_stream, call_offer, call_backup_sent, call_backup_all, call_set_rights, Buffers, refused_layout, refusal_in, till_named}
use Rattle.history.proofs.Calls.{state_after, is_accepted}
use Rattle.history.specs.Users.{UserCall, buffers_by, answer_by, refusal_by, state_by, answer_in_by, buffers_after_all, state_after_all}
use Rattle.history.proofs.View.{VersionView, TillView, view_versions, view_of, view_at, chain_shown, is_on_till, IsPlain}
use Rattle.history.specs.Demand.{laid_out_in}
use Rattle.history.specs.Together.{IsBackupRestoreOrRetire, AcceptedInTurn, HeldVersion, held_versions, held_by, SameTills, OrderFree, EitherOrder}
use Rattle.history.proofs.Shown.{chain_is}
use Rattle.history.proofs.Steps.{Represents, left_store, left_laid}
use Rattle.history.proofs.Users.{left_by, answer_by_lem, left_all, done_by}
use Rattle.history.proofs.Same.{same_by}
use Rattle.history.proofs.Local.{HasRoom}
use Rattle.history.proofs.Order.{order_free}

-- what a till holds, by what it shows
unfoldable held_shown : List VersionView → List HeldVersion
held_shown [] = []
held_shown (w ∷ newer) = record { number = w.number; length = w.length; day = w.day; image = w.image; chain = chain_shown (w ∷ newer) } ∷ held_shown newer

held_shown_lem : (bytes : ℕ) (a : Storage) (vs : List Version) → held_versions bytes a vs ≡ held_shown (view_versions bytes a vs)
unfolding held_versions held_shown view_versions
held_shown_lem bytes a [] = refl
held_shown_lem bytes a (v ∷ newer) =
    ap₂ (λ (n : ℕ) (hs : List HeldVersion). record { number = v.number; length = v.length; day = v.day; image = image_of bytes a (v ∷ newer); chain = n } ∷ hs)
    (unfold view_versions in chain_is bytes a (v ∷ newer)) (held_shown_lem bytes a newer)

no_layout : (b : Buffers) (call : Call) → IsBackupRestoreOrRetire call → refused_layout b call
no_layout b (call_layout c) h = absurd h
no_layout b (call_backup era t d image) h = tt
no_layout b (call_restore t v output) h = tt
no_layout b (call_retire t v) h = tt
no_layout b (call_listing t) h = tt
no_layout b (call_version_on t day) h = tt
no_layout b call_tally h = tt
no_layout b (call_bill price) h = tt
no_layout b (call_write_stream t v output) h = tt
no_layout b (call_offer t fs ms) h = tt
no_layout b (call_backup_sent t n fs ms ss) h = tt
no_layout b (call_backup_all ts ns is) h = tt
no_layout b (call_set_rights subject t r) h = tt

is_plain : (call : Call) → IsBackupRestoreOrRetire call → IsPlain call
is_plain (call_layout c) h = tt
is_plain (call_backup era t d image) h = tt
is_plain (call_restore t v output) h = tt
is_plain (call_retire t v) h = tt
is_plain (call_listing t) h = tt
is_plain (call_version_on t day) h = tt
is_plain call_tally h = tt
is_plain (call_bill price) h = tt
is_plain (call_write_stream t v output) h = tt
is_plain (call_offer t fs ms) h = tt
is_plain (call_backup_sent t n fs ms ss) h = absurd h
is_plain (call_backup_all ts ns is) h = absurd h
is_plain (call_set_rights subject t r) h = tt

module _ (s : Shape) where
  -- stores whose tills show the same
  shown_same : (b b' : Buffers) (st st' : State) → Represents s b st → Represents s b' st'
      → ((t : ℕ) → view_at s.measures.block_bytes st t ≡ view_at s.measures.block_bytes st' t) → SameTills b b'
  shown_same b b' st st' l l' same = record {
    one = record { shape = s; state = st };
    other = record { shape = s; state = st' };
    is_one = left_store s b st l;
    is_other = left_store s b' st' l';
    held = λ t. held st t ∙ ap (λ (w : TillView). held_shown w.versions) (same t) ∙ sym (held st' t);
    restores = λ u t v output. same_answer u (call_restore t v output) refl tt tt;
    listings = λ u t. same_answer u (call_listing t) refl tt tt;
  }
    where
      held : (x : State) (t : ℕ) → held_by (record { shape = s; state = x }) t ≡ held_shown (view_at s.measures.block_bytes x t).versions
      held x t = unfold held_by view_of in held_shown_lem s.measures.block_bytes x.storage (till_of x t).versions

      same_answer : (u : ℕ) (call : Call) → is_on_till call ≡ true → HasRoom call (answer_in_by s st u call) → HasRoom call (answer_in_by s st' u call) → answer_by b u call ≡ answer_by b' u call
      same_answer u call on room room' =
          answer_by_lem s b st u call l ∙ same_by s st st' u call on room room' (same (till_named call)) ∙ sym (answer_by_lem s b' st' u call l')

  -- a user's accepted call is the call
  accepted_done : (b : Buffers) (st : State) → Represents s b st → (c : UserCall) → IsPlain c.call → refusal_by b c.user c.call ≡ 0
      → (is_accepted s st c.call ≡ true) × (state_by s st c.user c.call ≡ state_after s st c.call)
  unfolding refusal_by
  accepted_done b st l c p z = done_by s st c.user c.call p true (eq-eqb _ 0 (ap refusal_in (sym (answer_by_lem s b st c.user c.call l)) ∙ z))

  -- two in turn
  abbrev two_by : State → UserCall → UserCall → State
  two_by st c d = state_by s (state_by s st c.user c.call) d.user d.call

  in_turn_lem : (b : Buffers) (st : State) → Represents s b st → (c d : UserCall) → IsBackupRestoreOrRetire c.call → IsBackupRestoreOrRetire d.call → AcceptedInTurn b c d
      → (is_accepted s st c.call ≡ true) × (is_accepted s (state_after s st c.call) d.call ≡ true) × (two_by st c d ≡ state_after s (state_after s st c.call) d.call)
  in_turn_lem b st l c d kc kd cd =
      let one = accepted_done b st l c (is_plain c.call kc) cd.0 in
      let two = accepted_done (buffers_by b c.user c.call) (state_by s st c.user c.call) (left_by s b st c.user c.call l (no_layout b c.call kc)) d (is_plain d.call kd) cd.1 in
      (one.0, subst (λ (x : State). is_accepted s x d.call ≡ true) one.1 two.0, two.1 ∙ ap (λ (x : State). state_after s x d.call) one.1)

  free_after : (b : Buffers) (st : State) → Represents s b st → OrderFree b
  unfolding buffers_after_all
  free_after b st l c d kc kd apart cd dc =
      let one = in_turn_lem b st l c d kc kd cd in
      let other = in_turn_lem b st l d c kd kc dc in
      shown_same (buffers_by (buffers_by b c.user c.call) d.user d.call) (buffers_by (buffers_by b d.user d.call) c.user c.call) (two_by st c d) (two_by st d c)
      (left_by s (buffers_by b c.user c.call) (state_by s st c.user c.call) d.user d.call (left_by s b st c.user c.call l (no_layout b c.call kc)) (no_layout (buffers_by b c.user c.call) d.call kd))
      (left_by s (buffers_by b d.user d.call) (state_by s st d.user d.call) c.user c.call (left_by s b st d.user d.call l (no_layout b d.call kd)) (no_layout (buffers_by b d.user d.call) c.call kc))
      (λ t. ap (λ (x : State). view_at s.measures.block_bytes x t) one.2
      ∙ order_free s l.fit.proper st l.sound c.call d.call (is_plain c.call kc) (is_plain d.call kd) apart one.0 one.1 other.0 other.1 t
      ∙ ap (λ (x : State). view_at s.measures.block_bytes x t) (sym other.2))

-- §10, for every setting and every list of calls.
pub either_order : EitherOrder
either_order s pool table calls accepted refusals =
    let b : Buffers = laid_out_in s pool table in
    free_after s (buffers_after_all b calls) (state_after_all s (empty_state s) calls) (left_all s calls b (empty_state s) (left_laid s pool table accepted) refusals)
