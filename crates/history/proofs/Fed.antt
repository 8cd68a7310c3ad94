-- The keeper, fed call by call, stands beside the store: each till shows what is kept of it.
use mathlib.Core.Path.{◌≡◌, refl, sym, ap, ◌∙◌, subst}
use mathlib.Core.Bool.{Bool, true, false, cond}
use mathlib.Core.List.{List, [], ◌∷◌}
use Prim.Native.Nat.{ℕ, zero, suc, ◌≤◌}
use native.Mathlib.Omega.{arith}
use lib.ListN.{length, get_or, set, replicate, length-set, length-replicate}
use lib.Seq.{get_or-set_same, get_or-set_other, set-get_or, set_out}
use lib.Dec.{eqb, leb}
use borrow.Author.Tests.{eqb-true, eqb-false, leb-true, leb-false}
use Rattle.model.specs.Measures.{Shape}
use Rattle.model.specs.State.{State}
use Rattle.model.specs.Sound.{is_sound}
use Rattle.model.specs.Calls.{empty_till, till_of, empty_state, backup, retire, outcome_refusal}
use Rattle.model.specs.Rights.{set_rights}
use Rattle.laws.proofs.Fits.{Proper}
use Rattle.history.specs.Calls.{Call, call_layout, call_backup, call_restore, call_retire, call_listing, call_version_on, call_tally, call_bill, call_write_stream, call_offer, call_backup_sent, call_backup_all, call_set_rights, Buffers, refusal_in, till_named}
use Rattle.history.proofs.Calls.{state_after, answer_in, is_accepted}
use Rattle.history.specs.Users.{UserCall, buffers_by, state_by, refused_layouts, state_after_all}
use Rattle.history.specs.Keeper.{KeptTill, Keeper, no_till, fresh_keeper, kept_till, change, fed, CallMade, fed_each, comes_to, fed_all}
use Rattle.history.proofs.View.{TillView, view_versions, view_of, view_at, changed, IsPlain}
use Rattle.history.proofs.Kept.{AgreeTill, till_filed, till_struck, till_rights}
use Rattle.history.proofs.Shown.{shown_numbers}
use Rattle.history.proofs.Frame.{frame_own, frame_other}
use Rattle.history.proofs.Steps.{Represents}
use Rattle.history.proofs.Users.{left_by}
use Rattle.history.proofs.Carried.{made_of, made_sound, Carries, carried}

-- ---- the keeper `k` beside the state `st`

pub record Stands (s : Shape) (k : Keeper) (st : State) : Type 0 where
  pub many : length k ≡ s.capacities.tills
  pub tills : (t : ℕ) → AgreeTill s.measures.block_bytes (kept_till k t) (view_at s.measures.block_bytes st t)

pub stands_fresh : (s : Shape) → Stands s (fresh_keeper s.capacities) (empty_state s)
unfolding fresh_keeper empty_state till_of kept_till
stands_fresh s = record { many = length-replicate s.capacities.tills no_till; tills = λ t. go s.capacities.tills t }
  where
    none : AgreeTill s.measures.block_bytes no_till (view_of s.measures.block_bytes (empty_state s).storage empty_till)
    none = unfold no_till empty_till view_of view_versions in (refl, tt, refl)

    go : (n t : ℕ) → AgreeTill s.measures.block_bytes (get_or (replicate n no_till) t no_till) (view_of s.measures.block_bytes (empty_state s).storage (get_or (replicate n empty_till) t empty_till))
    go zero t = none
    go (suc n) zero = none
    go (suc n) (suc t) = go n t

module _ (s : Shape) (pr : Proper s.measures) (st : State) (h : is_sound s st ≡ true) where
  own_agrees : (call : Call) (y : KeptTill) → AgreeTill s.measures.block_bytes y (view_at s.measures.block_bytes st (till_named call))
      → AgreeTill s.measures.block_bytes (change call (is_accepted s st call) y)
      (changed s.measures.block_bytes call (is_accepted s st call) (view_at s.measures.block_bytes st (till_named call)))
  unfolding change changed is_accepted answer_in refusal_in till_named
  own_agrees (call_layout c) y a = a
  own_agrees (call_backup era t d image) y a = go (eqb (outcome_refusal (backup era s st t d image)) 0)
    where
      go : (ok : Bool) → AgreeTill s.measures.block_bytes (change (call_backup era t d image) ok y)
          (changed s.measures.block_bytes (call_backup era t d image) ok (view_at s.measures.block_bytes st t))
      go true = unfold change changed in till_filed s.measures.block_bytes era y (view_at s.measures.block_bytes st t) d image a
      go false = unfold change changed in a
  own_agrees (call_restore t v output) y a = a
  own_agrees (call_retire t v) y a = go (eqb (outcome_refusal (retire s st t v)) 0)
    where
      go : (ok : Bool) → AgreeTill s.measures.block_bytes (change (call_retire t v) ok y)
          (changed s.measures.block_bytes (call_retire t v) ok (view_at s.measures.block_bytes st t))
      go true = unfold change changed in till_struck s.measures.block_bytes y (view_at s.measures.block_bytes st t) v a (shown_numbers s st h t)
      go false = unfold change changed in a
  own_agrees (call_listing t) y a = a
  own_agrees (call_version_on t day) y a = a
  own_agrees call_tally y a = a
  own_agrees (call_bill price) y a = a
  own_agrees (call_write_stream t v output) y a = a
  own_agrees (call_offer t fs ms) y a = a
  own_agrees (call_backup_sent t n fs ms ss) y a = a
  own_agrees (call_backup_all ts ns is) y a = a
  own_agrees (call_set_rights subject t r) y a = go (eqb (outcome_refusal (set_rights s st 0 subject t r)) 0)
    where
      go : (ok : Bool) → AgreeTill s.measures.block_bytes (change (call_set_rights subject t r) ok y)
          (changed s.measures.block_bytes (call_set_rights subject t r) ok (view_at s.measures.block_bytes st t))
      go true = unfold change changed in till_rights s.measures.block_bytes y (view_at s.measures.block_bytes st t) subject r a
      go false = unfold change changed in a

  -- a call on a till that is not there is refused, and changes nothing
  change_none : (call : Call) → leb s.capacities.tills (till_named call) ≡ true → (y : KeptTill) → change call (is_accepted s st call) y ≡ y
  unfolding change is_accepted answer_in refusal_in till_named
  change_none (call_layout c) e y = refl
  change_none (call_backup era t d image) e y = unfold backup outcome_refusal in rw e refl
  change_none (call_restore t v output) e y = refl
  change_none (call_retire t v) e y = unfold retire outcome_refusal in rw e refl
  change_none (call_listing t) e y = refl
  change_none (call_version_on t day) e y = refl
  change_none call_tally e y = refl
  change_none (call_bill price) e y = refl
  change_none (call_write_stream t v output) e y = refl
  change_none (call_offer t fs ms) e y = refl
  change_none (call_backup_sent t n fs ms ss) e y = refl
  change_none (call_backup_all ts ns is) e y = refl
  change_none (call_set_rights subject t r) e y = unfold set_rights outcome_refusal in rw e refl

  module _ (k : Keeper) (z : Stands s k st) where
    fed_own : (call : Call) → kept_till (fed k call (is_accepted s st call)) (till_named call) ≡ change call (is_accepted s st call) (kept_till k (till_named call))
    unfolding fed
    fed_own call = go (leb s.capacities.tills (till_named call)) refl
      where
        new : KeptTill
        new = change call (is_accepted s st call) (kept_till k (till_named call))

        go : (b : Bool) → leb s.capacities.tills (till_named call) ≡ b → kept_till (set k (till_named call) new) (till_named call) ≡ new
        go true e =
            let out : length k ≤ till_named call = omega (arith, leb-true s.capacities.tills (till_named call) e, z.many) in
            ap (λ (l : Keeper). kept_till l (till_named call)) (set_out k (till_named call) new out) ∙ sym (change_none call e (kept_till k (till_named call)))
        go false e = unfold kept_till in get_or-set_same k (till_named call) new no_till (omega (arith, leb-false s.capacities.tills (till_named call) e, z.many))

    fed_other : (call : Call) (ok : Bool) (t : ℕ) → (t ≡ till_named call → ⊥) → kept_till (fed k call ok) t ≡ kept_till k t
    unfolding fed kept_till
    fed_other call ok t ne = get_or-set_other k (till_named call) t _ no_till ne

    pub stands_plain : (call : Call) → IsPlain call → Stands s (fed k call (is_accepted s st call)) (state_after s st call)
    unfolding fed
    stands_plain call plain = record {
      many = length-set k (till_named call) _ ∙ z.many;
      tills = λ t. go t (eqb t (till_named call)) refl;
    }
      where
        Fine : ℕ → Type 0
        Fine t = AgreeTill s.measures.block_bytes (kept_till (fed k call (is_accepted s st call)) t) (view_at s.measures.block_bytes (state_after s st call) t)

        own : Fine (till_named call)
        own =
            subst (λ (w : TillView). AgreeTill s.measures.block_bytes (kept_till (fed k call (is_accepted s st call)) (till_named call)) w) (sym (frame_own s pr st h call plain))
            (subst (λ (y : KeptTill). AgreeTill s.measures.block_bytes y (changed s.measures.block_bytes call (is_accepted s st call) (view_at s.measures.block_bytes st (till_named call))))
            (sym (fed_own call)) (own_agrees call (kept_till k (till_named call)) (z.tills (till_named call))))

        go : (t : ℕ) (b : Bool) → eqb t (till_named call) ≡ b → Fine t
        go t true e = subst Fine (sym (eqb-true t (till_named call) e)) own
        go t false e =
            let ne = eqb-false t (till_named call) e in
            subst (λ (w : TillView). AgreeTill s.measures.block_bytes (kept_till (fed k call (is_accepted s st call)) t) w) (sym (frame_other s pr st h call plain t ne))
            (subst (λ (y : KeptTill). AgreeTill s.measures.block_bytes y (view_at s.measures.block_bytes st t)) (sym (fed_other call (is_accepted s st call) t ne)) (z.tills t))

-- a refused call is nothing to the keeper
change_refused : (call : Call) (y : KeptTill) → change call false y ≡ y
unfolding change
change_refused (call_layout c) y = refl
change_refused (call_backup era t d image) y = refl
change_refused (call_restore t v output) y = refl
change_refused (call_retire t v) y = refl
change_refused (call_listing t) y = refl
change_refused (call_version_on t day) y = refl
change_refused call_tally y = refl
change_refused (call_bill price) y = refl
change_refused (call_write_stream t v output) y = refl
change_refused (call_offer t fs ms) y = refl
change_refused (call_backup_sent t n fs ms ss) y = refl
change_refused (call_backup_all ts ns is) y = refl
change_refused (call_set_rights subject t r) y = refl

fed_refused : (k : Keeper) (call : Call) → fed k call false ≡ k
unfolding fed kept_till
fed_refused k call = ap (set k (till_named call)) (change_refused call (get_or k (till_named call) no_till)) ∙ set-get_or k (till_named call) no_till

-- a plain call that was accepted or refused as it was made
pub stands_made : (s : Shape) → Proper s.measures → (m : CallMade) (st : State) → is_sound s st ≡ true → IsPlain m.call → (m.accepted ≡ true → is_accepted s st m.call ≡ true)
    → (k : Keeper) → Stands s k st → Stands s (fed k m.call m.accepted) (made_of s st m)
stands_made s pr m st h p ok k z = go m.accepted ok
  where
    go : (b : Bool) → (b ≡ true → is_accepted s st m.call ≡ true) → Stands s (fed k m.call b) (cond b (state_after s st m.call) st)
    go true q = subst (λ (b : Bool). Stands s (fed k m.call b) (state_after s st m.call)) (q refl) (stands_plain s pr st h k z m.call p)
    go false q = subst (λ (l : Keeper). Stands s l st) (sym (fed_refused k m.call)) z

-- any call, fed as what it comes to
stands_each : (s : Shape) → Proper s.measures → (ms : List CallMade) (st end : State) → is_sound s st ≡ true → Carries s st ms end → (k : Keeper) → Stands s k st → Stands s (fed_each k ms) end
unfolding fed_each
stands_each s pr [] st end h c k z = subst (Stands s k) c z
stands_each s pr (m ∷ ms) st end h c k z =
    stands_each s pr ms (made_of s st m) end (made_sound s pr st h m) c.2 (fed k m.call m.accepted) (stands_made s pr m st h c.0 c.1 k z)

-- after every list of calls
pub stands_all : (s : Shape) (calls : List UserCall) (b : Buffers) (st : State) (k : Keeper) → Represents s b st → Stands s k st → refused_layouts b calls
    → Stands s (fed_all k b calls) (state_after_all s st calls)
unfolding fed_all state_after_all
stands_all s [] b st k l z r = z
stands_all s (c ∷ calls) b st k l z r =
    stands_all s calls (buffers_by b c.user c.call) (state_by s st c.user c.call) (fed_each k (comes_to b c.user c.call)) (left_by s b st c.user c.call l r.0)
    (stands_each s l.fit.proper (comes_to b c.user c.call) st (state_by s st c.user c.call) l.sound (carried s b st l c.user c.call) k z) r.1
