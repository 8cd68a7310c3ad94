-- Two histories that differ on one till: a call of one, which is on that till, and a call of both leave the other tills showing the same.
use mathlib.Core.Path.{◌≡◌, refl, sym, ap, ap₂, ◌∙◌, subst}
use mathlib.Core.Bool.{Bool, true, false, cond, false≢true}
use mathlib.Core.List.{List, [], ◌∷◌, ◌++◌}
use mathlib.Core.Option.{Option, none}
use Prim.Native.Nat.{ℕ}
use native.Mathlib.Omega.{arith}
use lib.ListN.{drop}
use lib.Dec.{eqb}
use borrow.Author.Tests.{eqb-true, eqb-false}
use Rattle.lists.specs.Each.{Each}
use Rattle.lists.proofs.Each.{each_weaken}
use Rattle.sha1_definition.specs.Sha1.{sha1}
use Rattle.model.specs.Measures.{Shape}
use Rattle.model.specs.Image.{with_blanks}
use Rattle.model.specs.State.{State, Outcome, refused, done}
use Rattle.model.specs.Table.{shape_of}
use Rattle.model.specs.Sound.{Store, store_of}
use Rattle.model.specs.Calls.{After, outcome_refusal}
use Rattle.model.specs.Rights.{to_back_up, refusal_at, unless}
use Rattle.sent.specs.Sent.{segment_bytes, contents, zero_segment, made, backup_sent}
use Rattle.sent.specs.Claims.{known_in, NoneShare, segments_sent}
use Rattle.closing.specs.Closing.{TillImage, images_in, closing_fits, backup_each, AllAnswer, all_refused, all_answer, backup_all, backup_all_as}
use Rattle.history.specs.Calls.{Call, call_layout, call_backup, call_restore, call_retire, call_listing, call_version_on, call_tally, call_bill, call_write_stream, call_offer, call_backup_sent, call_backup_all, call_set_rights, Buffers, Answer, refusal_in, refused_layout, till_named}
use Rattle.history.specs.Users.{UserCall, answer_by, refusal_by, for_user, state_by, answer_in_by}
use Rattle.history.specs.Keeper.{image_or, image_sent, CallMade, backup_for, backups_made, closing_made, itself, comes_to}
use Rattle.history.proofs.View.{TillView, is_on_till, changed, IsPlain}
use Rattle.history.specs.Apart.{IsOn, FromTill, IsFromTill, sent_with, segments_met}
use Rattle.history.proofs.Steps.{Represents, left_store, closing_same}
use Rattle.history.proofs.Users.{answer_by_lem}
use Rattle.history.proofs.Carried.{carried, carried_other, images_few, sixteen}
use Rattle.history.proofs.Local.{outcome_answer, HasRoom}
use Rattle.history.proofs.Same.{refusal_same, same_by}
use Rattle.history.proofs.Unshared.{In, all_in, each_split, sent_same}
use Rattle.history.proofs.Alike.{room_left, Off, AlikeMade, on_it, same, AllAlike, each_alike}

-- ---- a call of one history

images_on : (u : ℕ) (ts ns is : List ℕ) → Each (λ t. t ≡ u) ts → Each (λ (x : TillImage). x.till ≡ u) (images_in ts ns is)
unfolding images_in
images_on u [] ns is h = tt
images_on u (t ∷ ts) [] is h = tt
images_on u (t ∷ ts) (n ∷ ns) is h = (h.0, images_on u ts ns (drop n is) h.1)

backups_on : (u : ℕ) (xs : List TillImage) (refusals : List ℕ) → Each (λ (x : TillImage). x.till ≡ u) xs → Each (λ (m : CallMade). till_named m.call ≡ u) (backups_made xs refusals)
unfolding backups_made backup_for till_named
backups_on u [] refusals h = tt
backups_on u (x ∷ xs) [] h = tt
backups_on u (x ∷ xs) (n ∷ refusals) h = (h.0, backups_on u xs refusals h.1)

-- what it comes to is on the till too
on_till : (u y : ℕ) (b : Buffers) (call : Call) → IsOn u call → Each (λ (m : CallMade). till_named m.call ≡ u) (comes_to b y call)
unfolding comes_to itself till_named
on_till u y b (call_layout c) h = absurd h
on_till u y b (call_backup era t d image) h = (h, tt)
on_till u y b (call_restore t v output) h = (h, tt)
on_till u y b (call_retire t v) h = (h, tt)
on_till u y b (call_listing t) h = (h, tt)
on_till u y b (call_version_on t day) h = (h, tt)
on_till u y b call_tally h = absurd h
on_till u y b (call_bill price) h = absurd h
on_till u y b (call_write_stream t v output) h = (h, tt)
on_till u y b (call_offer t fs ms) h = (h, tt)
on_till u y b (call_backup_sent t n fs ms ss) h = (h, tt)
on_till u y b (call_backup_all ts ns is) h = closing_on (backup_all_as b.pool b.table y ts ns is).answer
  where
    closing_on : (a : AllAnswer) → Each (λ (m : CallMade). till_named m.call ≡ u) (closing_made (images_in ts ns is) a)
    closing_on a = unfold closing_made in go (eqb a.refusal 0)
      where
        go : (q : Bool) → Each (λ (m : CallMade). till_named m.call ≡ u) (cond q (backups_made (images_in ts ns is) a.refusals) [])
        go true = backups_on u (images_in ts ns is) a.refusals (images_on u ts ns is h)
        go false = tt
on_till u y b (call_set_rights subject t r) h = (h, tt)

pub no_layout_on : (u : ℕ) (b : Buffers) (call : Call) → IsOn u call → refused_layout b call
no_layout_on u b (call_layout c) h = absurd h
no_layout_on u b (call_backup era t d image) h = tt
no_layout_on u b (call_restore t v output) h = tt
no_layout_on u b (call_retire t v) h = tt
no_layout_on u b (call_listing t) h = tt
no_layout_on u b (call_version_on t day) h = tt
no_layout_on u b call_tally h = absurd h
no_layout_on u b (call_bill price) h = absurd h
no_layout_on u b (call_write_stream t v output) h = tt
no_layout_on u b (call_offer t fs ms) h = tt
no_layout_on u b (call_backup_sent t n fs ms ss) h = tt
no_layout_on u b (call_backup_all ts ns is) h = tt
no_layout_on u b (call_set_rights subject t r) h = tt

module _ (s : Shape) (u : ℕ) where
  pub off_one : (b : Buffers) (st : State) → Represents s b st → (c : UserCall) → IsOn u c.call → Off s u (state_by s st c.user c.call) st
  off_one b st l c on t ne =
      carried_other s l.fit.proper (comes_to b c.user c.call) st (state_by s st c.user c.call) l.sound (carried s b st l c.user c.call) t
      (each_weaken (λ (m : CallMade). till_named m.call ≡ u) (λ (m : CallMade). t ≡ till_named m.call → ⊥) (λ m e q. ne (q ∙ e)) (comes_to b c.user c.call) (on_till u c.user b c.call on))

-- ---- a call of both

-- a call that is on no till changes what none shows
changed_none : (bytes : ℕ) (call : Call) (ok : Bool) (w : TillView) → IsPlain call → is_on_till call ≡ false → changed bytes call ok w ≡ w
unfolding changed
changed_none bytes (call_layout c) ok w p e = refl
changed_none bytes (call_backup era t d image) ok w p e = absurd (false≢true (sym e))
changed_none bytes (call_restore t v output) ok w p e = refl
changed_none bytes (call_retire t v) ok w p e = absurd (false≢true (sym e))
changed_none bytes (call_listing t) ok w p e = refl
changed_none bytes (call_version_on t day) ok w p e = refl
changed_none bytes call_tally ok w p e = refl
changed_none bytes (call_bill price) ok w p e = refl
changed_none bytes (call_write_stream t v output) ok w p e = refl
changed_none bytes (call_offer t fs ms) ok w p e = refl
changed_none bytes (call_backup_sent t n fs ms ss) ok w p e = absurd p
changed_none bytes (call_backup_all ts ns is) ok w p e = absurd p
changed_none bytes (call_set_rights subject t r) ok w p e = absurd (false≢true (sym e))

-- room for a call on a till, by its answer
room_for : (call : Call) (a : Answer) → IsFromTill a → HasRoom call a
room_for (call_layout c) a h = tt
room_for (call_backup era t d image) a h = room_left a h
room_for (call_restore t v output) a h = tt
room_for (call_retire t v) a h = tt
room_for (call_listing t) a h = tt
room_for (call_version_on t day) a h = tt
room_for call_tally a h = tt
room_for (call_bill price) a h = tt
room_for (call_write_stream t v output) a h = tt
room_for (call_offer t fs ms) a h = tt
room_for (call_backup_sent t n fs ms ss) a h = tt
room_for (call_backup_all ts ns is) a h = tt
room_for (call_set_rights subject t r) a h = tt

module _ (s : Shape) (u : ℕ) (b b' : Buffers) (st st' : State) (l : Represents s b st) (l' : Represents s b' st') (o : Off s u st st') (y : ℕ) where
  -- on another till, or on none, with any user
  on_other : (call : Call) → is_on_till call ≡ true → (till_named call ≡ u → ⊥) → IsFromTill (answer_by b y call) → IsFromTill (answer_by b' y call) → answer_by b y call ≡ answer_by b' y call
  on_other call on ne f f' =
      answer_by_lem s b st y call l
      ∙ same_by s st st' y call on (room_for call _ (subst IsFromTill (answer_by_lem s b st y call l) f)) (room_for call _ (subst IsFromTill (answer_by_lem s b' st' y call l') f')) (o (till_named call) ne)
      ∙ sym (answer_by_lem s b' st' y call l')

  plain_alike : (call : Call) → IsPlain call → IsFromTill (answer_by b y call) → IsFromTill (answer_by b' y call) → AllAlike s u (itself b y call) (itself b' y call)
  unfolding itself refusal_by
  plain_alike call p f f' = (go (eqb (till_named call) u) refl (is_on_till call) refl, tt)
    where
      go : (q : Bool) → eqb (till_named call) u ≡ q → (on : Bool) → is_on_till call ≡ on
          → AlikeMade s u (record { call = call; accepted = eqb (refusal_in (answer_by b y call)) 0 }) (record { call = call; accepted = eqb (refusal_in (answer_by b' y call)) 0 })
      go true q on e = let is : till_named call ≡ u = eqb-true (till_named call) u q in on_it is is
      go false q true e =
          same refl (λ w. ap (λ (a : Answer). changed s.measures.block_bytes call (eqb (refusal_in a) 0) w) (on_other call e (eqb-false (till_named call) u q) f f'))
      go false q false e = same refl (λ w. changed_none s.measures.block_bytes call _ w p e ∙ sym (changed_none s.measures.block_bytes call _ w p e))

  -- ---- a second message

  module _ (t n : ℕ) (fs ms ss : List ℕ) (share : NoneShare sha1 (segments_met b (call_backup_sent t n fs ms ss) ++ segments_met b' (call_backup_sent t n fs ms ss))) where
    abbrev met : List (List ℕ)
    met = segments_met b (call_backup_sent t n fs ms ss) ++ segments_met b' (call_backup_sent t n fs ms ss)

    -- what the store of a state has and what the message sends are among them
    abbrev met_in : State → List (List ℕ)
    met_in x = (zero_segment s.measures ∷ contents s.measures x.storage) ++ segments_sent (segment_bytes s.measures) ms ss

    met_is : (c : Buffers) (x : State) → Represents s c x → segments_met c (call_backup_sent t n fs ms ss) ≡ met_in x
    unfolding segments_met sent_with known_in
    met_is c x z =
        ap₂ (λ (q : Option Store) (h : Shape). known_in q ++ segments_sent (segment_bytes h.measures) ms ss) (left_store s c x z) (ap shape_of z.table ∙ z.fit.back x)

    pub sent_other : (t ≡ u → ⊥) → IsFromTill (outcome_answer (backup_sent sha1 s st t n fs ms ss)) → IsFromTill (outcome_answer (backup_sent sha1 s st' t n fs ms ss))
        → (made sha1 s st t n fs ms ss ≡ made sha1 s st' t n fs ms ss) × (outcome_answer (backup_sent sha1 s st t n fs ms ss) ≡ outcome_answer (backup_sent sha1 s st' t n fs ms ss))
    sent_other ne f f' =
        let all : List (List ℕ) = met_in st ++ met_in st' in
        let parts = each_split (λ x. In x all) (met_in st) (met_in st') (all_in all) in
        let one = each_split (λ x. In x all) (zero_segment s.measures ∷ contents s.measures st.storage) (segments_sent (segment_bytes s.measures) ms ss) parts.0 in
        let two = each_split (λ x. In x all) (zero_segment s.measures ∷ contents s.measures st'.storage) (segments_sent (segment_bytes s.measures) ms ss) parts.1 in
        sent_same s st st' t (o t ne) n fs ms ss all (subst (NoneShare sha1) (ap₂ (λ (xs ys : List (List ℕ)). xs ++ ys) (met_is b st l) (met_is b' st' l')) share) one.0 two.0.1 one.1 f f'

    -- with any user who may
    abbrev waits : State → Outcome After
    waits x = for_user s x y t to_back_up (backup_sent sha1 s x t n fs ms ss)

    from_by : (c : Buffers) (x : State) → Represents s c x → IsFromTill (answer_by c y (call_backup_sent t n fs ms ss)) → FromTill (outcome_refusal (waits x))
    unfolding answer_in_by
    from_by c x z f = subst IsFromTill (answer_by_lem s c x y (call_backup_sent t n fs ms ss) z) f

    may_other : (t ≡ u → ⊥) → FromTill (outcome_refusal (waits st)) → FromTill (outcome_refusal (waits st')) → eqb (refusal_at s st y t to_back_up) 0 ≡ true
        → (made sha1 s st t n fs ms ss ≡ made sha1 s st' t n fs ms ss) × (outcome_answer (backup_sent sha1 s st t n fs ms ss) ≡ outcome_answer (backup_sent sha1 s st' t n fs ms ss))
    may_other ne f f' q =
        let q' : eqb (refusal_at s st' y t to_back_up) 0 ≡ true = ap (λ (k : ℕ). eqb k 0) (sym (refusal_same s st st' y t to_back_up (o t ne))) ∙ q in
        sent_other ne (subst (λ (z : Bool). FromTill (outcome_refusal (cond z (backup_sent sha1 s st t n fs ms ss) (refused (refusal_at s st y t to_back_up))))) q f)
        (subst (λ (z : Bool). FromTill (outcome_refusal (cond z (backup_sent sha1 s st' t n fs ms ss) (refused (refusal_at s st' y t to_back_up))))) q' f')

    changed_both : (i i' : List ℕ) (x x' : Outcome After) (w : TillView) → i ≡ i' → outcome_answer x ≡ outcome_answer x'
        → changed s.measures.block_bytes (call_backup with_blanks t none i) (eqb (outcome_refusal x) 0) w ≡ changed s.measures.block_bytes (call_backup with_blanks t none i') (eqb (outcome_refusal x') 0) w
    unfolding refusal_in
    changed_both i i' x x' w e a = ap₂ (λ (j : List ℕ) (a : Answer). changed s.measures.block_bytes (call_backup with_blanks t none j) (eqb (refusal_in a) 0) w) e a

    -- what its backup makes of its till
    changed_alike : (k : ℕ) (x x' : Outcome After) (i i' : List ℕ) → (eqb k 0 ≡ true → (i ≡ i') × (outcome_answer x ≡ outcome_answer x')) → (w : TillView)
        → changed s.measures.block_bytes (call_backup with_blanks t none i) (eqb (outcome_refusal (unless k refused x)) 0) w
        ≡ changed s.measures.block_bytes (call_backup with_blanks t none i') (eqb (outcome_refusal (unless k refused x')) 0) w
    changed_alike k x x' i i' h w = go (eqb k 0) refl h
      where
        go : (q : Bool) → eqb k 0 ≡ q → (q ≡ true → (i ≡ i') × (outcome_answer x ≡ outcome_answer x'))
            → changed s.measures.block_bytes (call_backup with_blanks t none i) (eqb (outcome_refusal (cond q x (refused k))) 0) w
            ≡ changed s.measures.block_bytes (call_backup with_blanks t none i') (eqb (outcome_refusal (cond q x' (refused k))) 0) w
        go true q h = changed_both i i' x x' w (h refl).0 (h refl).1
        go false q h = unfold outcome_refusal in rw q (unfold changed in refl)

    -- the backup that it comes to, by the buffers and by the state
    abbrev made_by : Buffers → CallMade
    made_by c = record { call = call_backup with_blanks t none (image_sent (store_of c.pool c.table) t n fs ms ss); accepted = eqb (refusal_by c y (call_backup_sent t n fs ms ss)) 0 }

    abbrev made_in : State → CallMade
    made_in x = record { call = call_backup with_blanks t none (image_or (made sha1 s x t n fs ms ss)); accepted = eqb (outcome_refusal (waits x)) 0 }

    made_is : (c : Buffers) (x : State) → Represents s c x → made_by c ≡ made_in x
    unfolding image_sent refusal_by answer_in_by refusal_in
    made_is c x z =
        ap₂ (λ (q : Option Store) (a : Answer). record { call = call_backup with_blanks t none (image_sent q t n fs ms ss); accepted = eqb (refusal_in a) 0 }) (left_store s c x z)
        (answer_by_lem s c x y (call_backup_sent t n fs ms ss) z)

    in_alike : FromTill (outcome_refusal (waits st)) → FromTill (outcome_refusal (waits st')) → AlikeMade s u (made_in st) (made_in st')
    unfolding till_named
    in_alike f f' = go (eqb t u) refl
      where
        go : (q : Bool) → eqb t u ≡ q → AlikeMade s u (made_in st) (made_in st')
        go true q = unfold till_named in on_it (eqb-true t u q) (eqb-true t u q)
        go false q =
            unfold till_named in
            same refl (λ w.
            changed_alike (refusal_at s st y t to_back_up) (backup_sent sha1 s st t n fs ms ss) (backup_sent sha1 s st' t n fs ms ss) (image_or (made sha1 s st t n fs ms ss)) (image_or (made sha1 s st' t n fs ms ss))
            (λ k. let r = may_other (eqb-false t u q) f f' k in (ap image_or r.0, r.1)) w
            ∙ ap (λ (k : ℕ). changed s.measures.block_bytes (call_backup with_blanks t none (image_or (made sha1 s st' t n fs ms ss))) (eqb (outcome_refusal (unless k refused (backup_sent sha1 s st' t n fs ms ss))) 0) w)
            (refusal_same s st st' y t to_back_up (o t (eqb-false t u q))))

    sent_alike_by : IsFromTill (answer_by b y (call_backup_sent t n fs ms ss)) → IsFromTill (answer_by b' y (call_backup_sent t n fs ms ss))
        → AllAlike s u (comes_to b y (call_backup_sent t n fs ms ss)) (comes_to b' y (call_backup_sent t n fs ms ss))
    unfolding comes_to
    sent_alike_by f f' =
        (subst (λ (m : CallMade). AlikeMade s u m (made_by b')) (sym (made_is b st l)) (subst (AlikeMade s u (made_in st)) (sym (made_is b' st' l')) (in_alike (from_by b st l f) (from_by b' st' l' f'))), tt)

  -- ---- a closing

  closing_alike : (ts ns is : List ℕ) → IsFromTill (answer_by b y (call_backup_all ts ns is)) → IsFromTill (answer_by b' y (call_backup_all ts ns is))
      → AllAlike s u (comes_to b y (call_backup_all ts ns is)) (comes_to b' y (call_backup_all ts ns is))
  unfolding comes_to answer_by
  closing_alike ts ns is =
      subst (λ (a : AllAnswer). Each FromTill a.refusals → Each FromTill (backup_all_as b'.pool b'.table y ts ns is).answer.refusals
      → AllAlike s u (closing_made (images_in ts ns is) a) (closing_made (images_in ts ns is) (backup_all_as b'.pool b'.table y ts ns is).answer))
      (sym (closing_same s b st l y ts ns is))
      (subst (λ (a : AllAnswer). Each FromTill (all_answer (backup_all s st y ts ns is)).refusals → Each FromTill a.refusals
      → AllAlike s u (closing_made (images_in ts ns is) (all_answer (backup_all s st y ts ns is))) (closing_made (images_in ts ns is) a))
      (sym (closing_same s b' st' l' y ts ns is)) (unfold backup_all closing_made in go (closing_fits ts ns is) refl))
    where
      go : (fit : Bool) → closing_fits ts ns is ≡ fit
          → Each FromTill (all_answer (cond fit (done (backup_each s st y (images_in ts ns is))) (refused 4))).refusals → Each FromTill (all_answer (cond fit (done (backup_each s st' y (images_in ts ns is))) (refused 4))).refusals
          → AllAlike s u
          (cond (eqb (all_answer (cond fit (done (backup_each s st y (images_in ts ns is))) (refused 4))).refusal 0) (backups_made (images_in ts ns is) (all_answer (cond fit (done (backup_each s st y (images_in ts ns is))) (refused 4))).refusals) [])
          (cond (eqb (all_answer (cond fit (done (backup_each s st' y (images_in ts ns is))) (refused 4))).refusal 0) (backups_made (images_in ts ns is) (all_answer (cond fit (done (backup_each s st' y (images_in ts ns is))) (refused 4))).refusals) [])
      go true e =
          unfold all_answer in
          each_alike s u l.fit.proper y (images_in ts ns is) 16 (omega (arith, images_few ts ns is, sixteen ts ns is e)) st st' l.sound l'.sound o
      go false e = unfold all_answer all_refused in (λ f f'. tt)

  -- ---- any call

  pub both_alike : (call : Call) → IsFromTill (answer_by b y call) → IsFromTill (answer_by b' y call) → NoneShare sha1 (segments_met b call ++ segments_met b' call)
      → AllAlike s u (comes_to b y call) (comes_to b' y call)
  both_alike (call_layout c) f f' n = unfold comes_to in plain_alike (call_layout c) tt f f'
  both_alike (call_backup era t d image) f f' n = unfold comes_to in plain_alike (call_backup era t d image) tt f f'
  both_alike (call_restore t v output) f f' n = unfold comes_to in plain_alike (call_restore t v output) tt f f'
  both_alike (call_retire t v) f f' n = unfold comes_to in plain_alike (call_retire t v) tt f f'
  both_alike (call_listing t) f f' n = unfold comes_to in plain_alike (call_listing t) tt f f'
  both_alike (call_version_on t day) f f' n = unfold comes_to in plain_alike (call_version_on t day) tt f f'
  both_alike call_tally f f' n = unfold comes_to in plain_alike call_tally tt f f'
  both_alike (call_bill price) f f' n = unfold comes_to in plain_alike (call_bill price) tt f f'
  both_alike (call_write_stream t v output) f f' n = unfold comes_to in plain_alike (call_write_stream t v output) tt f f'
  both_alike (call_offer t fs ms) f f' n = unfold comes_to in plain_alike (call_offer t fs ms) tt f f'
  both_alike (call_backup_sent t k fs ms ss) f f' n = sent_alike_by t k fs ms ss n f f'
  both_alike (call_backup_all ts ns is) f f' n = closing_alike ts ns is f f'
  both_alike (call_set_rights subject t r) f f' n = unfold comes_to in plain_alike (call_set_rights subject t r) tt f f'
