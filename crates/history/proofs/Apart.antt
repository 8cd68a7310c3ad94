-- §9's claim of two histories: the other tills show the same, so a user without a right on the one till is answered the same.
use mathlib.Core.Path.{◌≡◌, refl, sym, ap, ap₂, ◌∙◌, subst}
use mathlib.Core.Bool.{Bool, true, false, cond, not}
use mathlib.Core.List.{List, [], ◌∷◌, ◌++◌}
use mathlib.Core.Option.{none, some}
use Prim.Native.Nat.{ℕ, zero, suc, ◌≤◌}
use native.Mathlib.Nat.{suc-ne-zero}
use native.Mathlib.Omega.{arith}
use lib.ListN.{length, get_or}
use lib.Dec.{eqb, leb}
use borrow.Author.Tests.{eqb-true, eqb-false}
use Rattle.lists.specs.Rows.{fill}
use Rattle.lists.specs.Each.{Each}
use Rattle.sha1_definition.specs.Sha1.{sha1}
use Rattle.model.specs.Measures.{Shape}
use Rattle.model.specs.Image.{with_blanks}
use Rattle.model.specs.State.{Rights, staff, State, Outcome, refused, done}
use Rattle.model.specs.Sound.{is_sound}
use Rattle.bill.specs.Bill.{bill_refused, bill_in}
use Rattle.model.specs.Calls.{empty_state, no_rights, till_of, backup, restore, restore_refusal, retire, listing_in, listing_refusal, version_on_in, tally_in, After, state_or, outcome_refusal, outcome_number}
use Rattle.model.specs.Rights.{Right, has, to_list, to_back_up, to_restore, to_retire, user_refusal, refusal_at, not_owner, unless, version_on_refusal, tally_refusal}
use Rattle.stream.specs.Stream.{stream_refusal}
use Rattle.stream.specs.Version.{write_version}
use Rattle.sent.specs.Sent.{OfferAnswer, offer_fits, offer, offer_answer, offer_in, backup_sent}
use Rattle.sent.specs.Claims.{NoneShare}
use Rattle.laws.proofs.Fits.{Proper}
use Rattle.closing.specs.Closing.{TillImage, images_in, closing_fits, backup_one, backup_each, all_answer, backup_all}
use Rattle.laws.proofs.Unless.{unless_some}
use Rattle.history.specs.Calls.{Call, call_layout, call_backup, call_restore, call_retire, call_listing, call_version_on, call_tally, call_bill, call_write_stream, call_offer, call_backup_sent, call_backup_all, call_set_rights, Buffers, Answer, restored, retired, listed, found_on, tallied, billed, streamed, backed_up_all, refusal_in, till_named}
use Rattle.history.proofs.Calls.{answer_in}
use Rattle.history.specs.Users.{buffers_by, answer_by, for_user, state_by, answer_in_by}
use Rattle.history.specs.Keeper.{comes_to}
use Rattle.history.proofs.View.{view_at}
use Rattle.history.specs.Demand.{laid_out_in}
use Rattle.history.specs.Apart.{Item, both, first, second, Lacks, FromTill, IsFromTill, segments_met, InBoth, Differ, SameAnswer, Agree, NonInterference}
use Rattle.history.proofs.Steps.{Represents, left_laid}
use Rattle.history.proofs.Users.{left_by, answer_by_lem, refusal_at_lem, done_made, backup_done}
use Rattle.history.proofs.Carried.{carried, images_few, sixteen}
use Rattle.history.proofs.Reach.{one_sound}
use Rattle.history.proofs.Local.{outcome_answer, NotFull}
use Rattle.history.proofs.Same.{unless_same, refusal_same, plain_same, set_same}
use Rattle.history.proofs.Bullets.{number_in}
use Rattle.history.proofs.Alike.{room_left, made_other, Off, off_carried, one_off}
use Rattle.history.proofs.Both.{no_layout_on, off_one, sent_other, both_alike}

answer_refusal : (o o' : Outcome After) → outcome_answer o ≡ outcome_answer o' → outcome_refusal o ≡ outcome_refusal o'
unfolding refusal_in
answer_refusal o o' e = ap refusal_in e

answer_number : (o o' : Outcome After) → outcome_answer o ≡ outcome_answer o' → outcome_number o ≡ outcome_number o'
unfolding number_in
answer_number o o' e = ap number_in e

-- ---- a user without a right on the till

-- whatever the rights of others, he is refused with the same number
lacks_same : (missing : Bool) (rs rs' : List Rights) (x : ℕ) (right : Right) → ¬ (user_refusal missing rs x right ≡ 0) → ¬ (user_refusal missing rs' x right ≡ 0)
    → user_refusal missing rs x right ≡ user_refusal missing rs' x right
lacks_same missing rs rs' zero right a a' = absurd (a refl)
lacks_same missing rs rs' (suc y) right a a' = go missing (leb staff y) (has right (get_or rs y no_rights)) (has right (get_or rs' y no_rights)) a a'
  where
    go : (missing unknown may may' : Bool) → ¬ (◌≡◌ {A = ℕ} (cond missing 0 (cond unknown 22 (cond may 0 23))) 0) → ¬ (◌≡◌ {A = ℕ} (cond missing 0 (cond unknown 22 (cond may' 0 23))) 0)
        → ◌≡◌ {A = ℕ} (cond missing 0 (cond unknown 22 (cond may 0 23))) (cond missing 0 (cond unknown 22 (cond may' 0 23)))
    go true unknown may may' a a' = refl
    go false true may may' a a' = refl
    go false false true may' a a' = absurd (a refl)
    go false false false true a a' = absurd (a' refl)
    go false false false false a a' = refl

not_owner_lem : (missing : Bool) (rs : List Rights) (x : ℕ) (right : Right) → ¬ (user_refusal missing rs x right ≡ 0) → ¬ (not_owner x ≡ 0)
not_owner_lem missing rs zero right a e = a refl
not_owner_lem missing rs (suc y) right a e = go (leb staff y) e
  where
    go : (unknown : Bool) → ◌≡◌ {A = ℕ} (cond unknown 22 23) 0 → ⊥
    go true e = suc-ne-zero 21 e
    go false e = suc-ne-zero 22 e

module _ (s : Shape) (u x : ℕ) where
  abbrev LacksIn : State → Type 0
  LacksIn st = (right : Right) → ¬ (refusal_at s st x u right ≡ 0)

  module _ (st st' : State) (o : Off s u st st') (k : LacksIn st) (k' : LacksIn st') where
    -- what waits for a right: on till `u` it is refused, and on another till all depends on the call itself
    waits_same : {A B : Type 0} (F : A → B) (t : ℕ) (right : Right) (refuse : ℕ → A) (a a' : A)
        → ((t ≡ u → ⊥) → F (unless (refusal_at s st x t right) refuse a) ≡ F a → F (unless (refusal_at s st' x t right) refuse a') ≡ F a' → F a ≡ F a')
        → F (unless (refusal_at s st x t right) refuse a) ≡ F (unless (refusal_at s st' x t right) refuse a')
    waits_same F t right refuse a a' h = go (eqb t u) refl
      where
        go : (q : Bool) → eqb t u ≡ q → F (unless (refusal_at s st x t right) refuse a) ≡ F (unless (refusal_at s st' x t right) refuse a')
        go true q =
            subst (λ (t : ℕ). F (unless (refusal_at s st x t right) refuse a) ≡ F (unless (refusal_at s st' x t right) refuse a')) (sym (eqb-true t u q))
            (unless_same F (refusal_at s st x u right) (refusal_at s st' x u right)
            (lacks_same (leb s.capacities.tills u) (till_of st u).rights (till_of st' u).rights x right (k right) (k' right)) refuse a a' (λ z p p'. absurd (k right (eqb-true (refusal_at s st x u right) 0 z))))
        go false q =
            let ne : t ≡ u → ⊥ = eqb-false t u q in
            unless_same F (refusal_at s st x t right) (refusal_at s st' x t right) (refusal_same s st st' x t right (o t ne)) refuse a a' (λ z. h ne)

    image_answer : (im : TillImage) → FromTill (outcome_refusal (backup_one s st x im)) → FromTill (outcome_refusal (backup_one s st' x im))
        → outcome_answer (backup_one s st x im) ≡ outcome_answer (backup_one s st' x im)
    unfolding backup_one
    image_answer im f f' =
        waits_same outcome_answer im.till to_back_up refused (backup with_blanks s st im.till none im.image) (backup with_blanks s st' im.till none im.image)
        (λ ne p p'. backup_same ne f f' p p')
      where
        backup_same : (im.till ≡ u → ⊥) → FromTill (outcome_refusal (unless (refusal_at s st x im.till to_back_up) refused (backup with_blanks s st im.till none im.image)))
            → FromTill (outcome_refusal (unless (refusal_at s st' x im.till to_back_up) refused (backup with_blanks s st' im.till none im.image)))
            → outcome_answer (unless (refusal_at s st x im.till to_back_up) refused (backup with_blanks s st im.till none im.image)) ≡ outcome_answer (backup with_blanks s st im.till none im.image)
            → outcome_answer (unless (refusal_at s st' x im.till to_back_up) refused (backup with_blanks s st' im.till none im.image)) ≡ outcome_answer (backup with_blanks s st' im.till none im.image)
            → outcome_answer (backup with_blanks s st im.till none im.image) ≡ outcome_answer (backup with_blanks s st' im.till none im.image)
        backup_same ne f f' p p' =
            unfold answer_in till_named in
            plain_same s st st' x (call_backup with_blanks im.till none im.image) refl (subst NotFull p (room_left _ f)) (subst NotFull p' (room_left _ f')) (o im.till ne)

  -- his images change nothing of till `u`
  image_unchanged : Proper s.measures → (st : State) → is_sound s st ≡ true → LacksIn st → (im : TillImage) → view_at s.measures.block_bytes (state_or st (backup_one s st x im)) u ≡ view_at s.measures.block_bytes st u
  unfolding backup_one
  image_unchanged pr st h k im = go (eqb u im.till) refl
    where
      go : (q : Bool) → eqb u im.till ≡ q
          → view_at s.measures.block_bytes (state_or st (unless (refusal_at s st x im.till to_back_up) refused (backup with_blanks s st im.till none im.image))) u ≡ view_at s.measures.block_bytes st u
      go true q =
          ap (λ (z : Outcome After). view_at s.measures.block_bytes (state_or st z) u)
          (unless_some refused (refusal_at s st x im.till to_back_up) (backup with_blanks s st im.till none im.image)
          (subst (λ (t : ℕ). ¬ (refusal_at s st x t to_back_up ≡ 0)) (eqb-true u im.till q) (k to_back_up)))
          ∙ (unfold state_or in refl)
      go false q =
          let acc : Bool = eqb (outcome_refusal (for_user s st x im.till to_back_up (backup with_blanks s st im.till none im.image))) 0 in
          ap (λ (z : State). view_at s.measures.block_bytes z u)
          (done_made s st (call_backup with_blanks im.till none im.image) acc (state_or st (for_user s st x im.till to_back_up (backup with_blanks s st im.till none im.image)))
          (backup_done s st x with_blanks im.till none im.image acc refl))
          ∙ made_other s u pr (record { call = call_backup with_blanks im.till none im.image; accepted = acc }) st h tt u (unfold till_named in eqb-false u im.till q)

  each_same : Proper s.measures → (ims : List TillImage) (n : ℕ) → length ims ≤ n → (st st' : State) → is_sound s st ≡ true → is_sound s st' ≡ true → Off s u st st' → LacksIn st → LacksIn st'
      → Each FromTill (fill n (backup_each s st x ims).refusals) → Each FromTill (fill n (backup_each s st' x ims).refusals)
      → ((backup_each s st x ims).refusals ≡ (backup_each s st' x ims).refusals) × ((backup_each s st x ims).versions ≡ (backup_each s st' x ims).versions)
  unfolding backup_each fill
  each_same pr [] n l st st' h h' o k k' f f' = (refl, refl)
  each_same pr (im ∷ ims) zero l st st' h h' o k k' f f' = absurd (omega (arith, l))
  each_same pr (im ∷ ims) (suc n) l st st' h h' o k k' f f' =
      let one = image_answer st st' o k k' im f.0 f'.0 in
      let later = each_same pr ims n (omega (arith, l)) (state_or st (backup_one s st x im)) (state_or st' (backup_one s st' x im)) (one_sound s pr x im st h) (one_sound s pr x im st' h')
      (one_off s u pr x im st st' h h' o f.0 f'.0)
      (λ right e. k right (sym (refusal_same s (state_or st (backup_one s st x im)) st x u right (image_unchanged pr st h k im)) ∙ e))
      (λ right e. k' right (sym (refusal_same s (state_or st' (backup_one s st' x im)) st' x u right (image_unchanged pr st' h' k' im)) ∙ e)) f.1 f'.1 in
      (ap₂ ◌∷◌ (answer_refusal _ _ one) later.0, ap₂ ◌∷◌ (answer_number _ _ one) later.1)

-- the first message is refused by its arguments alone
offer_refusal_lem : (s : Shape) (st : State) (t : ℕ) (fs ms : List ℕ) → (offer_in sha1 (some (record { shape = s; state = st })) t fs ms).refusal ≡ cond (leb s.capacities.tills t) 3 (cond (not (offer_fits s fs ms)) 4 0)
unfolding offer_in offer
offer_refusal_lem s st t fs ms = go (leb s.capacities.tills t) (not (offer_fits s fs ms)) _
  where
    go : (gone odd : Bool) (marks : List ℕ) → (offer_answer ms (cond gone (refused 3) (cond odd (refused 4) (done marks)))).refusal ≡ cond gone 3 (cond odd 4 0)
    go true odd marks = unfold offer_answer in refl
    go false true marks = unfold offer_answer in refl
    go false false marks = unfold offer_answer in refl

module _ (s : Shape) (u x : ℕ) (b b' : Buffers) (st st' : State) (l : Represents s b st) (l' : Represents s b' st') (o : Off s u st st') (k : Lacks x u b) (k' : Lacks x u b') where
  lacks_in : LacksIn s u x st
  lacks_in right e = k right (refusal_at_lem s b st x l u right ∙ e)

  lacks_in' : LacksIn s u x st'
  lacks_in' right e = k' right (refusal_at_lem s b' st' x l' u right ∙ e)

  closing_in : (ts ns is : List ℕ) (fit : Bool) → closing_fits ts ns is ≡ fit
      → Each FromTill (all_answer (cond fit (done (backup_each s st x (images_in ts ns is))) (refused 4))).refusals → Each FromTill (all_answer (cond fit (done (backup_each s st' x (images_in ts ns is))) (refused 4))).refusals
      → backed_up_all (all_answer (cond fit (done (backup_each s st x (images_in ts ns is))) (refused 4))) ≡ backed_up_all (all_answer (cond fit (done (backup_each s st' x (images_in ts ns is))) (refused 4)))
  unfolding all_answer
  closing_in ts ns is true e f f' =
      let r = each_same s u x l.fit.proper (images_in ts ns is) 16 (omega (arith, images_few ts ns is, sixteen ts ns is e)) st st' l.sound l'.sound o lacks_in lacks_in' f f' in
      ap₂ (λ (rs vs : List ℕ). backed_up_all (record { refusal = 0; refusals = fill 16 rs; versions = fill 16 vs })) r.0 r.1
  closing_in ts ns is false e f f' = refl

  -- what his call answers on the states
  same_in : (call : Call) → IsFromTill (answer_in_by s st x call) → IsFromTill (answer_in_by s st' x call) → NoneShare sha1 (segments_met b call ++ segments_met b' call)
      → SameAnswer call (answer_in_by s st x call) (answer_in_by s st' x call)
  unfolding answer_in_by answer_in
  same_in (call_layout c) f f' n = tt
  same_in (call_backup era t d image) f f' n =
      waits_same s u x st st' o lacks_in lacks_in' outcome_answer t to_back_up refused (backup era s st t d image) (backup era s st' t d image)
      (λ ne p p'. unfold till_named in plain_same s st st' x (call_backup era t d image) refl (subst NotFull p (room_left _ f)) (subst NotFull p' (room_left _ f')) (o t ne))
  same_in (call_restore t v output) f f' n =
      waits_same s u x st st' o lacks_in lacks_in' restored t to_restore (λ n. restore_refusal n output) (restore s st t v output) (restore s st' t v output)
      (λ ne p p'. unfold till_named in plain_same s st st' x (call_restore t v output) refl tt tt (o t ne))
  same_in (call_retire t v) f f' n =
      waits_same s u x st st' o lacks_in lacks_in' (λ (z : Outcome After). retired (outcome_refusal z) (outcome_number z)) t to_retire refused (retire s st t v) (retire s st' t v)
      (λ ne p p'. unfold till_named in plain_same s st st' x (call_retire t v) refl tt tt (o t ne))
  same_in (call_listing t) f f' n =
      waits_same s u x st st' o lacks_in lacks_in' listed t to_list listing_refusal (listing_in (some (record { shape = s; state = st })) t) (listing_in (some (record { shape = s; state = st' })) t)
      (λ ne p p'. unfold till_named in plain_same s st st' x (call_listing t) refl tt tt (o t ne))
  same_in (call_version_on t day) f f' n =
      waits_same s u x st st' o lacks_in lacks_in' found_on t to_list version_on_refusal (version_on_in (some (record { shape = s; state = st })) t day) (version_on_in (some (record { shape = s; state = st' })) t day)
      (λ ne p p'. unfold till_named in plain_same s st st' x (call_version_on t day) refl tt tt (o t ne))
  same_in call_tally f f' n =
      unless_same tallied (not_owner x) (not_owner x) refl tally_refusal (tally_in (some (record { shape = s; state = st }))) (tally_in (some (record { shape = s; state = st' })))
      (λ z p p'. absurd (not_owner_lem (leb s.capacities.tills u) (till_of st u).rights x to_list (lacks_in to_list) (eqb-true (not_owner x) 0 z)))
  same_in (call_bill price) f f' n =
      unless_same billed (not_owner x) (not_owner x) refl bill_refused (bill_in (some (record { shape = s; state = st })) price) (bill_in (some (record { shape = s; state = st' })) price)
      (λ z p p'. absurd (not_owner_lem (leb s.capacities.tills u) (till_of st u).rights x to_list (lacks_in to_list) (eqb-true (not_owner x) 0 z)))
  same_in (call_write_stream t v output) f f' n =
      waits_same s u x st st' o lacks_in lacks_in' streamed t to_restore (λ n. stream_refusal n output) (write_version s st t v output) (write_version s st' t v output)
      (λ ne p p'. unfold till_named in plain_same s st st' x (call_write_stream t v output) refl tt tt (o t ne))
  same_in (call_offer t fs ms) f f' n =
      unfold refusal_in in
      waits_same s u x st st' o lacks_in lacks_in' (λ (a : OfferAnswer). a.refusal) t to_back_up (λ n. record { refusal = n; marks = ms }) (offer_in sha1 (some (record { shape = s; state = st })) t fs ms)
      (offer_in sha1 (some (record { shape = s; state = st' })) t fs ms) (λ ne p p'. offer_refusal_lem s st t fs ms ∙ sym (offer_refusal_lem s st' t fs ms))
  same_in (call_backup_sent t m fs ms ss) f f' n =
      waits_same s u x st st' o lacks_in lacks_in' outcome_answer t to_back_up refused (backup_sent sha1 s st t m fs ms ss) (backup_sent sha1 s st' t m fs ms ss)
      (λ ne p p'. (sent_other s u b b' st st' l l' o x t m fs ms ss n ne (subst IsFromTill p f) (subst IsFromTill p' f')).1)
  same_in (call_backup_all ts ns is) f f' n = unfold backup_all in closing_in ts ns is (closing_fits ts ns is) refl (unfold backup_all in f) (unfold backup_all in f')
  same_in (call_set_rights subject t r) f f' n = set_same s st st' x subject t r

  -- and on the buffers
  same_answer : (call : Call) → IsFromTill (answer_by b x call) → IsFromTill (answer_by b' x call) → NoneShare sha1 (segments_met b call ++ segments_met b' call)
      → SameAnswer call (answer_by b x call) (answer_by b' x call)
  same_answer call f f' n =
      subst (λ (a : Answer). SameAnswer call a (answer_by b' x call)) (sym (answer_by_lem s b st x call l))
      (subst (SameAnswer call (answer_in_by s st x call)) (sym (answer_by_lem s b' st' x call l'))
      (same_in call (subst IsFromTill (answer_by_lem s b st x call l) f) (subst IsFromTill (answer_by_lem s b' st' x call l') f') n))

-- ---- the two histories

module _ (s : Shape) (x u : ℕ) where
  agree : (items : List Item) (b b' : Buffers) (st st' : State) → Represents s b st → Represents s b' st' → Off s u st st' → Differ x u b b' items → Agree x b b' items
  agree [] b b' st st' l l' o d = tt
  agree (both c ∷ items) b b' st st' l l' o d =
      let i : InBoth x u b b' c = d.0 in (
        (λ e. subst (λ (y : ℕ). IsFromTill (answer_by b y c.call) → IsFromTill (answer_by b' y c.call) → SameAnswer c.call (answer_by b y c.call) (answer_by b' y c.call)) (sym e)
            (λ f f'. same_answer s u x b b' st st' l l' o i.lacks.0 i.lacks.1 c.call f f' i.none_share) i.from_till.0 i.from_till.1),
        agree items (buffers_by b c.user c.call) (buffers_by b' c.user c.call) (state_by s st c.user c.call) (state_by s st' c.user c.call)
            (left_by s b st c.user c.call l i.layouts.0) (left_by s b' st' c.user c.call l' i.layouts.1)
            (off_carried s u l.fit.proper (comes_to b c.user c.call) (comes_to b' c.user c.call) st st' (state_by s st c.user c.call) (state_by s st' c.user c.call) l.sound l'.sound
            (carried s b st l c.user c.call) (carried s b' st' l' c.user c.call)
            (both_alike s u b b' st st' l l' o c.user c.call i.from_till.0 i.from_till.1 i.none_share) o) d.1,
      )
  agree (first c ∷ items) b b' st st' l l' o d =
      agree items (buffers_by b c.user c.call) b' (state_by s st c.user c.call) st' (left_by s b st c.user c.call l (no_layout_on u b c.call d.0)) l'
      (λ t ne. off_one s u b st l c d.0 t ne ∙ o t ne) d.1
  agree (second c ∷ items) b b' st st' l l' o d =
      agree items b (buffers_by b' c.user c.call) st (state_by s st' c.user c.call) l (left_by s b' st' c.user c.call l' (no_layout_on u b' c.call d.0))
      (λ t ne. o t ne ∙ sym (off_one s u b' st' l' c d.0 t ne)) d.1

-- §9's claim, for every setting, every user and every till.
pub non_interference : NonInterference
non_interference s pool table pool' table' x u items accepted accepted' d =
    agree s x u items (laid_out_in s pool table) (laid_out_in s pool' table') (empty_state s) (empty_state s) (left_laid s pool table accepted) (left_laid s pool' table' accepted') (λ t ne. refl) d
