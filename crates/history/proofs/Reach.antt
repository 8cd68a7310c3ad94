-- The states that calls reach are sound.
use mathlib.Core.Path.{◌≡◌, refl, sym, subst}
use mathlib.Core.Bool.{Bool, true, false, cond}
use Prim.Native.Nat.{ℕ}
use lib.Dec.{eqb}
use mathlib.Core.List.{List, [], ◌∷◌}
use mathlib.Core.Option.{Option, none}
use Rattle.model.specs.Measures.{Shape}
use Rattle.model.specs.Image.{Era, with_blanks}
use Rattle.model.specs.State.{Rights, State, Outcome, refused, done}
use Rattle.model.specs.Sound.{is_sound}
use Rattle.model.specs.Calls.{backup, retire, After, state_or}
use Rattle.model.specs.Rights.{to_back_up, refusal_at, unless, set_rights}
use Rattle.laws.proofs.Fits.{Proper}
use Rattle.laws.proofs.Backup.{backup_sound}
use Rattle.laws.proofs.Retire.{retire_sound}
use Rattle.laws.proofs.Keys.{rights_set_lem}
use Rattle.history.specs.Calls.{Call, call_layout, call_backup, call_restore, call_retire, call_listing, call_version_on, call_tally, call_bill, call_write_stream, call_offer, call_backup_sent, call_backup_all, call_set_rights}
use Rattle.history.proofs.Calls.{state_after}
use Rattle.closing.specs.Closing.{TillImage, images_in, closing_fits, backup_one, backup_each, closed_or, backup_all}
use Rattle.history.specs.Keeper.{image_sent}
use Rattle.history.proofs.Sent.{here, sent_alike}

module _ (s : Shape) (pr : Proper s.measures) (st : State) (h : is_sound s st ≡ true) where
  backup_good : (era : Era) (t : ℕ) (d : Option ℕ) (image : List ℕ) (o : Outcome After) → backup era s st t d image ≡ o → is_sound s (state_or st o) ≡ true
  unfolding state_or
  backup_good era t d image (refused n) q = h
  backup_good era t d image (done a) q = backup_sound era s pr t d image st a h q

  retire_good : (t v : ℕ) (o : Outcome After) → retire s st t v ≡ o → is_sound s (state_or st o) ≡ true
  unfolding state_or
  retire_good t v (refused n) q = h
  retire_good t v (done a) q = retire_sound s t v st a h q

-- a user's call leaves what the call leaves, or nothing is altered
pub unless_sound : (s : Shape) (st : State) (n : ℕ) (o : Outcome After) → is_sound s st ≡ true → is_sound s (state_or st o) ≡ true → is_sound s (state_or st (unless n refused o)) ≡ true
unfolding state_or
unless_sound s st n o h g = go (eqb n 0)
  where
    go : (b : Bool) → is_sound s (state_or st (cond b o (refused n))) ≡ true
    go true = g
    go false = unfold state_or in h

pub one_sound : (s : Shape) → Proper s.measures → (user : ℕ) (x : TillImage) (st : State) → is_sound s st ≡ true → is_sound s (state_or st (backup_one s st user x)) ≡ true
unfolding backup_one
one_sound s pr user x st h =
    unless_sound s st (refusal_at s st user x.till to_back_up) (backup with_blanks s st x.till none x.image) h
    (backup_good s pr st h with_blanks x.till none x.image (backup with_blanks s st x.till none x.image) refl)

-- "the store stays sound between the images" of a closing
each_sound : (s : Shape) → Proper s.measures → (user : ℕ) (xs : List TillImage) (st : State) → is_sound s st ≡ true → is_sound s (backup_each s st user xs).state ≡ true
unfolding backup_each
each_sound s pr user [] st h = h
each_sound s pr user (x ∷ xs) st h = each_sound s pr user xs (state_or st (backup_one s st user x)) (one_sound s pr user x st h)

module _ (s : Shape) (pr : Proper s.measures) (st : State) (h : is_sound s st ≡ true) where
  pub closing_sound : (user : ℕ) (ts ns is : List ℕ) → is_sound s (closed_or st (backup_all s st user ts ns is)) ≡ true
  unfolding backup_all
  closing_sound user ts ns is = go (closing_fits ts ns is)
    where
      go : (fit : Bool) → is_sound s (closed_or st (cond fit (done (backup_each s st user (images_in ts ns is))) (refused 4))) ≡ true
      go true = unfold closed_or in each_sound s pr user (images_in ts ns is) st h
      go false = unfold closed_or in h

  pub rights_good : (user subject t : ℕ) (r : Rights) (o : Outcome After) → set_rights s st user subject t r ≡ o → is_sound s (state_or st o) ≡ true
  unfolding state_or
  rights_good user subject t r (refused n) q = h
  rights_good user subject t r (done a) q = (rights_set_lem s st user subject t r a h q).sound

  pub sound_after : (call : Call) → is_sound s (state_after s st call) ≡ true
  unfolding state_after
  sound_after (call_layout c) = h
  sound_after (call_backup era t d image) = backup_good s pr st h era t d image (backup era s st t d image) refl
  sound_after (call_restore t v output) = h
  sound_after (call_retire t v) = retire_good s pr st h t v (retire s st t v) refl
  sound_after (call_listing t) = h
  sound_after (call_version_on t day) = h
  sound_after call_tally = h
  sound_after (call_bill price) = h
  sound_after (call_write_stream t v output) = h
  sound_after (call_offer t fs ms) = h
  sound_after (call_backup_sent t n fs ms ss) =
      subst (λ (x : State). is_sound s x ≡ true) (sym (sent_alike s st t n fs ms ss).0)
      (let image : List ℕ = image_sent (here s st) t n fs ms ss in backup_good s pr st h with_blanks t none image (backup with_blanks s st t none image) refl)
  sound_after (call_backup_all ts ns is) = closing_sound 0 ts ns is
  sound_after (call_set_rights subject t r) = rights_good 0 subject t r (set_rights s st 0 subject t r) refl
