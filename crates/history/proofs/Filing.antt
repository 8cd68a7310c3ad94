-- What an accepted backup and an accepted retire make of what the tills show.
use mathlib.Core.Path.{◌≡◌, refl, sym, ap, ap₂, ◌∙◌}
use mathlib.Core.Bool.{true}
use mathlib.Core.List.{List, [], ◌∷◌, ◌++◌, map}
use mathlib.Core.Option.{Option}
use Prim.Native.Nat.{ℕ, suc}
use lib.ListN.{length, get_or, set}
use lib.Seq.{get_or-set_same, get_or-set_other}
use Rattle.lists.proofs.Tests.{clause}
use Rattle.model.specs.Measures.{Shape}
use Rattle.model.specs.State.{Storage, Version, Rights, Till, State}
use Rattle.model.specs.Image.{Era, image_blocks}
use Rattle.model.specs.Sound.{is_sound, is_till, all_pointers}
use Rattle.model.specs.Calls.{empty_till, till_of, with_till, held_before, close_up, day_for, After}
use Rattle.model.specs.Rights.{with_rights}
use Rattle.laws.proofs.Fits.{Proper}
use Rattle.laws.proofs.Serves.{Serves, till_among}
use Rattle.laws.proofs.Backup.{Filed}
use Rattle.laws.proofs.Takeover.{Between, between}
use Rattle.laws.proofs.Retire.{Retired}
use Rattle.laws.proofs.Keys.{RightsSet}
use Rattle.history.proofs.View.{VersionView, view_versions, view_of, view_at, new_kind, turn_newest, day_shown, shown_with, drop_version, shown_without, shown_rights}
use Rattle.history.proofs.Views.{view_path, view_again, views_again, views_extended, views_closed, new_image, new_kinds}
use Rattle.history.proofs.Traced.{cuts, till_ok}
use Rattle.history.proofs.Shown.{day_is}

-- the other tills are left alone
till_other : (st : State) (a : After) (t : ℕ) (till : Till) → a.state.tills ≡ set st.tills t till → (u : ℕ) → (u ≡ t → ⊥) → till_of a.state u ≡ till_of st u
unfolding till_of
till_other st a t till e u ne = ap (λ (ts : List Till). get_or ts u empty_till) e ∙ get_or-set_other st.tills t u till empty_till ne

-- a till on a storage that serves the pointers of all
serves_till : (s : Shape) (a b : Storage) (st : State) → Serves s.measures a b (all_pointers st.tills) → (u : ℕ)
    → view_of s.measures.block_bytes b (till_of st u) ≡ view_of s.measures.block_bytes a (till_of st u)
unfolding till_of
serves_till s a b st sv u = view_again s a b (all_pointers st.tills) sv (get_or st.tills u empty_till) (λ k i. till_among k i st.tills u)

-- ---- backup

module _ (era : Era) (s : Shape) (pr : Proper s.measures) (st : State) (h : is_sound s st ≡ true) (t : ℕ) (d : Option ℕ) (image : List ℕ) (a : After)
    (f : Filed era s st t (day_for d (till_of st t).versions) image a) where
  till_is : till_of a.state t ≡ f.till
  unfolding till_of
  till_is = ap (λ (ts : List Till). get_or ts t empty_till) f.tills ∙ get_or-set_same st.tills t f.till empty_till f.there

  old_views : view_versions s.measures.block_bytes f.placed (till_of st t).versions ≡ view_versions s.measures.block_bytes st.storage (till_of st t).versions
  unfolding till_of
  old_views = views_again s st.storage f.placed (all_pointers st.tills) f.kept (get_or st.tills t empty_till).versions (λ k i. till_among k i st.tills t)

  new_view : view_versions s.measures.block_bytes f.placed (f.version ∷ [])
      ≡ record { number = suc (till_of st t).last; length = length image; day = day_for d (till_of st t).versions; image = image; kinds = map (new_kind era) (image_blocks s.measures.block_bytes image) } ∷ []
  unfolding view_versions
  new_view =
      ap (λ (w : VersionView). w ∷ [])
      (view_path _ _ _ _ _ _ _ _ _ _ f.number f.bytes f.dated (new_image era s.measures pr f.placed image f.version f.good f.bytes f.size)
      (new_kinds era s.measures f.placed (image_blocks s.measures.block_bytes image) f.version.pointers f.good f.size))

  -- its day, by what the till showed
  dated : ◌≡◌ {A = List VersionView}
      (record { number = suc (till_of st t).last; length = length image; day = day_for d (till_of st t).versions; image = image; kinds = map (new_kind era) (image_blocks s.measures.block_bytes image) } ∷ [])
      (record { number = suc (till_of st t).last; length = length image; day = day_shown d (view_versions s.measures.block_bytes st.storage (till_of st t).versions); image = image; kinds = map (new_kind era) (image_blocks s.measures.block_bytes image) } ∷ [])
  dated = ap (λ (w : VersionView). w ∷ []) (view_path _ _ _ _ _ _ _ _ _ _ refl refl (day_is s.measures.block_bytes st.storage d (till_of st t).versions) refl refl)

  all_views : view_versions s.measures.block_bytes f.placed f.till.versions
      ≡ (shown_with era s.measures.block_bytes (view_at s.measures.block_bytes st t) d image).versions
  unfolding is_till shown_with view_of
  all_views =
      ap (view_versions s.measures.block_bytes f.placed) f.versions
      ∙ views_extended era s f.placed f.exact (image_blocks s.measures.block_bytes image) f.version f.good (till_of st t).versions (clause _ 1 f.before)
      (cuts s pr st h f.placed f.kept (till_of st t).versions (till_ok s pr st h t f.there) (unfold till_of in (λ k i. till_among k i st.tills t)))
      ∙ ap₂ (λ (l n : List VersionView). turn_newest era s.measures.block_bytes (image_blocks s.measures.block_bytes image) l ++ n) old_views (new_view ∙ dated)

  pub filed_own : view_at s.measures.block_bytes a.state t ≡ shown_with era s.measures.block_bytes (view_at s.measures.block_bytes st t) d image
  filed_own =
      serves_till s f.placed a.state.storage a.state f.swept t
      ∙ ap (view_of s.measures.block_bytes f.placed) till_is
      ∙ (unfold view_of shown_with in (λ j. record { last = f.last j; rights = f.rights j; versions = all_views j }))

  pub filed_other : (u : ℕ) → (u ≡ t → ⊥) → view_at s.measures.block_bytes a.state u ≡ view_at s.measures.block_bytes st u
  filed_other u ne =
      serves_till s f.placed a.state.storage a.state f.swept u
      ∙ ap (view_of s.measures.block_bytes f.placed) (till_other st a t f.till f.tills u ne)
      ∙ serves_till s st.storage f.placed st f.kept u

-- ---- retire

module _ (s : Shape) (st : State) (t v : ℕ) (a : After) (f : Retired s st t v a) where
  after : Till
  after = record { last = (till_of st t).last; rights = (till_of st t).rights; versions = close_up (held_before v (till_of st t).versions) f.version f.newer }

  after_is : till_of a.state t ≡ after
  unfolding till_of after
  after_is = ap (λ (ts : List Till). get_or ts t empty_till) f.tills ∙ get_or-set_same st.tills t after empty_till f.there

  pub retired_own : view_at s.measures.block_bytes a.state t ≡ shown_without (view_at s.measures.block_bytes st t) v
  retired_own =
      serves_till s st.storage a.state.storage a.state f.swept t
      ∙ ap (view_of s.measures.block_bytes st.storage) after_is
      ∙ (unfold view_of shown_without after in (λ j. record { last = (till_of st t).last; rights = (till_of st t).rights; versions = rest j }))
    where
      b : Between v (till_of st t).versions f.version f.newer
      b = between v (till_of st t).versions f.version f.newer f.from

      rest : view_versions s.measures.block_bytes st.storage (close_up (held_before v (till_of st t).versions) f.version f.newer)
          ≡ drop_version v (view_versions s.measures.block_bytes st.storage (till_of st t).versions)
      rest =
          views_closed s.measures st.storage v f.version f.newer b.named (held_before v (till_of st t).versions) b.others
          ∙ ap (λ (vs : List Version). drop_version v (view_versions s.measures.block_bytes st.storage vs)) (sym b.split)

  pub retired_other : (u : ℕ) → (u ≡ t → ⊥) → view_at s.measures.block_bytes a.state u ≡ view_at s.measures.block_bytes st u
  retired_other u ne =
      serves_till s st.storage a.state.storage a.state f.swept u
      ∙ ap (view_of s.measures.block_bytes st.storage) (till_other st a t _ f.tills u ne)

-- ---- rights

module _ (s : Shape) (st : State) (subject t : ℕ) (r : Rights) (a : After) (f : RightsSet s st subject t r a) where
  tills_are : a.state.tills ≡ set st.tills t (with_rights (till_of st t) subject r)
  unfolding with_till
  tills_are = ap (λ (x : State). x.tills) f.state

  storage_is : a.state.storage ≡ st.storage
  unfolding with_till
  storage_is = ap (λ (x : State). x.storage) f.state

  new_till : till_of a.state t ≡ with_rights (till_of st t) subject r
  unfolding till_of
  new_till = ap (λ (ts : List Till). get_or ts t empty_till) tills_are ∙ get_or-set_same st.tills t (with_rights (till_of st t) subject r) empty_till f.there

  pub rights_own : view_at s.measures.block_bytes a.state t ≡ shown_rights (view_at s.measures.block_bytes st t) subject r
  unfolding view_of shown_rights with_rights
  rights_own = ap₂ (view_of s.measures.block_bytes) storage_is new_till

  pub rights_other : (u : ℕ) → (u ≡ t → ⊥) → view_at s.measures.block_bytes a.state u ≡ view_at s.measures.block_bytes st u
  rights_other u ne = ap₂ (view_of s.measures.block_bytes) storage_is (till_other st a t _ tills_are u ne)
