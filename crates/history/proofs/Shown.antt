-- What a till's versions show, part by part: how many, their numbers, the versions from a number on, the longest chain.
use mathlib.Core.Path.{◌≡◌, refl, ap, ◌∙◌, sym, subst}
use mathlib.Core.Bool.{Bool, true, false, cond}
use mathlib.Core.List.{List, [], ◌∷◌, map}
use mathlib.Core.Option.{Option, none, some}
use Prim.Native.Nat.{ℕ, suc}
use lib.ListN.{length, get_or, length-map, get_or-map, get_or-eq_default}
use lib.Dec.{eqb, ltb, leb}
use borrow.Author.Tests.{ltb-true, ltb-false}
use Rattle.lists.specs.Lists.{counted, keep, largest, rises, last_of}
use Rattle.lists.proofs.Last.{last_map}
use Rattle.lists.proofs.Counted.{counted_same}
use Rattle.lists.proofs.Keep.{keep_same}
use Rattle.lists.proofs.Tests.{clause, every_at}
use Rattle.model.specs.Measures.{Shape}
use Rattle.model.specs.State.{Pointer, null_pointer, blank_pointer, direct, indirect, Storage, Version, Till, State}
use Rattle.model.specs.Trace.{image_of, hops_via, hops, longest_chain}
use Rattle.model.specs.Sound.{is_sound, is_till, is_numbered}
use Rattle.model.specs.Calls.{empty_till, till_of, held_from, oldest_number, newest_number, newest_day, day_for, VersionOnAnswer, not_after, newest_or_none}
use Rattle.laws.proofs.Serves.{sound_valid}
use Rattle.history.proofs.PointerKinds.{Kind, kind_of, hops_of_kind}
use Rattle.history.proofs.View.{VersionView, view_versions, view_of, view_at, hops_shown, chain_shown, shown_from, oldest_shown, newest_shown, newest_day_shown, day_shown, shown_not_after, newest_shown_or_none}

-- the last of the numbers that are there, or 29
unfoldable pub newest_of : List ℕ → VersionOnAnswer
newest_of [] = record { refusal = 29; version = 0 }
newest_of (n ∷ ns) = record { refusal = 0; version = last_of (λ (x : ℕ). x) 0 (n ∷ ns) }

newest_number_lem : (vs : List Version) → newest_number vs ≡ last_of (λ (n : ℕ). n) 0 (map (λ (v : Version). v.number) vs)
unfolding newest_number
newest_number_lem vs = last_map (λ (v : Version). v.number) 0 vs

newest_shown_lem : (ws : List VersionView) → newest_shown ws ≡ last_of (λ (n : ℕ). n) 0 (map (λ (w : VersionView). w.number) ws)
unfolding newest_shown
newest_shown_lem ws = last_map (λ (w : VersionView). w.number) 0 ws

of_versions : (vs : List Version) → newest_or_none vs ≡ newest_of (map (λ (v : Version). v.number) vs)
unfolding newest_or_none newest_of
of_versions [] = refl
of_versions (v ∷ vs) = ap (λ (n : ℕ). record { refusal = 0; version = n }) (newest_number_lem (v ∷ vs))

pub of_views : (ws : List VersionView) → newest_shown_or_none ws ≡ newest_of (map (λ (w : VersionView). w.number) ws)
unfolding newest_shown_or_none newest_of
of_views [] = refl
of_views (w ∷ ws) = ap (λ (n : ℕ). record { refusal = 0; version = n }) (newest_shown_lem (w ∷ ws))

module _ (bytes : ℕ) (a : Storage) where
  pub views_numbers : (vs : List Version) → map (λ (w : VersionView). w.number) (view_versions bytes a vs) ≡ map (λ (v : Version). v.number) vs
  unfolding view_versions
  views_numbers [] = refl
  views_numbers (v ∷ vs) = ap {B = List ℕ} (λ l. v.number ∷ l) (views_numbers vs)

  pub views_length : (vs : List Version) → length (view_versions bytes a vs) ≡ length vs
  unfolding view_versions
  views_length [] = refl
  views_length (v ∷ vs) = ap suc (views_length vs)

  pub oldest_is : (vs : List Version) → oldest_number vs ≡ oldest_shown (view_versions bytes a vs)
  unfolding oldest_number oldest_shown view_versions
  oldest_is [] = refl
  oldest_is (v ∷ vs) = refl

  pub newest_is : (vs : List Version) → newest_number vs ≡ newest_shown (view_versions bytes a vs)
  newest_is vs = newest_number_lem vs ∙ ap (last_of (λ (n : ℕ). n) 0) (sym (views_numbers vs)) ∙ sym (newest_shown_lem (view_versions bytes a vs))

  pub views_days : (vs : List Version) → map (λ (w : VersionView). w.day) (view_versions bytes a vs) ≡ map (λ (v : Version). v.day) vs
  unfolding view_versions
  views_days [] = refl
  views_days (v ∷ vs) = ap {B = List ℕ} (λ l. v.day ∷ l) (views_days vs)

  pub newest_day_is : (vs : List Version) → newest_day vs ≡ newest_day_shown (view_versions bytes a vs)
  unfolding newest_day newest_day_shown
  newest_day_is vs =
      last_map (λ (v : Version). v.day) 0 vs
      ∙ ap (last_of (λ (n : ℕ). n) 0) (sym (views_days vs))
      ∙ sym (last_map (λ (w : VersionView). w.day) 0 (view_versions bytes a vs))

  pub day_is : (d : Option ℕ) (vs : List Version) → day_for d vs ≡ day_shown d (view_versions bytes a vs)
  unfolding day_for day_shown
  day_is none vs = newest_day_is vs
  day_is (some day) vs = refl

  -- lookup by day goes by numbers and days
  pub newest_or_none_lem : (day : ℕ) (vs : List Version) → newest_or_none (not_after day vs) ≡ newest_shown_or_none (shown_not_after day (view_versions bytes a vs))
  unfolding not_after shown_not_after
  newest_or_none_lem day vs =
      of_versions (keep (λ (v : Version). leb v.day day) vs)
      ∙ ap newest_of
      (keep_same (λ (n : ℕ). leb n day) (λ (v : Version). v.day) (λ (v : Version). v.number) (λ (w : VersionView). w.day) (λ (w : VersionView). w.number) vs (view_versions bytes a vs)
      (sym (views_days vs)) (sym (views_numbers vs)))
      ∙ sym (of_views (keep (λ (w : VersionView). leb w.day day) (view_versions bytes a vs)))

  pub from_same : (n : ℕ) (vs : List Version) → shown_from n (view_versions bytes a vs) ≡ view_versions bytes a (held_from n vs)
  unfolding shown_from view_versions held_from
  from_same n [] = refl
  from_same n (v ∷ vs) = go (eqb v.number n) (from_same n vs)
    where
      go : (t : Bool) → shown_from n (view_versions bytes a vs) ≡ view_versions bytes a (held_from n vs)
          → cond t (record { number = v.number; length = v.length; day = v.day; image = image_of bytes a (v ∷ vs); kinds = map kind_of v.pointers } ∷ view_versions bytes a vs)
          (shown_from n (view_versions bytes a vs)) ≡ view_versions bytes a (cond t (v ∷ vs) (held_from n vs))
      go true e = refl
      go false e = e

  -- ---- chains

  hops_of : (p : Pointer) (f g : ℕ → ℕ) → ((n : ℕ) → f n ≡ g n) → hops_via p f ≡ hops_of_kind (kind_of p) g
  unfolding hops_via hops_of_kind
  hops_of null_pointer f g h = refl
  hops_of blank_pointer f g h = refl
  hops_of (direct k i) f g h = refl
  hops_of (indirect n) f g h = ap suc (h n)

  hops_is : (vs : List Version) (n : ℕ) → hops vs n ≡ hops_shown (view_versions bytes a vs) n
  unfolding hops hops_shown view_versions
  hops_is [] n = refl
  hops_is (v ∷ newer) n =
      hops_of (get_or v.pointers n null_pointer) (λ k. hops newer k) (λ k. hops_shown (view_versions bytes a newer) k) (hops_is newer)
      ∙ ap (λ (q : Kind). hops_of_kind q (λ k. hops_shown (view_versions bytes a newer) k)) (sym (get_or-map kind_of v.pointers n null_pointer))

  pub chain_is : (vs : List Version) → longest_chain vs ≡ chain_shown (view_versions bytes a vs)
  unfolding longest_chain chain_shown view_versions
  chain_is [] = refl
  chain_is (v ∷ newer) =
      ap largest
      (counted_same (hops (v ∷ newer)) (hops_shown (view_versions bytes a (v ∷ newer))) (hops_is (v ∷ newer)) 0 (length v.pointers)
      ∙ ap (counted (hops_shown (view_versions bytes a (v ∷ newer))) 0) (sym (length-map v.pointers kind_of)))

-- a sound store's numbers rise
pub shown_numbers : (s : Shape) (st : State) → is_sound s st ≡ true → (t : ℕ)
    → rises 0 (view_at s.measures.block_bytes st t).last (map (λ (w : VersionView). w.number) (view_at s.measures.block_bytes st t).versions) ≡ true
unfolding view_of
shown_numbers s st h t =
    ap (rises 0 (till_of st t).last) (views_numbers s.measures.block_bytes st.storage (till_of st t).versions) ∙ go (ltb t (length st.tills)) refl
  where
    go : (b : Bool) → ltb t (length st.tills) ≡ b → rises 0 (till_of st t).last (map (λ (v : Version). v.number) (till_of st t).versions) ≡ true
    go true q = unfold till_of is_till is_numbered in clause _ 2 (clause _ 0 (every_at (is_till s st.storage) empty_till st.tills (sound_valid s st h).tills t (ltb-true t (length st.tills) q)))
    go false q =
        let gone : till_of st t ≡ empty_till = unfold till_of in get_or-eq_default st.tills empty_till (ltb-false t (length st.tills) q) in
        subst (λ (x : Till). rises 0 x.last (map (λ (v : Version). v.number) x.versions) ≡ true) (sym gone) (unfold empty_till rises in refl)
