-- The days of a till's versions: the newest one's, and the newest version not after a day.
use mathlib.Core.Path.{◌≡◌, refl, sym, ap, ◌∙◌}
use mathlib.Core.List.{List, [], ◌∷◌, ◌++◌, map}
use Prim.Native.Nat.{ℕ, ◌+◌, ◌-◌, ◌*◌, ◌≤◌, ◌<◌}
use native.Mathlib.Omega.{arith}
use Rattle.std.proofs.Common.{Some, None}
use lib.ListN.{length, get_or, take, get_or-map, get_or-eq_default}
use lib.Dec.{leb}
use borrow.Author.Tests.{le-leb, lt-leb}
use Rattle.lists.specs.Lists.{keep, last_of}
use Rattle.lists.proofs.Last.{last_snoc}
use Rattle.lists.proofs.Keep.{keep_not_last, keep_last}
use Rattle.lists.proofs.Slices.{take_next, none_left}
use Rattle.model.specs.State.{Version, Till}
use Rattle.model.specs.Table.{shape_of, state_in}
use Rattle.model.specs.Calls.{empty_till, till_of, newest_number, newest_day, VersionOnAnswer, not_after, newest_or_none, version_on_in, version_on_of}
use Rattle.laws.specs.Stores.{till_at, Sound}
use Rattle.laws.proofs.Stores.{fits}
use Rattle.laws.proofs.Tills.{no_version, in_words, slot_in, newest_day_at, day_word}
use Rattle.tills.specs.declared.Head.{Head}
use Rattle.tills.specs.Answers.{HeadOf, versions_held, numbers_held, days_held, UptoDay}

-- ---- those of some versions that are not after a day

number_last : (us : List Version) (u : Version) → newest_number (us ++ (u ∷ [])) ≡ u.number
unfolding newest_number
number_last us u = last_snoc (λ (v : Version). v.number) 0 us u

newest_last : (us : List Version) (u : Version) → newest_or_none (us ++ (u ∷ [])) ≡ record { refusal = 0; version = u.number }
unfolding newest_or_none
newest_last [] u = ap {B = VersionOnAnswer} (λ (n : ℕ). record { refusal = 0; version = n }) (number_last [] u)
newest_last (v ∷ us) u = ap {B = VersionOnAnswer} (λ (n : ℕ). record { refusal = 0; version = n }) (number_last (v ∷ us) u)

module _ (day : ℕ) (vs : List Version) (j : ℕ) (l : j < length vs) where
  here : get_or (map (λ (v : Version). v.day) vs) j 0 ≡ (get_or vs j no_version).day
  here = get_or-map (λ (v : Version). v.day) vs j no_version

  pub after_left : day < get_or (map (λ (v : Version). v.day) vs) j 0 → not_after day (take (j + 1) vs) ≡ not_after day (take j vs)
  unfolding not_after
  after_left h =
      ap (keep (λ (v : Version). leb v.day day)) (take_next vs j no_version l)
      ∙ keep_not_last (λ (v : Version). leb v.day day) (take j vs) (get_or vs j no_version) (lt-leb (get_or vs j no_version).day day (omega (arith, h, here)))

  kept_last : get_or (map (λ (v : Version). v.day) vs) j 0 ≤ day → not_after day (take (j + 1) vs) ≡ not_after day (take j vs) ++ (get_or vs j no_version ∷ [])
  unfolding not_after
  kept_last h =
      ap (keep (λ (v : Version). leb v.day day)) (take_next vs j no_version l)
      ∙ keep_last (λ (v : Version). leb v.day day) (take j vs) (get_or vs j no_version) (le-leb (get_or vs j no_version).day day (omega (arith, h, here)))

  -- the newest of those kept
  pub newest_kept_lem : get_or (map (λ (v : Version). v.day) vs) j 0 ≤ day
      → newest_or_none (not_after day (take (j + 1) vs)) ≡ record { refusal = 0; version = get_or (map (λ (v : Version). v.number) vs) j 0 }
  newest_kept_lem h =
      ap newest_or_none (kept_last h) ∙ newest_last (not_after day (take j vs)) (get_or vs j no_version)
      ∙ ap {B = VersionOnAnswer} (λ (n : ℕ). record { refusal = 0; version = n }) (sym (get_or-map (λ (v : Version). v.number) vs j no_version))

-- ---- a till of a sound store

module _ {pool table : List ℕ} (h : Sound pool table) (t : ℕ) where
  abbrev versions : List Version
  versions = versions_held pool table t

  pub no_till_day : get_or table 0 0 ≤ t → 0 ≡ newest_day versions
  unfolding till_of empty_till last_of newest_day shape_of
  no_till_day n = ap (λ (x : Till). newest_day x.versions) (sym (get_or-eq_default (state_in (shape_of table) pool table).tills empty_till (omega (arith, n, (fits h).till_count))))

  pub no_till_on : (day : ℕ) → get_or table 0 0 ≤ t → record { refusal = 3; version = 0 } ≡ version_on_of pool table t day
  unfolding version_on_of version_on_in shape_of
  no_till_on day n = rw (h.is, le-leb _ _ n)

  pub no_day : (r : Head) → HeadOf pool table t r → r.held ≡ 0 → 0 ≡ newest_day versions
  unfolding last_of newest_day
  no_day r o e = ap newest_day (sym (none_left versions (sym o.held ∙ e)))

  pub last_day : (r : Head) → HeadOf pool table t r → (r.held ≡ 0 → ⊥) → (d : ℕ) → d ≡ get_or (days_held pool table t) (r.held - 1) 0 → d ≡ newest_day versions
  last_day r o z d e = e ∙ go versions o.held
    where
      go : (vs : List Version) → r.held ≡ length vs → get_or (map (λ (v : Version). v.day) vs) (r.held - 1) 0 ≡ newest_day vs
      go [] q = absurd (z q)
      go (v ∷ vs) q = let k : r.held - 1 ≡ length vs = omega (arith, q) in ap (λ (i : ℕ). get_or (map (λ (w : Version). w.day) (v ∷ vs)) i 0) k ∙ sym (newest_day_at v vs)

  module _ (in_table : t < get_or table 0 0) where
    pub day_within : (at j : ℕ) → at ≡ till_at (shape_of table) t → j < length versions → at + (4 + j * (3 + get_or table 2 0)) + 2 < length table
    unfolding shape_of
    day_within at j e l = omega (arith, e, slot_in h t in_table j l, in_words h t in_table)

    pub day_is : (at j : ℕ) → at ≡ till_at (shape_of table) t → j < length versions → get_or table (at + (4 + j * (3 + get_or table 2 0)) + 2) 0 ≡ get_or (days_held pool table t) j 0
    day_is at j e l = ap (λ (a : ℕ). get_or table (a + (4 + j * (3 + get_or table 2 0)) + 2) 0) e ∙ day_word h t in_table j l

    on_till : (day : ℕ) → version_on_of pool table t day ≡ newest_or_none (not_after day versions)
    unfolding version_on_of version_on_in shape_of
    on_till day = rw (h.is, lt-leb _ _ in_table)

    pub none_on : (day : ℕ) → UptoDay pool table t day None → record { refusal = 29; version = 0 } ≡ version_on_of pool table t day
    unfolding newest_or_none not_after keep
    none_on day u = sym (on_till day ∙ ap newest_or_none u.all)

    pub found_on_lem : (day j : ℕ) → UptoDay pool table t day (Some j) → (v : ℕ) → v ≡ get_or (numbers_held pool table t) j 0
        → record { refusal = 0; version = v } ≡ version_on_of pool table t day
    found_on_lem day j u v e =
        ap {B = VersionOnAnswer} (λ (i : ℕ). record { refusal = 0; version = i }) e
        ∙ sym (on_till day ∙ ap newest_or_none u.all ∙ newest_kept_lem day versions j (omega (arith, u.most)) (u.last j refl))

-- ---- the walk, from the newest down: all that are not after the day are among the first j

module _ (pool table : List ℕ) (t day : ℕ) where
  abbrev pub Among : ℕ → Type 0
  Among j = not_after day (versions_held pool table t) ≡ not_after day (take j (versions_held pool table t))

  pub among_less : (j : ℕ) → 0 < j → j ≤ length (versions_held pool table t) → Among j → day < get_or (days_held pool table t) (j - 1) 0 → Among (j - 1)
  among_less j s l a h =
      let q : j ≡ j - 1 + 1 = omega (arith, s) in
      a ∙ ap (λ (i : ℕ). not_after day (take i (versions_held pool table t))) q ∙ after_left day (versions_held pool table t) (j - 1) (omega (arith, s, l)) h
