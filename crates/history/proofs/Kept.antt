-- The keeper beside what the tills show: each kept version is shown with its number, its length and its image, and a block that it shares with a version
-- taken while it was its till's newest is not stored for itself.
use mathlib.Core.Path.{◌≡◌, refl, sym, ap, ap₂, ◌∙◌, subst}
use mathlib.Core.Bool.{Bool, true, false, cond, not, false≢true}
use mathlib.Core.List.{List, [], ◌∷◌, ◌++◌, map}
use mathlib.Core.Option.{Option, none, some}
use Prim.Native.Nat.{ℕ, zero, suc, ◌-◌, ◌≤◌, ◌<◌}
use native.Mathlib.Nat.{le_refl}
use native.Mathlib.Omega.{arith}
use lib.ListN.{length, get_or, set, length-map}
use lib.Dec.{eqb}
use borrow.Author.Tests.{eqb-true, ne_eqb}
use Rattle.lists.specs.Lists.{keep, is_some, first_from, same_numbers, rises, last_of}
use Rattle.lists.proofs.Last.{last_map}
use Rattle.lists.proofs.Over.{over}
use Rattle.lists.proofs.First.{first_some}
use Rattle.lists.proofs.Rises.{rises_first}
use Rattle.lists.proofs.Same.{same_refl}
use Rattle.lists.proofs.Tests.{by_test}
use Rattle.model.specs.State.{Block, Pointer, Rights}
use Rattle.model.specs.Image.{Era, is_blank, image_blocks}
use Rattle.model.specs.Turn.{indirect_at, turns_to}
use Rattle.history.specs.Keeper.{Kept, KeptTill, kept_from, oldest_kept, newest_kept, newest_day_kept, day_kept, filed, struck_out, rights_kept}
use Rattle.history.proofs.PointerKinds.{Kind, zero_kind, blank_kind, direct_kind, indirect_kind, kind_at}
use Rattle.history.proofs.View.{VersionView, TillView, new_kind, turned_kind, with_kinds, turn_newest, newest_day_shown, day_shown, shown_with, take_over_kind, drop_version, shown_without, shown_rights, shown_from, oldest_shown, newest_shown}

unfoldable pub is_direct_kind : Kind → Bool
is_direct_kind zero_kind = false
is_direct_kind blank_kind = false
is_direct_kind direct_kind = true
is_direct_kind (indirect_kind n) = false

-- What is shown of `x` as its pointers beside the newer versions. The next newer one, `y`, was taken after `x`; if `x` was then the newest, no block that
-- `y` has too is stored for itself.
abbrev pub Shared : ℕ → Kept → List Kept → List Kind → Type 0
Shared bytes x [] ks = Unit {0}
Shared bytes x (y ∷ newer) ks =
    (x.number ≤ y.previous)
    × (y.previous ≡ x.number → (n i : ℕ) → n < length (image_blocks bytes x.image) → i < length (image_blocks bytes y.image)
    → get_or (image_blocks bytes x.image) n [] ≡ get_or (image_blocks bytes y.image) i [] → is_direct_kind (get_or ks n zero_kind) ≡ false)

-- a kept version, with the newer ones, is shown as `w`
pub record Shows (bytes : ℕ) (x : Kept) (newer : List Kept) (w : VersionView) : Type 0 where
  pub number : w.number ≡ x.number
  pub size : w.length ≡ length x.image
  pub dated : w.day ≡ x.day
  pub image : w.image ≡ x.image
  pub shared : Shared bytes x newer w.kinds

abbrev pub Agree : ℕ → List Kept → List VersionView → Type 0
Agree bytes [] [] = Unit {0}
Agree bytes [] (w ∷ ws) = ⊥
Agree bytes (x ∷ xs) [] = ⊥
Agree bytes (x ∷ xs) (w ∷ ws) = Shows bytes x xs w × Agree bytes xs ws

abbrev pub AgreeTill : ℕ → KeptTill → TillView → Type 0
AgreeTill bytes y w = (w.last ≡ y.last) × Agree bytes y.versions w.versions × (w.rights ≡ y.rights)

-- ---- a block that the new image has

turned_shared : (era : Era) (new : List Block) (k : Kind) (b : Block) (i : ℕ) → i < length new → b ≡ get_or new i [] → is_direct_kind (turned_kind era new k b) ≡ false
unfolding turned_kind turns_to is_direct_kind is_some
turned_shared era new zero_kind b i l e = refl
turned_shared era new blank_kind b i l e = refl
turned_shared era new direct_kind b i l e =
    by_test (λ (o : Option Pointer). is_direct_kind (kind_at o) ≡ false) (is_blank era b) (λ q. refl)
    (λ q. go (first_from (same_numbers b) 0 new) (first_some (same_numbers b) [] new 0 i l (ap (same_numbers b) (sym e) ∙ same_refl b)))
  where
    go : (o : Option ℕ) → is_some o ≡ true → is_direct_kind (kind_at (indirect_at o)) ≡ false
    go none q = absurd (false≢true q)
    go (some n) q = refl
turned_shared era new (indirect_kind n) b i l e = refl

over_shared : (era : Era) (new : List Block) (ks : List Kind) (bs : List Block) (n i : ℕ) → n < length bs → i < length new → get_or bs n [] ≡ get_or new i []
    → is_direct_kind (get_or (over (turned_kind era new) ks bs) n zero_kind) ≡ false
unfolding is_direct_kind
over_shared era new [] bs n i ln li e = refl
over_shared era new (k ∷ ks) [] n i ln li e = absurd (omega (arith, ln))
over_shared era new (k ∷ ks) (b ∷ bs) zero i ln li e = turned_shared era new k b i li e
over_shared era new (k ∷ ks) (b ∷ bs) (suc n) i ln li e = over_shared era new ks bs n i (omega (arith, ln)) li e

module _ (bytes : ℕ) where
  -- ---- a version is filed

  new_shown : (era : Era) (n n' day day' p : ℕ) (image : List ℕ) → n ≡ n' → day ≡ day'
      → Shows bytes (record { number = n'; image = image; day = day'; previous = p }) []
      (record { number = n; length = length image; day = day; image = image; kinds = map (new_kind era) (image_blocks bytes image) })
  new_shown era n n' day day' p image e f = record { number = e; size = refl; dated = f; image = refl; shared = tt }

  agree_filed : (era : Era) (n n' day day' : ℕ) (image : List ℕ) → n ≡ n' → day ≡ day' → (xs : List Kept) (ws : List VersionView) → Agree bytes xs ws
      → Agree bytes (xs ++ (record { number = n'; image = image; day = day'; previous = newest_kept xs } ∷ []))
      (turn_newest era bytes (image_blocks bytes image) ws ++ (record { number = n; length = length image; day = day; image = image; kinds = map (new_kind era) (image_blocks bytes image) } ∷ []))
  unfolding turn_newest with_kinds last_of newest_kept
  agree_filed era n n' day day' image e o [] [] a = (new_shown era n n' day day' 0 image e o, tt)
  agree_filed era n n' day day' image e o [] (w ∷ ws) a = absurd a
  agree_filed era n n' day day' image e o (x ∷ xs) [] a = absurd a
  agree_filed era n n' day day' image e o (x ∷ []) (w ∷ []) a =
      let f = a.0 in (
        record {
          number = f.number;
          size = f.size;
          dated = f.dated;
          image = f.image;
          shared = (
            le_refl x.number,
            λ q k i lk li same.
                ap (λ (l : List ℕ). is_direct_kind (get_or (over (turned_kind era (image_blocks bytes image)) w.kinds (image_blocks bytes l)) k zero_kind)) f.image
                ∙ over_shared era (image_blocks bytes image) w.kinds (image_blocks bytes x.image) k i lk li same,
          );
        },
        (new_shown era n n' day day' x.number image e o, tt),
      )
  agree_filed era n n' day day' image e o (x ∷ []) (w ∷ v ∷ ws) a = absurd a.1
  agree_filed era n n' day day' image e o (x ∷ y ∷ xs) (w ∷ []) a = absurd a.1
  agree_filed era n n' day day' image e o (x ∷ y ∷ xs) (w ∷ v ∷ ws) a =
      let f = a.0 in
      (record { number = f.number; size = f.size; dated = f.dated; image = f.image; shared = f.shared }, agree_filed era n n' day day' image e o (y ∷ xs) (v ∷ ws) a.1)

  -- the day of a new version
  agree_newest_day : (xs : List Kept) (ws : List VersionView) → Agree bytes xs ws → newest_day_shown ws ≡ newest_day_kept xs
  unfolding last_of newest_day_shown newest_day_kept
  agree_newest_day [] [] a = refl
  agree_newest_day [] (w ∷ ws) a = absurd a
  agree_newest_day (x ∷ xs) [] a = absurd a
  agree_newest_day (x ∷ []) (w ∷ []) a = a.0.dated
  agree_newest_day (x ∷ []) (w ∷ v ∷ ws) a = absurd a.1
  agree_newest_day (x ∷ y ∷ xs) (w ∷ []) a = absurd a.1
  agree_newest_day (x ∷ y ∷ xs) (w ∷ v ∷ ws) a = agree_newest_day (y ∷ xs) (v ∷ ws) a.1

  agree_day : (d : Option ℕ) (xs : List Kept) (ws : List VersionView) → Agree bytes xs ws → day_shown d ws ≡ day_kept d xs
  unfolding day_shown day_kept
  agree_day none xs ws a = agree_newest_day xs ws a
  agree_day (some day) xs ws a = refl

  pub till_filed : (era : Era) (y : KeptTill) (w : TillView) (d : Option ℕ) (image : List ℕ) → AgreeTill bytes y w → AgreeTill bytes (filed y d image) (shown_with era bytes w d image)
  unfolding filed shown_with
  till_filed era y w d image a = (
    ap suc a.0,
    agree_filed era (suc w.last) (suc y.last) (day_shown d w.versions) (day_kept d y.versions) image (ap suc a.0) (agree_day d y.versions w.versions a.1) y.versions
        w.versions a.1,
    a.2,
  )

  -- ---- a version is struck

  pub agree_numbers : (xs : List Kept) (ws : List VersionView) → Agree bytes xs ws → map (λ (w : VersionView). w.number) ws ≡ map (λ (x : Kept). x.number) xs
  agree_numbers [] [] a = refl
  agree_numbers [] (w ∷ ws) a = absurd a
  agree_numbers (x ∷ xs) [] a = absurd a
  agree_numbers (x ∷ xs) (w ∷ ws) a = ap₂ ◌∷◌ a.0.number (agree_numbers xs ws a.1)

  -- numbers above that of the one struck are all kept
  keep_above : (v low high : ℕ) (xs : List Kept) → rises low high (map (λ (x : Kept). x.number) xs) ≡ true → v ≤ low → keep (λ (x : Kept). not (eqb x.number v)) xs ≡ xs
  unfolding keep
  keep_above v low high [] h l = refl
  keep_above v low high (x ∷ xs) h l =
      let r = rises_first low high x.number (map (λ (x : Kept). x.number) xs) h in
      rw (ne_eqb x.number v (λ z. omega (arith, z, l, r.above)))
      (ap {B = List Kept} (λ k. x ∷ k) (keep_above v x.number high xs r.rest (omega (arith, l, r.above))))

  -- the older neighbour of the one struck: the next newer one was taken after that
  skip_shared : (x y : Kept) (newer : List Kept) (ks ks' : List Kind) → Shared bytes y newer ks → x.number < y.number → Shared bytes x newer ks'
  skip_shared x y [] ks ks' f l = tt
  skip_shared x y (z ∷ newer) ks ks' f l = (omega (arith, f.0, l), λ q n i ln li same. absurd (omega (arith, f.0, l, q)))

  agree_struck : (v high : ℕ) (xs : List Kept) (ws : List VersionView) → Agree bytes xs ws → (low : ℕ) → rises low high (map (λ (x : Kept). x.number) xs) ≡ true
      → Agree bytes (keep (λ (x : Kept). not (eqb x.number v)) xs) (drop_version v ws)
  unfolding keep drop_version
  agree_struck v high [] [] a low h = tt
  agree_struck v high [] (w ∷ ws) a low h = absurd a
  agree_struck v high (x ∷ xs) [] a low h = absurd a
  agree_struck v high (x ∷ []) (w ∷ []) a low h =
      subst (λ (t : Bool). Agree bytes (cond (not (eqb x.number v)) (x ∷ []) []) (cond t [] (w ∷ []))) (ap (λ (i : ℕ). eqb i v) (sym a.0.number)) (go (eqb x.number v))
    where
      go : (t : Bool) → Agree bytes (cond (not t) (x ∷ []) []) (cond t [] (w ∷ []))
      go true = tt
      go false = a
  agree_struck v high (x ∷ []) (w ∷ u ∷ ws) a low h = absurd a.1
  agree_struck v high (x ∷ y ∷ xs) (w ∷ []) a low h = absurd a.1
  agree_struck v high (x ∷ y ∷ xs) (w ∷ u ∷ ws) a low h =
      let r = rises_first low high x.number (map (λ (k : Kept). k.number) (y ∷ xs)) h in
      let r' = rises_first x.number high y.number (map (λ (k : Kept). k.number) xs) r.rest in
      subst (λ (t : Bool). Agree bytes (cond (not (eqb x.number v)) (x ∷ rest) rest) (cond t (u ∷ ws) (inner (eqb u.number v)))) (ap (λ (i : ℕ). eqb i v) (sym a.0.number))
      (subst (λ (t : Bool). Agree bytes (cond (not (eqb x.number v)) (x ∷ rest) rest) (cond (eqb x.number v) (u ∷ ws) (inner t))) (ap (λ (i : ℕ). eqb i v) (sym a.1.0.number))
      (go (eqb x.number v) refl (eqb y.number v) refl r'.above r.rest r'.rest (agree_struck v high (y ∷ xs) (u ∷ ws) a.1 x.number r.rest)))
    where
      rest : List Kept
      rest = keep (λ (k : Kept). not (eqb k.number v)) (y ∷ xs)

      inner : Bool → List VersionView
      inner t = cond t (with_kinds w (map (take_over_kind u.kinds) w.kinds) ∷ ws) (w ∷ drop_version v (u ∷ ws))

      same : eqb x.number v ≡ true → rises x.number high (map (λ (k : Kept). k.number) (y ∷ xs)) ≡ true → rest ≡ y ∷ xs
      same q h = keep_above v x.number high (y ∷ xs) h (omega (arith, eqb-true x.number v q))

      gone : eqb y.number v ≡ true → rises y.number high (map (λ (k : Kept). k.number) xs) ≡ true → rest ≡ xs
      gone q h = unfold keep in rw q (keep_above v y.number high xs h (omega (arith, eqb-true y.number v q)))

      stay : eqb y.number v ≡ false → rest ≡ y ∷ keep (λ (k : Kept). not (eqb k.number v)) xs
      stay q = unfold keep in rw q refl

      older : x.number < y.number → Shows bytes x xs (with_kinds w (map (take_over_kind u.kinds) w.kinds))
      older l = unfold with_kinds in record {
        number = a.0.number;
        size = a.0.size;
        dated = a.0.dated;
        image = a.0.image;
        shared = skip_shared x y xs u.kinds (map (take_over_kind u.kinds) w.kinds) a.1.0.shared l;
      }

      go : (p : Bool) → eqb x.number v ≡ p → (q : Bool) → eqb y.number v ≡ q → x.number < y.number → rises x.number high (map (λ (k : Kept). k.number) (y ∷ xs)) ≡ true
          → rises y.number high (map (λ (k : Kept). k.number) xs) ≡ true → Agree bytes rest (drop_version v (u ∷ ws))
          → Agree bytes (cond (not p) (x ∷ rest) rest) (cond p (u ∷ ws) (inner q))
      go true p q' q l h h' ih = subst (λ (k : List Kept). Agree bytes k (u ∷ ws)) (sym (same p h)) a.1
      go false p true q l h h' ih = subst (λ (k : List Kept). Agree bytes (x ∷ k) (with_kinds w (map (take_over_kind u.kinds) w.kinds) ∷ ws)) (sym (gone q h')) (older l, a.1.1)
      go false p false q l h h' ih =
          (subst (λ (k : List Kept). Shows bytes x k w) (sym (stay q)) (record { number = a.0.number; size = a.0.size; dated = a.0.dated; image = a.0.image; shared = a.0.shared }), ih)

  pub till_struck : (y : KeptTill) (w : TillView) (v : ℕ) → AgreeTill bytes y w → rises 0 w.last (map (λ (u : VersionView). u.number) w.versions) ≡ true
      → AgreeTill bytes (struck_out y v) (shown_without w v)
  unfolding struck_out shown_without
  till_struck y w v a h =
      (a.0, agree_struck v w.last y.versions w.versions a.1 0 (ap (rises 0 w.last) (sym (agree_numbers y.versions w.versions a.1)) ∙ h), a.2)

  pub till_rights : (y : KeptTill) (w : TillView) (subject : ℕ) (r : Rights) → AgreeTill bytes y w → AgreeTill bytes (rights_kept y subject r) (shown_rights w subject r)
  unfolding rights_kept shown_rights
  till_rights y w subject r a = (a.0, a.1, ap (λ (rs : List Rights). set rs (subject - 1) r) a.2)

  -- ---- what follows

  pub agree_days : (xs : List Kept) (ws : List VersionView) → Agree bytes xs ws → map (λ (w : VersionView). w.day) ws ≡ map (λ (x : Kept). x.day) xs
  agree_days [] [] a = refl
  agree_days [] (w ∷ ws) a = absurd a
  agree_days (x ∷ xs) [] a = absurd a
  agree_days (x ∷ xs) (w ∷ ws) a = ap₂ ◌∷◌ a.0.dated (agree_days xs ws a.1)

  pub agree_from : (v : ℕ) (xs : List Kept) (ws : List VersionView) → Agree bytes xs ws → Agree bytes (kept_from v xs) (shown_from v ws)
  unfolding kept_from shown_from
  agree_from v [] [] a = tt
  agree_from v [] (w ∷ ws) a = absurd a
  agree_from v (x ∷ xs) [] a = absurd a
  agree_from v (x ∷ xs) (w ∷ ws) a =
      subst (λ (t : Bool). Agree bytes (cond (eqb x.number v) (x ∷ xs) (kept_from v xs)) (cond t (w ∷ ws) (shown_from v ws))) (ap (λ (i : ℕ). eqb i v) (sym a.0.number))
      (go (eqb x.number v) (agree_from v xs ws a.1))
    where
      go : (t : Bool) → Agree bytes (kept_from v xs) (shown_from v ws) → Agree bytes (cond t (x ∷ xs) (kept_from v xs)) (cond t (w ∷ ws) (shown_from v ws))
      go true r = a
      go false r = r

  pub agree_length : (xs : List Kept) (ws : List VersionView) → Agree bytes xs ws → length ws ≡ length xs
  agree_length xs ws a = sym (length-map ws (λ (w : VersionView). w.number)) ∙ ap length (agree_numbers xs ws a) ∙ length-map xs (λ (x : Kept). x.number)

  pub agree_oldest : (xs : List Kept) (ws : List VersionView) → Agree bytes xs ws → oldest_shown ws ≡ oldest_kept xs
  unfolding oldest_shown oldest_kept
  agree_oldest [] [] a = refl
  agree_oldest [] (w ∷ ws) a = absurd a
  agree_oldest (x ∷ xs) [] a = absurd a
  agree_oldest (x ∷ xs) (w ∷ ws) a = a.0.number

  pub agree_newest : (xs : List Kept) (ws : List VersionView) → Agree bytes xs ws → newest_shown ws ≡ newest_kept xs
  unfolding newest_shown newest_kept
  agree_newest xs ws a =
      last_map (λ (w : VersionView). w.number) 0 ws
      ∙ ap (last_of (λ (n : ℕ). n) 0) (agree_numbers xs ws a)
      ∙ sym (last_map (λ (x : Kept). x.number) 0 xs)
