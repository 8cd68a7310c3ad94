-- The newest version's pointer words of a sound till: what turns.
use mathlib.Core.Path.{◌≡◌, refl, sym, ap, subst}
use mathlib.Core.Bool.{true}
use mathlib.Core.List.{List, [], ◌∷◌, map}
use Prim.Native.Nat.{ℕ, zero, suc, ◌*◌, ◌≤◌, ◌<◌}
use native.Mathlib.Nat.{not-suc-le-zero}
use native.Mathlib.Omega.{arith}
use lib.ListN.{length, get_or}
use Rattle.lists.specs.Each.{Each}
use Rattle.lists.proofs.Last.{last_each}
use Rattle.lists.proofs.Each.{each_at, each_of, each_weaken, keep_each}
use Rattle.model.specs.Calls.{newest_pointers}
use Rattle.model.specs.Image.{with_blanks}
use Rattle.model.specs.Measures.{Shape, record_words}
use Rattle.model.specs.Sound.{is_sound}
use Rattle.model.specs.State.{Block, Pointer, null_pointer, Storage, Version, State}
use Rattle.model.specs.Table.{pointer_word, word_to_pointer}
use Rattle.model.specs.Turn.{turning}
use Rattle.laws.proofs.Fits.{PointerFits, VersionFits}
use Rattle.laws.proofs.RoundTrip.{pointer_back}
use Rattle.storage.specs.Fits.{WithinRecords}
use Rattle.restore_trace.specs.Versions.{no_version, pointers_at}
use Rattle.turn.specs.Turn.{WordFits, Followable}
use Rattle.sound_laws.proofs.Slots.{till, till_fits, pointers_fit}

-- ---- words of pointers that can be followed

module _ (n l : ℕ) where
  word_fits : (p : Pointer) → Followable n l p → WordFits n l (pointer_word p)
  word_fits p g = record { canonical = ap pointer_word g.back; fits = subst (WithinRecords n l) (sym g.back) g.fits }

  pub words_fit : (ps : List Pointer) → Each (Followable n l) ps → (j : ℕ) → j < length (map pointer_word ps) → WordFits n l (get_or (map pointer_word ps) j 0)
  words_fit [] e j h = absurd (not-suc-le-zero h)
  words_fit (p ∷ ps) e zero h = word_fits p e.0
  words_fit (p ∷ ps) e (suc j) h = words_fit ps e.1 j (omega (arith, h))

  pub words_back : (ps : List Pointer) → Each (Followable n l) ps → map word_to_pointer (map pointer_word ps) ≡ ps
  words_back [] e = refl
  words_back (p ∷ ps) e = rw (e.0.back, words_back ps e.1)

  pub turning_good : (storage : Storage) (bs : List Block) (ps : List Pointer) → Each (Followable n l) ps → Each (Followable n l) (turning with_blanks storage bs ps)
  unfolding turning
  turning_good storage bs ps e = keep_each (Followable n l) _ ps e

-- ---- the newest version's

newest_of_lem : (P : Version → Type 0) (Q : Pointer → Type 0) → ((u : Version) → P u → Each Q u.pointers) → (us : List Version) → Each P us → Each Q (newest_pointers us)
unfolding newest_pointers
newest_of_lem P Q f us e = last_each (λ (u : Version). u.pointers) P (Each Q) f [] tt us e

newest_most : (n : ℕ) (us : List Version) → Each (λ (u : Version). length u.pointers ≤ n) us → length (newest_pointers us) ≤ n
unfolding newest_pointers
newest_most n us e =
    last_each (λ (u : Version). u.pointers) (λ (u : Version). length u.pointers ≤ n) (λ (ps : List Pointer). length ps ≤ n) (λ u h. h) [] (omega arith) us e

module _ (s : Shape) (st : State) (sound : is_sound s st ≡ true) (t : ℕ) (ht : t < length st.tills) where
  abbrev us : List Version
  us = (till s st sound t ht).versions

  abbrev n : ℕ
  n = s.measures.segment_blocks

  abbrev l : ℕ
  l = length st.storage.records * record_words n

  each_good : (i : ℕ) → i < length us → Each (Followable n l) (pointers_at us i)
  each_good i h =
      let f : VersionFits s (get_or us i no_version) = each_at (VersionFits s) no_version us (till_fits s st sound t ht).versions i h in
      each_of (Followable n l) null_pointer (pointers_at us i)
      (λ j q. record { back = pointer_back _ (each_at PointerFits null_pointer (pointers_at us i) f.pointers j q); fits = pointers_fit s st sound t ht i j })

  pub newest_good : Each (Followable n l) (newest_pointers us)
  newest_good =
      newest_of_lem (λ (u : Version). Each (Followable n l) u.pointers) (Followable n l) (λ u e. e) us
      (each_of (λ (u : Version). Each (Followable n l) u.pointers) no_version us each_good)

  pub newest_few : length (newest_pointers us) ≤ s.capacities.blocks
  newest_few =
      newest_most s.capacities.blocks us
      (each_weaken (VersionFits s) (λ (u : Version). length u.pointers ≤ s.capacities.blocks) (λ u f. f.most) us (till_fits s st sound t ht).versions)
