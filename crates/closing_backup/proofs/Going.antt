-- Images backed up one after the other: what holds when some are done, and that it holds of one more.
use mathlib.Core.Path.{◌≡◌, refl, sym, ap, ◌∙◌, subst}
use mathlib.Core.List.{List, ◌∷◌, ◌++◌, append-nil}
use mathlib.Core.Option.{none}
use Prim.Native.Nat.{ℕ, ◌+◌, ◌-◌, ◌≤◌, ◌<◌}
use native.Mathlib.Nat.{zero-add}
use native.Mathlib.Omega.{arith}
use lib.ListN.{length, get_or, set, take, drop, replicate}
use lib.Seq.{drop-drop}
use Rattle.lists.specs.Lists.{total, is_some}
use Rattle.lists.specs.Rows.{fill}
use Rattle.lists.proofs.Answers.{part_is}
use Rattle.lists.proofs.Counts.{sum_next}
use Rattle.lists.proofs.Filled.{fill_put}
use Rattle.lists.proofs.Rows.{length_fill, fill_zeros}
use Rattle.lists.proofs.Sets.{take_put}
use Rattle.lists.proofs.Slices.{drop_next, drop_end}
use Rattle.model.specs.Image.{with_blanks}
use Rattle.model.specs.Calls.{BackupAnswer}
use Rattle.model.specs.Rights.{backup_as}
use Rattle.laws.specs.Stores.{Sound, store_read}
use Rattle.laws.proofs.Stores.{sound_if}
use Rattle.laws.proofs.Calls.{backup_as_store}
use Rattle.chain.specs.Limit.{within, image_within}
use Rattle.chain.proofs.Within.{within_either}
use Rattle.closing.specs.Closing.{TillImage, images_in, BackupAllAnswer}
use Rattle.closing.specs.Singly.{SinglyMade, made_each, answer_to}
use Rattle.closing_backup.specs.Answers.{all_answered}
use Rattle.closing_backup.proofs.Fits.{Fit}

-- a backup leaves a sound store, whoever the user is and whatever the limit
sound_after : (others most : ℕ) (pool table : List ℕ) → Sound pool table → (user : ℕ) (x : TillImage)
    → Sound (image_within others most user pool table x).pool (image_within others most user pool table x).table
unfolding image_within is_some
sound_after others most pool table h user x =
    within_either others most pool table Sound (backup_as with_blanks pool table user x.till none x.image)
    (sound_if _ _ (sym (ap is_some (backup_as_store pool table (store_read pool table) h.is with_blanks user x.till none x.image)))) h

-- the first i answers as the lists have them, and the later ones
unfoldable pub answer_so_far : List ℕ → List ℕ → ℕ → SinglyMade → BackupAllAnswer
answer_so_far refusals versions i m = record {
  answer = record { refusal = 0; refusals = fill 16 (take i refusals ++ m.refusals); versions = fill 16 (take i versions ++ m.versions) };
  pool = m.pool;
  table = m.table;
}

-- i images are done, and the next begins at `from`
pub record Going (others most : ℕ) (pool₀ table₀ : List ℕ) (user : ℕ) (tills lengths images pool table refusals versions : List ℕ) (from i : ℕ) : Type 0 where
  pub sound : Sound pool table
  pub fit : Fit tills lengths images
  pub within : i ≤ length tills
  pub sum : from + total (λ (n : ℕ). n) (drop i lengths) ≡ total (λ (n : ℕ). n) lengths
  pub refused : fill 16 (take i refusals) ≡ refusals
  pub filed : fill 16 (take i versions) ≡ versions
  pub answer : answer_so_far refusals versions i (made_each (image_within others most user) pool table (images_in (drop i tills) (drop i lengths) (drop from images)))
      ≡ answer_to (made_each (image_within others most user) pool₀ table₀ (images_in tills lengths images))

pub going_start : (others most : ℕ) (pool table : List ℕ) (user : ℕ) (tills lengths images refusals versions : List ℕ) → Sound pool table → Fit tills lengths images → refusals ≡ replicate 16 0 → versions ≡ replicate 16 0
    → Going others most pool table user tills lengths images pool table refusals versions 0 0
unfolding answer_so_far answer_to
going_start others most pool table user tills lengths images refusals versions h f er ev = record {
  sound = h;
  fit = f;
  within = omega arith;
  sum = zero-add _;
  refused = fill_zeros 16 ∙ sym er;
  filed = fill_zeros 16 ∙ sym ev;
  answer = refl;
}

module _ {others most : ℕ} {pool₀ table₀ : List ℕ} {user : ℕ} {tills lengths images pool table refusals versions : List ℕ} {from i : ℕ}
    (g : Going others most pool₀ table₀ user tills lengths images pool table refusals versions from i) where
  pub refusals_long : length refusals ≡ 16
  refusals_long = sym (ap length g.refused) ∙ length_fill 16 _

  pub versions_long : length versions ≡ 16
  versions_long = sym (ap length g.filed) ∙ length_fill 16 _

  pub going_end : length tills ≤ i → all_answered refusals versions pool table ≡ answer_to (made_each (image_within others most user) pool₀ table₀ (images_in tills lengths images))
  unfolding answer_so_far made_each images_in
  going_end h = sym last ∙ g.answer
    where
      last : answer_so_far refusals versions i (made_each (image_within others most user) pool table (images_in (drop i tills) (drop i lengths) (drop from images))) ≡ all_answered refusals versions pool table
      last = rw (drop_end tills i h, append-nil (take i refusals), append-nil (take i versions), g.refused, g.filed)

  module _ (h : i < length tills) where
    abbrev till : ℕ
    till = get_or tills i 0

    abbrev bytes : ℕ
    bytes = get_or lengths i 0

    in_lengths : i < length lengths
    in_lengths = omega (arith, h, g.fit.same)

    next : from + bytes + total (λ (n : ℕ). n) (drop (i + 1) lengths) ≡ total (λ (n : ℕ). n) lengths
    next = sum_next lengths i from in_lengths g.sum

    pub image_in : from + bytes ≤ length images
    image_in = omega (arith, next, g.fit.sum)

    -- the image at i and what follows it
    split : images_in (drop i tills) (drop i lengths) (drop from images)
        ≡ record { till = till; image = take bytes (drop from images) } ∷ images_in (drop (i + 1) tills) (drop (i + 1) lengths) (drop (from + bytes) images)
    unfolding images_in
    split = rw (drop_next tills i 0 h, drop_next lengths i 0 in_lengths, drop-drop)

    Next : BackupAnswer → Type 0
    Next a = Going others most pool₀ table₀ user tills lengths images a.pool a.table (set refusals i a.refusal) (set versions i a.version) (from + bytes) (i + 1)

    one_more : Next (image_within others most user pool table (record { till = till; image = take bytes (drop from images) }))
    unfolding answer_so_far made_each Next
    one_more = record {
      sound = sound_after others most pool table g.sound user (record { till = till; image = take bytes (drop from images) });
      fit = g.fit;
      within = omega (arith, h);
      sum = next;
      refused = fill_put 16 refusals i _ (omega (arith, h, g.fit.few)) g.refused;
      filed = fill_put 16 versions i _ (omega (arith, h, g.fit.few)) g.filed;
      answer = rw (take_put refusals _ i _ (omega (arith, h, g.fit.few, refusals_long)), take_put versions _ i _ (omega (arith, h, g.fit.few, versions_long)))
          (ap (λ (xs : List TillImage). answer_so_far refusals versions i (made_each (image_within others most user) pool table xs)) (sym split) ∙ g.answer);
    }

    pub going_more : (n v : ℕ) (pool' table' : List ℕ)
        → record { refusal = n; version = v; pool = pool'; table = table' } ≡ within others most pool table (backup_as with_blanks pool table user till none (take (from + bytes - from) (drop from images)))
        → Going others most pool₀ table₀ user tills lengths images pool' table' (set refusals i n) (set versions i v) (from + bytes) (i + 1)
    unfolding Next image_within
    going_more n v pool' table' e =
        subst Next (sym (e ∙ ap (λ (image : List ℕ). within others most pool table (backup_as with_blanks pool table user till none image)) (part_is images from bytes))) one_more
