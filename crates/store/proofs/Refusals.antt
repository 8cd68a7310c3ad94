-- Refusal 10, whoever the user is, and what an accepted check tells.
use mathlib.Core.Path.{◌≡◌, refl, sym, ◌∙◌}
use mathlib.Core.Bool.{Bool, true, false, cond, not}
use mathlib.Core.List.{List, []}
use mathlib.Core.Option.{Option, none}
use Prim.Native.Nat.{ℕ}
use native.Mathlib.Omega.{arith}
use borrow.Author.Tests.{not-true, not-false}
use Rattle.lists.specs.Lists.{is_some}
use Rattle.lists.specs.Rows.{fill}
use Rattle.model.specs.State.{Rights}
use Rattle.model.specs.Image.{with_blanks}
use Rattle.model.specs.Sound.{store_of}
use Rattle.model.specs.Calls.{BackupAnswer, backup_by, backup_in, ListingAnswer, RestoreAnswer, listing_refusal, listing_in, listing_of, restore_refusal, restore_in, restore_of, VersionOnAnswer, version_on_in, version_on_of, RetireAnswer, retire_in, retire_of, TallyAnswer, tally_in, tally_of}
use Rattle.model.specs.Rights.{refusal_for, owner_refusal, backup_as, restore_as, retire_as, listing_as, version_on_as, tally_as, RightsAnswer, set_rights_in, set_rights_of}
use Rattle.laws.specs.Stores.{Sound}
use Rattle.stream.specs.Stream.{stream_refusal}
use Rattle.stream.specs.Version.{write_restored, write_stream_of, write_stream_as}
use Rattle.bill.specs.Bill.{BillAnswer, bill_refused, bill_in, bill_of, bill_as}
use Rattle.closing.specs.Closing.{all_refused, backup_all_in, backup_all_as}
use Rattle.sent.specs.Sent.{OfferAnswer, offer_in, offer_of, offer_as, backup_sent_in, backup_sent_by, backup_sent_of, backup_sent_as}
use Rattle.refusals.specs.declared.Refusal.{Refusal}
use Rattle.refusals.specs.Refusals.{number_of}
use Rattle.refusals.proofs.Numbers.{not_accepted}
use Rattle.laws.proofs.Stores.{sound_if, none_if}

-- what the check answers tells whether there is a store
pub passed : (b : Bool) → ◌≡◌ {A = ℕ} 0 (cond b 0 10) → not b ≡ false
passed true e = refl
passed false e = absurd (omega (arith, e))

pub unsound : (r : Refusal) (b : Bool) → number_of r ≡ cond b 0 10 → (not b ≡ true) × (number_of r ≡ 10)
unsound r true e = absurd (not_accepted r e)
unsound r false e = (refl, e)

module _ (pool table : List ℕ) (r : Bool) (e : r ≡ is_some (store_of pool table)) where
  pub is_sound_lem : not r ≡ false → Sound pool table
  is_sound_lem n = sound_if pool table (sym (not-false r n) ∙ e)

  no_store : not r ≡ true → store_of pool table ≡ none
  no_store n = none_if pool table (sym (not-true r n) ∙ e)

  pub listing_10 : not r ≡ true → (user t : ℕ) → record { refusal = 10; oldest = 0; newest = 0; last = 0 } ≡ listing_as pool table user t
  unfolding listing_as refusal_for listing_of listing_in listing_refusal
  listing_10 n user t = rw (no_store n)

  pub version_on_10 : not r ≡ true → (user t day : ℕ) → record { refusal = 10; version = 0 } ≡ version_on_as pool table user t day
  unfolding version_on_as refusal_for version_on_of version_on_in
  version_on_10 n user t day = rw (no_store n)

  pub restore_10 : not r ≡ true → (user t v : ℕ) (output : List ℕ) → record { refusal = 10; length = 0; hops = 0; output = output } ≡ restore_as pool table user t v output
  unfolding restore_as refusal_for restore_of restore_in restore_refusal
  restore_10 n user t v output = rw (no_store n)

  pub stream_10 : not r ≡ true → (user t v : ℕ) (output : List ℕ) → record { refusal = 10; length = 0; output = output } ≡ write_stream_as pool table user t v output
  unfolding write_stream_as refusal_for write_stream_of write_restored stream_refusal restore_of restore_in restore_refusal
  stream_10 n user t v output = rw (no_store n)

  pub retire_10 : not r ≡ true → (user t v : ℕ) → record { refusal = 10; length = 0; pool = pool; table = table } ≡ retire_as pool table user t v
  unfolding retire_as refusal_for retire_of retire_in
  retire_10 n user t v = rw (no_store n)

  pub tally_10 : not r ≡ true → (user : ℕ) → record { refusal = 10; cells = 0; records = 0; counts = 0 } ≡ tally_as pool table user
  unfolding tally_as owner_refusal tally_of tally_in
  tally_10 n user = rw (no_store n)

  pub bill_10 : not r ≡ true → (user price : ℕ) (zeros : List ℕ) → zeros ≡ fill 16 [] → record { refusal = 10; sums = zeros } ≡ bill_as pool table user price
  unfolding bill_as owner_refusal bill_of bill_in bill_refused
  bill_10 n user price zeros e = rw (no_store n, e)

  -- with a day or without
  pub backup_10 : not r ≡ true → (user t : ℕ) (brought : Option ℕ) (image : List ℕ)
      → record { refusal = 10; version = 0; pool = pool; table = table } ≡ backup_as with_blanks pool table user t brought image
  unfolding backup_as refusal_for backup_by backup_in
  backup_10 n user t brought image = rw (no_store n)

  pub offer_10 : not r ≡ true → (user t : ℕ) (fingerprints marks : List ℕ) → record { refusal = 10; marks = marks } ≡ offer_as pool table user t fingerprints marks
  unfolding offer_as refusal_for offer_of offer_in
  offer_10 n user t fingerprints marks = rw (no_store n)

  pub sent_10 : not r ≡ true → (user t bytes : ℕ) (fingerprints marks segments : List ℕ)
      → record { refusal = 10; version = 0; pool = pool; table = table } ≡ backup_sent_as pool table user t bytes fingerprints marks segments
  unfolding backup_sent_as refusal_for backup_sent_of backup_sent_by backup_sent_in
  sent_10 n user t bytes fingerprints marks segments = rw (no_store n)

  -- sixteen places of zeros each
  pub all_10 : not r ≡ true → (user : ℕ) (tills lengths images zeros : List ℕ) → zeros ≡ fill 16 []
      → record { answer = record { refusal = 10; refusals = zeros; versions = zeros }; pool = pool; table = table } ≡ backup_all_as pool table user tills lengths images
  unfolding backup_all_as backup_all_in all_refused
  all_10 n user tills lengths images zeros e = rw (no_store n, e)

  pub rights_10 : not r ≡ true → (user subject t : ℕ) (rights : Rights) → record { refusal = 10; table = table } ≡ set_rights_of pool table user subject t rights
  unfolding set_rights_of set_rights_in
  rights_10 n user subject t rights = rw (no_store n)
