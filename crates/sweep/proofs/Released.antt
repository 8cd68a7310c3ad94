-- The storage after its counts fell, or rose.
use mathlib.Core.Path.{◌≡◌, refl, sym, ap, ◌∙◌, subst}
use mathlib.Core.List.{List}
use Prim.Native.Nat.{ℕ}
use lib.ListN.{length}
use Rattle.lists.specs.Lists.{uses}
use Rattle.model.specs.Measures.{Measures}
use Rattle.model.specs.State.{Pointer, Position, Storage}
use Rattle.model.specs.Place.{one_more}
use Rattle.model.specs.Sweep.{one_less, change_all, release, claim}
use Rattle.model.specs.Table.{records_in, storage_in}
use Rattle.laws.proofs.Counts.{Recount, falls, grows, change_all_named}
use Rattle.laws.specs.Storage.{Exact}
use Rattle.storage.specs.Stored.{Stored, EncodesRecords, Encodes}
use Rattle.storage.proofs.Read.{storage_read, stored_again}

module _ (f : Position → Position) (c : Recount f) (m : Measures) (pool words : List ℕ) (s : Stored m pool words) (ps : List Pointer) (w : List ℕ) (l : length w ≡ length words)
    (r : EncodesRecords m.segment_blocks w (change_all f (records_in m.segment_blocks words) ps)) where
  changed : Storage
  changed = record { records = change_all f (storage_in m pool words).records ps; cells = (storage_in m pool words).cells }

  after : Encodes m pool w changed
  unfolding storage_in changed
  after = record { cells = s.encodes.cells; records = r }

  changed_storage : storage_in m pool w ≡ changed
  changed_storage = storage_read m s.measured pool w changed after

  -- the same cells are named
  exact : Exact changed
  unfolding changed
  exact n = ap (uses n) (change_all_named f c ps (storage_in m pool words).records) ∙ s.exact n

  again : Stored m pool w
  again = stored_again m pool words pool w changed s after exact refl l

module _ (m : Measures) (pool words : List ℕ) (s : Stored m pool words) (ps : List Pointer) (w : List ℕ) (l : length w ≡ length words) where
  pub released_storage : EncodesRecords m.segment_blocks w (change_all one_less (records_in m.segment_blocks words) ps) → storage_in m pool w ≡ release (storage_in m pool words) ps
  unfolding release changed
  released_storage r = changed_storage one_less falls m pool words s ps w l r

  pub released : EncodesRecords m.segment_blocks w (change_all one_less (records_in m.segment_blocks words) ps) → Stored m pool w
  released r = again one_less falls m pool words s ps w l r

  pub claimed_storage : EncodesRecords m.segment_blocks w (change_all one_more (records_in m.segment_blocks words) ps) → storage_in m pool w ≡ claim (storage_in m pool words) ps
  unfolding claim changed
  claimed_storage r = changed_storage one_more grows m pool words s ps w l r

  pub claimed : EncodesRecords m.segment_blocks w (change_all one_more (records_in m.segment_blocks words) ps) → Stored m pool w
  claimed r = again one_more grows m pool words s ps w l r

pub encodes_as : {m : Measures} {pool words : List ℕ} {a b : Storage} → b ≡ a → Encodes m pool words a → Encodes m pool words b
encodes_as {m} {pool} {words} e t = subst (λ (x : Storage). Encodes m pool words x) (sym e) t
