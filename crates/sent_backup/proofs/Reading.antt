-- The image put together from a sound table, with the measures as the code read them.
use mathlib.Core.Path.{◌≡◌, sym, ap, ap₂, ◌∙◌, subst}
use mathlib.Core.List.{List}
use Prim.Native.Nat.{ℕ, ◌-◌}
use lib.ListN.{length, take, drop}
use Rattle.sha1_definition.specs.Sha1.{sha1}
use Rattle.model.specs.Measures.{Measures, records_at}
use Rattle.model.specs.State.{Storage, Outcome}
use Rattle.model.specs.Table.{shape_of, state_in, storage_in}
use Rattle.laws.specs.Stores.{Sound}
use Rattle.sound_laws.proofs.Records.{storage_is}
use Rattle.sent.specs.Sent.{assembled}
use Rattle.sent.specs.Found.{Brings, Message}

pub message_read : (m n : Measures) → m ≡ n → (bytes : ℕ) (fs marks ss : List ℕ) → Message n bytes fs marks ss → Message m bytes fs marks ss
message_read m n e bytes fs marks ss g = subst (λ (k : Measures). Message k bytes fs marks ss) (sym e) g

module _ {pool table : List ℕ} (h : Sound pool table) (at : ℕ) (e : at ≡ records_at (shape_of table).capacities) (m : Measures) (q : m ≡ (shape_of table).measures) where
  pub assembled_read : (bytes : ℕ) (fs marks ss : List ℕ) (r : ℕ) (out : List ℕ)
      → Brings (assembled sha1 m (storage_in m pool (take (length table - at) (drop at table))) bytes fs marks ss) r out
      → Brings (assembled sha1 (shape_of table).measures (state_in (shape_of table) pool table).storage bytes fs marks ss) r out
  assembled_read bytes fs marks ss r out b =
      subst (λ (o : Outcome (List ℕ)). Brings o r out)
      (ap₂ (λ (n : Measures) (s : Storage). assembled sha1 n s bytes fs marks ss) q (ap (λ (n : Measures). storage_in n pool (take (length table - at) (drop at table))) q ∙ storage_is h at e)) b
