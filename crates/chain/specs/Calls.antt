-- The calls on a chain: each names a store, and "otherwise … answers and leaves its store as it would alone". Pool and table of an answer are here the
-- chain's two buffers. Lay out takes a store alone.
use Rattle.std.specs.Prelude.{ℕ, List}
use Rattle.std.proofs.Math.Option.{Option}
use Rattle.model.specs.State.{Rights}
use Rattle.model.specs.Image.{Era}
use Rattle.model.specs.Calls.{BackupAnswer, RestoreAnswer, restore_refusal, RetireAnswer, ListingAnswer, listing_refusal, VersionOnAnswer, TallyAnswer}
use Rattle.model.specs.Rights.{unless, backup_refusal, backup_as, restore_as, retire_refusal, retire_as, listing_as, version_on_refusal, version_on_as, tally_refusal, tally_as, RightsAnswer, set_rights_of}
use Rattle.stream.specs.Stream.{StreamAnswer, stream_refusal}
use Rattle.stream.specs.Version.{write_stream_as}
use Rattle.sent.specs.Sent.{OfferAnswer, offer_as, backup_sent_as}
use Rattle.bill.specs.Bill.{BillAnswer, bill_refused, bill_as}
use Rattle.closing.specs.Closing.{all_refused, BackupAllAnswer}
use Rattle.chain.specs.Chain.{Chain, pool_at, table_at, pools_with, tables_with, chain_refusal}
use Rattle.chain.specs.Limit.{other_cells, within, backup_all_within}

-- ---- those that read

unfoldable pub chain_restore : Chain → ℕ → ℕ → ℕ → ℕ → List ℕ → RestoreAnswer
chain_restore c i user t version output =
    unless (chain_refusal c i) (λ n. restore_refusal n output) (restore_as (pool_at c i) (table_at c i) user t version output)

unfoldable pub chain_listing : Chain → ℕ → ℕ → ℕ → ListingAnswer
chain_listing c i user t = unless (chain_refusal c i) listing_refusal (listing_as (pool_at c i) (table_at c i) user t)

unfoldable pub chain_version_on : Chain → ℕ → ℕ → ℕ → ℕ → VersionOnAnswer
chain_version_on c i user t day = unless (chain_refusal c i) version_on_refusal (version_on_as (pool_at c i) (table_at c i) user t day)

unfoldable pub chain_tally : Chain → ℕ → ℕ → TallyAnswer
chain_tally c i user = unless (chain_refusal c i) tally_refusal (tally_as (pool_at c i) (table_at c i) user)

unfoldable pub chain_bill : Chain → ℕ → ℕ → ℕ → BillAnswer
chain_bill c i user price = unless (chain_refusal c i) bill_refused (bill_as (pool_at c i) (table_at c i) user price)

unfoldable pub chain_write_stream : Chain → ℕ → ℕ → ℕ → ℕ → List ℕ → StreamAnswer
chain_write_stream c i user t version output =
    unless (chain_refusal c i) (λ n. stream_refusal n output) (write_stream_as (pool_at c i) (table_at c i) user t version output)

unfoldable pub chain_offer : Chain → ℕ → ℕ → ℕ → List ℕ → List ℕ → OfferAnswer
chain_offer c i user t fingerprints marks =
    unless (chain_refusal c i) (λ n. record { refusal = n; marks = marks }) (offer_as (pool_at c i) (table_at c i) user t fingerprints marks)

-- ---- those that back up, with their limit

-- what a backup of store `i` leaves, in the chain
unfoldable pub backup_on_chain : Chain → ℕ → BackupAnswer → BackupAnswer
backup_on_chain c i a = record { refusal = a.refusal; version = a.version; pool = pools_with c i a.pool; table = tables_with c i a.table }

-- with a day or without
unfoldable pub chain_backup : Era → Chain → ℕ → ℕ → ℕ → ℕ → Option ℕ → List ℕ → BackupAnswer
chain_backup era c i limit user t brought image =
    unless (chain_refusal c i) (backup_refusal c.pools c.tables)
    (backup_on_chain c i (within (other_cells c i) limit (pool_at c i) (table_at c i) (backup_as era (pool_at c i) (table_at c i) user t brought image)))

unfoldable pub chain_backup_sent : Chain → ℕ → ℕ → ℕ → ℕ → ℕ → List ℕ → List ℕ → List ℕ → BackupAnswer
chain_backup_sent c i limit user t bytes fingerprints marks segments =
    unless (chain_refusal c i) (backup_refusal c.pools c.tables)
    (backup_on_chain c i
    (within (other_cells c i) limit (pool_at c i) (table_at c i) (backup_sent_as (pool_at c i) (table_at c i) user t bytes fingerprints marks segments)))

unfoldable pub all_on_chain : Chain → ℕ → BackupAllAnswer → BackupAllAnswer
all_on_chain c i a = record { answer = a.answer; pool = pools_with c i a.pool; table = tables_with c i a.table }

unfoldable pub chain_backup_all : Chain → ℕ → ℕ → ℕ → List ℕ → List ℕ → List ℕ → BackupAllAnswer
chain_backup_all c i limit user tills lengths images =
    unless (chain_refusal c i) (λ n. record { answer = all_refused n; pool = c.pools; table = c.tables })
    (all_on_chain c i (backup_all_within (other_cells c i) limit (pool_at c i) (table_at c i) user tills lengths images))

-- ---- and the others that alter: "L refuses no retiring"

unfoldable pub retire_on_chain : Chain → ℕ → RetireAnswer → RetireAnswer
retire_on_chain c i a = record { refusal = a.refusal; length = a.length; pool = pools_with c i a.pool; table = tables_with c i a.table }

unfoldable pub chain_retire : Chain → ℕ → ℕ → ℕ → ℕ → RetireAnswer
chain_retire c i user t version =
    unless (chain_refusal c i) (retire_refusal c.pools c.tables) (retire_on_chain c i (retire_as (pool_at c i) (table_at c i) user t version))

unfoldable pub rights_on_chain : Chain → ℕ → RightsAnswer → RightsAnswer
rights_on_chain c i a = record { refusal = a.refusal; table = tables_with c i a.table }

unfoldable pub chain_set_rights : Chain → ℕ → ℕ → ℕ → ℕ → Rights → RightsAnswer
chain_set_rights c i user subject t rights =
    unless (chain_refusal c i) (λ n. record { refusal = n; table = c.tables })
    (rights_on_chain c i (set_rights_of (pool_at c i) (table_at c i) user subject t rights))
