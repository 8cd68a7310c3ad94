-- "Demand 3 holds on a chain too: its stores all start freshly laid out, every call of the list that names one gets them all with their true lengths, and
-- each store has a keeper of its own."
use Rattle.std.specs.Prelude.{ℕ, ◌≤◌, ◌<◌, ◌≡◌, Bool, true, false, cond, List}
use Rattle.std.proofs.Math.Option.{Option}
use Rattle.model.specs.Measures.{Shape}
use Rattle.model.specs.Image.{Era}
use Rattle.model.specs.Calls.{layout_of}
use Rattle.model.specs.Rights.{backup_as}
use Rattle.sent.specs.Sent.{backup_sent_as}
use Rattle.history.specs.Calls.{Call, call_layout, call_backup, call_restore, call_retire, call_listing, call_version_on, call_tally, call_bill, call_write_stream, call_offer, call_backup_sent, call_backup_all, call_set_rights, Buffers, backed_up, backed_up_all, refusal_in}
use Rattle.history.specs.Users.{answer_by, buffers_after_all}
use Rattle.history.specs.Demand.{Demands, laid_out_in}
use Rattle.chain.specs.Chain.{Chain, store_count, is_chain, add_up, pool_at, table_at}
use Rattle.chain.specs.Limit.{all_cells, other_cells, is_over, backup_all_within}
use Rattle.chain_history.specs.Calls.{ChainCall, buffers_at, answer_on, left_on, chain_after_all, layouts_refused, all_calls_to}

-- a store that an accepted lay out left
pub record Fresh (s : Shape) (b : Buffers) : Type 0 where
  pub pool : List ℕ
  pub table : List ℕ
  pub accepted : (layout_of s pool table).refusal ≡ 0
  pub is : b ≡ laid_out_in s pool table

-- one to eight stores, freshly laid out, with their true lengths
pub record FreshChain (shapes : ℕ → Shape) (c : Chain) : Type 0 where
  pub count : is_chain c ≡ true
  pub pools : add_up c.pool_lengths c.pools ≡ true
  pub tables : add_up c.table_lengths c.tables ≡ true
  pub stores : (j : ℕ) → j < store_count c → Fresh (shapes j) (buffers_at c j)

-- what a lay out is not: it takes a store alone
unfoldable pub names_store : Call → Bool
names_store (call_layout s) = false
names_store (call_backup era t d image) = true
names_store (call_restore t v output) = true
names_store (call_retire t v) = true
names_store (call_listing t) = true
names_store (call_version_on t day) = true
names_store call_tally = true
names_store (call_bill price) = true
names_store (call_write_stream t v output) = true
names_store (call_offer t fs ms) = true
names_store (call_backup_sent t n fs ms ss) = true
names_store (call_backup_all ts ns is) = true
names_store (call_set_rights subject t r) = true

-- "each that backs up brings a limit"
unfoldable pub brings_limit : Call → Bool
brings_limit (call_layout s) = false
brings_limit (call_backup era t d image) = true
brings_limit (call_restore t v output) = false
brings_limit (call_retire t v) = false
brings_limit (call_listing t) = false
brings_limit (call_version_on t day) = false
brings_limit call_tally = false
brings_limit (call_bill price) = false
brings_limit (call_write_stream t v output) = false
brings_limit (call_offer t fs ms) = false
brings_limit (call_backup_sent t n fs ms ss) = true
brings_limit (call_backup_all ts ns is) = true
brings_limit (call_set_rights subject t r) = false

-- what the next call on store `i` answers, by a user, with a limit
pub record StoresServe (c : Chain) : Type 0 where
  -- "a store number outside it 3": never 1 or 10
  pub outside : (i limit u : ℕ) (call : Call) → store_count c ≤ i → names_store call ≡ true → refusal_in (answer_on c i limit u call) ≡ 3
  -- "Otherwise a call answers … as it would alone"; "L refuses no retiring"
  pub alone : (i limit u : ℕ) (call : Call) → i < store_count c → brings_limit call ≡ false → answer_on c i limit u call ≡ answer_by (buffers_at c i) u call
  -- "21 for a backup over L, after all others"
  pub backup : (i limit u : ℕ) (era : Era) (t : ℕ) (d : Option ℕ) (image : List ℕ) → i < store_count c
      → answer_on c i limit u (call_backup era t d image)
      ≡ cond (is_over (other_cells c i) limit (backup_as era (pool_at c i) (table_at c i) u t d image)) (backed_up 21 0) (answer_by (buffers_at c i) u (call_backup era t d image))
  pub backup_sent : (i limit u t n : ℕ) (fs ms ss : List ℕ) → i < store_count c
      → answer_on c i limit u (call_backup_sent t n fs ms ss)
      ≡ cond (is_over (other_cells c i) limit (backup_sent_as (pool_at c i) (table_at c i) u t n fs ms ss)) (backed_up 21 0) (answer_by (buffers_at c i) u (call_backup_sent t n fs ms ss))
  -- for each image by itself
  pub backup_all : (i limit u : ℕ) (ts ns is : List ℕ) → i < store_count c
      → answer_on c i limit u (call_backup_all ts ns is) ≡ backed_up_all (backup_all_within (other_cells c i) limit (pool_at c i) (table_at c i) u ts ns is).answer
  -- so that all stores together occupy at most L cells in the end
  pub kept : (i limit u : ℕ) (era : Era) (t : ℕ) (d : Option ℕ) (image : List ℕ) → i < store_count c → refusal_in (answer_on c i limit u (call_backup era t d image)) ≡ 0
      → all_cells (left_on c i limit u (call_backup era t d image)) ≤ limit
  pub kept_sent : (i limit u t n : ℕ) (fs ms ss : List ℕ) → i < store_count c → refusal_in (answer_on c i limit u (call_backup_sent t n fs ms ss)) ≡ 0
      → all_cells (left_on c i limit u (call_backup_sent t n fs ms ss)) ≤ limit

-- a list of calls on a chain
pub record ChainDemands (shapes : ℕ → Shape) (c : Chain) (calls : List ChainCall) : Type 0 where
  -- each store is the one that the calls that it got leave of it, so that "the other stores keep every byte and word"
  pub stores : (j : ℕ) → j < store_count c → buffers_at (chain_after_all c calls) j ≡ buffers_after_all (buffers_at c j) (all_calls_to j c calls)
  -- the whole of demand 3 for each store, "with a keeper of its own", which is fed by these calls
  pub demands : (j : ℕ) → j < store_count c → Demands (shapes j) (buffers_at c j) (all_calls_to j c calls)
  pub serves : StoresServe (chain_after_all c calls)

-- The single claim: from any chain of freshly laid out stores, after every list of calls on it, with any arguments, whose lay outs are refused.
abbrev pub ChainDemand3 : Type 0
ChainDemand3 = (shapes : ℕ → Shape) (c : Chain) (calls : List ChainCall) → FreshChain shapes c → layouts_refused c calls → ChainDemands shapes c calls
