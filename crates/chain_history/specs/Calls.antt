-- Calls on a chain: what each answers and leaves, lists of them, and which calls a store of the chain gets by them.
use Rattle.std.specs.Prelude.{ℕ, Bool, cond, List, [], ◌∷◌, ◌++◌, eqb}
use Rattle.model.specs.Calls.{BackupAnswer, layout_of}
use Rattle.model.specs.Rights.{backup_as}
use Rattle.sent.specs.Sent.{backup_sent_as}
use Rattle.closing.specs.Closing.{TillImage, images_in, closing_fits}
use Rattle.closing.specs.Singly.{image_backup}
use Rattle.history.specs.Calls.{Call, call_layout, call_backup, call_restore, call_retire, call_listing, call_version_on, call_tally, call_bill, call_write_stream, call_offer, call_backup_sent, call_backup_all, call_set_rights, Buffers, Answer, laid_out, backed_up, restored, retired, listed, found_on, tallied, billed, streamed, offered, backed_up_all, rights_set, refused_layout}
use Rattle.history.specs.Users.{UserCall}
use Rattle.history.specs.Keeper.{backup_for}
use Rattle.chain.specs.Chain.{Chain, pool_at, table_at, pools_with, tables_with}
use Rattle.chain.specs.Limit.{other_cells, is_over}
use Rattle.chain.specs.Calls.{chain_backup, chain_restore, chain_retire, chain_listing, chain_version_on, chain_tally, chain_bill, chain_write_stream, chain_offer, chain_backup_sent, chain_backup_all, chain_set_rights}

-- A call, its user, the store that it names, and its limit, which is of account to those that back up only. A lay out takes the store alone.
pub record ChainCall : Type 0 where
  pub store : ℕ
  pub limit : ℕ
  pub user : ℕ
  pub call : Call

-- the buffers of store `i`
unfoldable pub buffers_at : Chain → ℕ → Buffers
buffers_at c i = record { pool = pool_at c i; table = table_at c i }

unfoldable pub answer_on : Chain → ℕ → ℕ → ℕ → Call → Answer
answer_on c i limit u (call_layout s) = laid_out (layout_of s (pool_at c i) (table_at c i)).refusal
answer_on c i limit u (call_backup era t d image) = backed_up (chain_backup era c i limit u t d image).refusal (chain_backup era c i limit u t d image).version
answer_on c i limit u (call_restore t v output) = restored (chain_restore c i u t v output)
answer_on c i limit u (call_retire t v) = retired (chain_retire c i u t v).refusal (chain_retire c i u t v).length
answer_on c i limit u (call_listing t) = listed (chain_listing c i u t)
answer_on c i limit u (call_version_on t day) = found_on (chain_version_on c i u t day)
answer_on c i limit u call_tally = tallied (chain_tally c i u)
answer_on c i limit u (call_bill price) = billed (chain_bill c i u price)
answer_on c i limit u (call_write_stream t v output) = streamed (chain_write_stream c i u t v output)
answer_on c i limit u (call_offer t fs ms) = offered (chain_offer c i u t fs ms)
answer_on c i limit u (call_backup_sent t n fs ms ss) = backed_up (chain_backup_sent c i limit u t n fs ms ss).refusal (chain_backup_sent c i limit u t n fs ms ss).version
answer_on c i limit u (call_backup_all ts ns is) = backed_up_all (chain_backup_all c i limit u ts ns is).answer
answer_on c i limit u (call_set_rights subject t r) = rights_set (chain_set_rights c i u subject t r).refusal

-- the chain with other buffers, of the same lengths
unfoldable pub with_buffers : Chain → List ℕ → List ℕ → Chain
with_buffers c pools tables = record { pools = pools; tables = tables; pool_lengths = c.pool_lengths; table_lengths = c.table_lengths }

unfoldable pub left_on : Chain → ℕ → ℕ → ℕ → Call → Chain
left_on c i limit u (call_layout s) =
    with_buffers c (pools_with c i (layout_of s (pool_at c i) (table_at c i)).pool) (tables_with c i (layout_of s (pool_at c i) (table_at c i)).table)
left_on c i limit u (call_backup era t d image) = with_buffers c (chain_backup era c i limit u t d image).pool (chain_backup era c i limit u t d image).table
left_on c i limit u (call_restore t v output) = c
left_on c i limit u (call_retire t v) = with_buffers c (chain_retire c i u t v).pool (chain_retire c i u t v).table
left_on c i limit u (call_listing t) = c
left_on c i limit u (call_version_on t day) = c
left_on c i limit u call_tally = c
left_on c i limit u (call_bill price) = c
left_on c i limit u (call_write_stream t v output) = c
left_on c i limit u (call_offer t fs ms) = c
left_on c i limit u (call_backup_sent t n fs ms ss) = with_buffers c (chain_backup_sent c i limit u t n fs ms ss).pool (chain_backup_sent c i limit u t n fs ms ss).table
left_on c i limit u (call_backup_all ts ns is) = with_buffers c (chain_backup_all c i limit u ts ns is).pool (chain_backup_all c i limit u ts ns is).table
left_on c i limit u (call_set_rights subject t r) = with_buffers c c.pools (chain_set_rights c i u subject t r).table

-- what a call answers, and the chain after it
unfoldable pub chain_answer : Chain → ChainCall → Answer
chain_answer c x = answer_on c x.store x.limit x.user x.call

unfoldable pub chain_after : Chain → ChainCall → Chain
chain_after c x = left_on c x.store x.limit x.user x.call

-- "every call of the list … gets them all with their true lengths", as the last one left them
unfoldable pub chain_after_all : Chain → List ChainCall → Chain
chain_after_all c [] = c
chain_after_all c (x ∷ xs) = chain_after_all (chain_after c x) xs

-- every lay out of the list is refused when it is made
abbrev pub layouts_refused : Chain → List ChainCall → Type 0
layouts_refused c [] = Unit {0}
layouts_refused c (x ∷ xs) = refused_layout (buffers_at c x.store) x.call × layouts_refused (chain_after c x) xs

-- ---- which calls a store gets

-- a call, unless the limit refuses it
unfoldable pub unless_over : Bool → ℕ → Call → List UserCall
unless_over over u call = cond over [] (record { user = u; call = call } ∷ [])

-- the backups of a closing's images that the limit does not refuse, one after the other
unfoldable pub images_left : ℕ → ℕ → ℕ → List ℕ → List ℕ → List TillImage → List UserCall
images_left others limit u pool table [] = []
images_left others limit u pool table (x ∷ xs) =
    let a : BackupAnswer = image_backup u pool table x in
    cond (is_over others limit a) (images_left others limit u pool table xs)
    (record { user = u; call = backup_for x } ∷ images_left others limit u a.pool a.table xs)

-- by a call that names store `i`; a closing is the backups of its images, none if it is refused whole
unfoldable pub reaches : Chain → ℕ → ℕ → ℕ → Call → List UserCall
reaches c i limit u (call_layout s) = record { user = u; call = call_layout s } ∷ []
reaches c i limit u (call_backup era t d image) =
    unless_over (is_over (other_cells c i) limit (backup_as era (pool_at c i) (table_at c i) u t d image)) u (call_backup era t d image)
reaches c i limit u (call_restore t v output) = record { user = u; call = call_restore t v output } ∷ []
reaches c i limit u (call_retire t v) = record { user = u; call = call_retire t v } ∷ []
reaches c i limit u (call_listing t) = record { user = u; call = call_listing t } ∷ []
reaches c i limit u (call_version_on t day) = record { user = u; call = call_version_on t day } ∷ []
reaches c i limit u call_tally = record { user = u; call = call_tally } ∷ []
reaches c i limit u (call_bill price) = record { user = u; call = call_bill price } ∷ []
reaches c i limit u (call_write_stream t v output) = record { user = u; call = call_write_stream t v output } ∷ []
reaches c i limit u (call_offer t fs ms) = record { user = u; call = call_offer t fs ms } ∷ []
reaches c i limit u (call_backup_sent t n fs ms ss) =
    unless_over (is_over (other_cells c i) limit (backup_sent_as (pool_at c i) (table_at c i) u t n fs ms ss)) u (call_backup_sent t n fs ms ss)
reaches c i limit u (call_backup_all ts ns is) =
    cond (closing_fits ts ns is) (images_left (other_cells c i) limit u (pool_at c i) (table_at c i) (images_in ts ns is)) []
reaches c i limit u (call_set_rights subject t r) = record { user = u; call = call_set_rights subject t r } ∷ []

-- the calls that store `j` gets by one call on the chain, and by a list of them
unfoldable pub calls_to : ℕ → Chain → ChainCall → List UserCall
calls_to j c x = cond (eqb x.store j) (reaches c x.store x.limit x.user x.call) []

unfoldable pub all_calls_to : ℕ → Chain → List ChainCall → List UserCall
all_calls_to j c [] = []
all_calls_to j c (x ∷ xs) = calls_to j c x ++ all_calls_to j (chain_after c x) xs
