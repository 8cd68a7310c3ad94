-- "Each [call] that backs up brings a limit L on occupied cells over all of them."
use Rattle.std.specs.Prelude.{ℕ, ◌+◌, Bool, cond, List, [], ◌∷◌, eqb, ltb}
use Rattle.std.proofs.Math.Option.{none}
use Rattle.lists.specs.Lists.{counted, total, all_of}
use Rattle.model.specs.Image.{with_blanks}
use Rattle.model.specs.Calls.{BackupAnswer, tally_of}
use Rattle.model.specs.Rights.{backup_refusal, backup_as}
use Rattle.closing.specs.Closing.{TillImage, images_in, closing_fits, all_refused, BackupAllAnswer}
use Rattle.closing.specs.Singly.{made_each, answer_to}
use Rattle.chain.specs.Chain.{Chain, store_count, pool_at, table_at}

-- the cells that a store occupies, as its tally counts them
unfoldable pub occupied : List ℕ → List ℕ → ℕ
occupied pool table = (tally_of pool table).cells

-- those that all stores occupy, and all but store `i`
unfoldable pub all_cells : Chain → ℕ
all_cells c = total (λ j. occupied (pool_at c j) (table_at c j)) (counted (λ j. j) 0 (store_count c))

unfoldable pub other_cells : Chain → ℕ → ℕ
other_cells c i = total (λ j. cond (eqb j i) 0 (occupied (pool_at c j) (table_at c j))) (counted (λ j. j) 0 (store_count c))

-- "A backup is refused if the sum at its end would exceed L; the check uses the cells left after removal." `a` is what the backup alone would answer and
-- leave, `others` the cells that the other stores occupy.
abbrev pub is_over : ℕ → ℕ → BackupAnswer → Bool
is_over others limit a = all_of (eqb a.refusal 0 ∷ ltb limit (others + occupied a.pool a.table) ∷ [])

-- 21 comes "after all others", and alters nothing.
unfoldable pub within : ℕ → ℕ → List ℕ → List ℕ → BackupAnswer → BackupAnswer
within others limit pool table a = cond (is_over others limit a) (backup_refusal pool table 21) a

-- §7: each image is a backup by itself
unfoldable pub image_within : ℕ → ℕ → ℕ → List ℕ → List ℕ → TillImage → BackupAnswer
image_within others limit user pool table x = within others limit pool table (backup_as with_blanks pool table user x.till none x.image)

unfoldable pub backup_all_within : ℕ → ℕ → List ℕ → List ℕ → ℕ → List ℕ → List ℕ → List ℕ → BackupAllAnswer
backup_all_within others limit pool table user tills lengths images =
    cond (closing_fits tills lengths images)
    (answer_to (made_each (image_within others limit user) pool table (images_in tills lengths images)))
    (record { answer = all_refused 4; pool = pool; table = table })
