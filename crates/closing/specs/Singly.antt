-- The same on the buffers, as calls of `backup_as` one after the other; and the claim that a closing is these.
use Rattle.std.specs.Prelude.{ℕ, ◌≡◌, List, [], ◌∷◌}
use Rattle.std.proofs.Math.Option.{none}
use Rattle.lists.specs.Rows.{fill}
use Rattle.model.specs.Image.{with_blanks}
use Rattle.model.specs.Calls.{BackupAnswer}
use Rattle.model.specs.Rights.{backup_as}
use Rattle.closing.specs.Closing.{TillImage, images_in, BackupAllAnswer, backup_all_as}

-- the buffers in the end, and what each call answered
pub record SinglyMade : Type 0 where
  pub refusals : List ℕ
  pub versions : List ℕ
  pub pool : List ℕ
  pub table : List ℕ

-- Each is made by `one`, on the buffers that the last one left.
unfoldable pub made_each : (List ℕ → List ℕ → TillImage → BackupAnswer) → List ℕ → List ℕ → List TillImage → SinglyMade
made_each one pool table [] = record { refusals = []; versions = []; pool = pool; table = table }
made_each one pool table (x ∷ xs) =
    let a : BackupAnswer = one pool table x in
    let later : SinglyMade = made_each one a.pool a.table xs in
    record { refusals = a.refusal ∷ later.refusals; versions = a.version ∷ later.versions; pool = later.pool; table = later.table }

-- a user's backup of one of the images
abbrev pub image_backup : ℕ → List ℕ → List ℕ → TillImage → BackupAnswer
image_backup user pool table x = backup_as with_blanks pool table user x.till none x.image

abbrev pub made_singly : List ℕ → List ℕ → ℕ → List TillImage → SinglyMade
made_singly pool table user xs = made_each (image_backup user) pool table xs

-- the answer of a call that is not refused whole
unfoldable pub answer_to : SinglyMade → BackupAllAnswer
answer_to m = record {
  answer = record { refusal = 0; refusals = fill 16 m.refusals; versions = fill 16 m.versions };
  pool = m.pool;
  table = m.table;
}

-- For all buffers and lists: a closing that is not refused whole is the calls made singly, to the last byte and word.
abbrev pub ClosingIsSingly : Type 0
ClosingIsSingly =
    (pool table : List ℕ) (user : ℕ) (tills lengths bytes : List ℕ) → (backup_all_as pool table user tills lengths bytes).answer.refusal ≡ 0
    → backup_all_as pool table user tills lengths bytes ≡ answer_to (made_singly pool table user (images_in tills lengths bytes))
