-- "All tills at closing" (§7): one call for up to 16 images with their tills, which is so many backups.
use Rattle.std.specs.Prelude.{ℕ, Bool, cond, List, [], ◌∷◌, length, take, drop, eqb, leb}
use Rattle.std.proofs.Math.Option.{Option, none, some}
use Rattle.lists.specs.Lists.{total, all_of}
use Rattle.lists.specs.Rows.{fill}
use Rattle.model.specs.Measures.{Shape}
use Rattle.model.specs.State.{State, Outcome, refused, done}
use Rattle.model.specs.Image.{with_blanks}
use Rattle.model.specs.Table.{state_to_words, state_to_bytes}
use Rattle.model.specs.Sound.{Store, store_of}
use Rattle.model.specs.Calls.{After, state_or, outcome_refusal, outcome_number, backup}
use Rattle.model.specs.Rights.{to_back_up, refusal_at, unless}

-- an image and its till
pub record TillImage : Type 0 where
  pub till : ℕ
  pub image : List ℕ

-- the images of those lengths, which lie end to end
unfoldable pub images_in : List ℕ → List ℕ → List ℕ → List TillImage
images_in [] lengths bytes = []
images_in (t ∷ tills) [] bytes = []
images_in (t ∷ tills) (n ∷ lengths) bytes = record { till = t; image = take n bytes } ∷ images_in tills lengths (drop n bytes)

-- not "more than 16 images, lists of unequal count, or lengths that do not add up to the bytes sent"
unfoldable pub closing_fits : List ℕ → List ℕ → List ℕ → Bool
closing_fits tills lengths bytes =
    all_of (leb (length tills) 16 ∷ eqb (length lengths) (length tills) ∷ eqb (total (λ n. n) lengths) (length bytes) ∷ [])

-- the state in the end, and what each image's backup answered
pub record Closed : Type 0 where
  pub state : State
  pub refusals : List ℕ
  pub versions : List ℕ

-- one of them, for a user: 3, 22, 23, then as ever
unfoldable pub backup_one : Shape → State → ℕ → TillImage → Outcome After
backup_one s st user x = unless (refusal_at s st user x.till to_back_up) refused (backup with_blanks s st x.till none x.image)

-- "Answers and store are those of backups made singly in that order; a refused image does not stop the later ones."
unfoldable pub backup_each : Shape → State → ℕ → List TillImage → Closed
backup_each s st user [] = record { state = st; refusals = []; versions = [] }
backup_each s st user (x ∷ xs) =
    let o : Outcome After = backup_one s st user x in
    let later : Closed = backup_each s (state_or st o) user xs in
    record { state = later.state; refusals = outcome_refusal o ∷ later.refusals; versions = outcome_number o ∷ later.versions }

unfoldable pub backup_all : Shape → State → ℕ → List ℕ → List ℕ → List ℕ → Outcome Closed
backup_all s st user tills lengths bytes = cond (closing_fits tills lengths bytes) (done (backup_each s st user (images_in tills lengths bytes))) (refused 4)

-- ---- the call: 10, 4; the rights are asked for each image

-- the whole call's refusal, and the refusals and versions of 16 images, 0 past the last one
pub record AllAnswer : Type 0 where
  pub refusal : ℕ
  pub refusals : List ℕ
  pub versions : List ℕ

unfoldable pub all_refused : ℕ → AllAnswer
all_refused n = record { refusal = n; refusals = fill 16 []; versions = fill 16 [] }

unfoldable pub all_answer : Outcome Closed → AllAnswer
all_answer (refused n) = all_refused n
all_answer (done c) = record { refusal = 0; refusals = fill 16 c.refusals; versions = fill 16 c.versions }

-- what a call that may be refused leaves of a state
unfoldable pub closed_or : State → Outcome Closed → State
closed_or st (refused n) = st
closed_or st (done c) = c.state

pub record BackupAllAnswer : Type 0 where
  pub answer : AllAnswer
  pub pool : List ℕ
  pub table : List ℕ

unfoldable pub backup_all_answer : List ℕ → List ℕ → Shape → Outcome Closed → BackupAllAnswer
backup_all_answer pool table s (refused n) = record { answer = all_refused n; pool = pool; table = table }
backup_all_answer pool table s (done c) = record { answer = all_answer (done c); pool = state_to_bytes c.state; table = state_to_words s c.state }

unfoldable pub backup_all_in : Option Store → List ℕ → List ℕ → ℕ → List ℕ → List ℕ → List ℕ → BackupAllAnswer
backup_all_in none pool table user tills lengths bytes = record { answer = all_refused 10; pool = pool; table = table }
backup_all_in (some store) pool table user tills lengths bytes =
    backup_all_answer pool table store.shape (backup_all store.shape store.state user tills lengths bytes)

unfoldable pub backup_all_as : List ℕ → List ℕ → ℕ → List ℕ → List ℕ → List ℕ → BackupAllAnswer
backup_all_as pool table user tills lengths bytes = backup_all_in (store_of pool table) pool table user tills lengths bytes
