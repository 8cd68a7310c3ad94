-- The end of a message whose chunks were taken before, wherever they lie.
use Rattle.std.specs.Prelude.{List, ◌++◌, ℕ, ◌+◌, ◌*◌, length}
use Rattle.sha1_definition.specs.declared.State.{State}
use Rattle.sha1_definition.specs.declared.Digest.{Digest}
use Rattle.sha1_definition.specs.Sha1.{absorbed, padding, digest_in}

-- the digest of a message of `chunks` chunks, after which the state is h, and the bytes `rest`
unfoldable pub finished : State → List ℕ → ℕ → Digest
finished h rest chunks = digest_in (absorbed h (rest ++ padding (64 * chunks + length rest)))
