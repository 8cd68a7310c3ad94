-- The writer: a version of a store as a stream. "The writer refuses as restore does, with 5 for an output shorter than the stream."
use Rattle.std.specs.Prelude.{ℕ, cond, List, take, replicate, eqb}
use Rattle.model.specs.Measures.{Shape}
use Rattle.model.specs.State.{State}
use Rattle.model.specs.Sound.{store_of}
use Rattle.model.specs.Calls.{RestoreAnswer, restore, restore_of}
use Rattle.model.specs.Rights.{to_restore, refusal_for, unless}
use Rattle.stream.specs.Stream.{StreamAnswer, stream_refusal, write_stream}

-- an output that every image fits
unfoldable pub longest_output : List ℕ
longest_output = replicate 65536 0

-- the stream of the image that was restored, or the restore's refusal
unfoldable pub write_restored : RestoreAnswer → List ℕ → StreamAnswer
write_restored r output = cond (eqb r.refusal 0) (write_stream (take r.length r.output) output) (stream_refusal r.refusal output)

-- on a state, and on the two buffers
unfoldable pub write_version : Shape → State → ℕ → ℕ → List ℕ → StreamAnswer
write_version s st t version output = write_restored (restore s st t version longest_output) output

unfoldable pub write_stream_of : List ℕ → List ℕ → ℕ → ℕ → List ℕ → StreamAnswer
write_stream_of pool table t version output = write_restored (restore_of pool table t version longest_output) output

-- with its user: 22 and 23 after 3
unfoldable pub write_stream_as : List ℕ → List ℕ → ℕ → ℕ → ℕ → List ℕ → StreamAnswer
write_stream_as pool table user t version output =
    unless (refusal_for (store_of pool table) user t to_restore) (λ n. stream_refusal n output) (write_stream_of pool table t version output)
