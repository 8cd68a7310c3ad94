-- What a block gives to a stream: the writer's contracts name it.
use Rattle.std.specs.Prelude.{ℕ, cond, List, []}
use Rattle.model.specs.Sound.{is_filled}
use Rattle.model.specs.State.{Block}

-- the block itself, if it has a bit
abbrev pub block_part : Block → List ℕ
block_part b = cond (is_filled b) b []
