-- A till's words with the slot of a held version.
use Rattle.std.specs.Prelude.{List, ℕ, ◌+◌, ◌*◌, ◌≤◌, ◌<◌, length, get_or}

-- place j is that of a held version, and the slots, for images of b blocks, are there
pub record HasSlot (b j : ℕ) (till : List ℕ) : Type 0 where
  pub small : b ≤ 1024
  pub long : length till ≤ 65732
  pub held : j < get_or till 1 0
  pub slots : 4 + get_or till 1 0 * (3 + b) ≤ length till
