-- A test that tells whether a fact holds.
use Rattle.std.specs.Prelude.{Bool, true, ◌≡◌}

pub record Decides (r : Bool) (P : Type 0) : Type 0 where
  pub holds : r ≡ true → P
  pub seen : P → r ≡ true
