use native.Mathlib.Omega.{arith}
use Rattle.rights.proofs.Bits.{unit_of, bits_few, replaced}
use Rattle.rights.specs.Answers.{rights_given}
use Prim.Native.Nat.{ℕ, ◌-◌, ◌≤◌, ◌<◌}
use Rattle.model.specs.State.{staff}
use Rattle.rights.proofs.word_with.Goals as goal

user : (s : ℕ) → 0 < s → s ≤ staff → s - 1 < staff
user s l h = omega (arith, l, h)

pub overflow_mul-result : goal.overflow_mul-result
overflow_mul-result c = let u = unit_of c.args.word (c.args.subject - 1) (user _ c.requires.0 c.requires.1) in omega (arith, u.inside, c.requires.2)

pub overflow_sub-result : goal.overflow_sub-result
overflow_sub-result c = (unit_of c.args.word (c.args.subject - 1) (user _ c.requires.0 c.requires.1)).inside

pub overflow_mul-result-2 : goal.overflow_mul-result-2
overflow_mul-result-2 c = omega (arith, bits_few (unit_of c.args.word (c.args.subject - 1) (user _ c.requires.0 c.requires.1)) _ (rights_given c.args.rights) c.bits_of.ensures)

pub overflow_add-result : goal.overflow_add-result
overflow_add-result c = omega (arith, c.requires.2, bits_few (unit_of c.args.word (c.args.subject - 1) (user _ c.requires.0 c.requires.1)) _ (rights_given c.args.rights) c.bits_of.ensures)

pub returns : goal.returns
returns c = replaced c.args.word (c.args.subject - 1) _ _ (rights_given c.args.rights) c.requires.2 (user _ c.requires.0 c.requires.1) (unit_of c.args.word (c.args.subject - 1) (user _ c.requires.0 c.requires.1)) c.bits_of.ensures
