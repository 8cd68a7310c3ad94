use native.Mathlib.Omega.{arith}
use Rattle.rights.proofs.Bits.{place_most, allowed}
use Rattle.rights.specs.Answers.{right_of}
use Rattle.rights.proofs.allows.Goals as goal

pub overflow_add-bit : goal.overflow_add-bit
overflow_add-bit c = omega (arith, c.requires.1, c.place_of.ensures, place_most (right_of c.args.right))

pub overflow_shr-result : goal.overflow_shr-result
overflow_shr-result c = omega (arith, c.requires.1, c.place_of.ensures, place_most (right_of c.args.right))

pub returns : goal.returns
returns c = allowed (right_of c.args.right) c.args.word c.args.user c.place_of.result c.requires.0 c.requires.1 c.place_of.ensures
