use Rattle.rights.proofs.Bits.{given_bits}
use Rattle.rights.specs.Answers.{rights_given}
use Rattle.rights.proofs.bits_of.Goals as goal

pub returns : goal.returns
returns c = rw (c.from-list.ensures, c.from-back_up.ensures, c.from-restore.ensures, c.from-retire.ensures) (given_bits (rights_given c.args.rights))
