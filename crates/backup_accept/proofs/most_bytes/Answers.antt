use native.Mathlib.Omega.{arith}
use Rattle.backup_accept.proofs.Deciding.{bytes_few, bytes_most}
use Rattle.backup_accept.proofs.most_bytes.Goals as goal

pub byte-requires : goal.byte-requires
byte-requires c = omega (arith, bytes_few _ c.requires _ c.measures_in-m.ensures)

pub returns : goal.returns
returns c = bytes_most _ _ c.measures_in-m.ensures _ c.byte.ensures
