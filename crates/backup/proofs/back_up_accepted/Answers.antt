use Rattle.laws.proofs.Stores.{header}
use Rattle.backup.proofs.back_up_accepted.Goals as goal

pub measures_in-m-requires : goal.measures_in-m-requires
measures_in-m-requires c = (header c.requires.0).eight
