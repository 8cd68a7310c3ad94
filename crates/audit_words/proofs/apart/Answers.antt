use Rattle.audit_words.proofs.Disjoint.{apart_decides}
use Rattle.audit_words.proofs.apart.Goals as goal

pub returns : goal.returns
returns c = apart_decides _ _
