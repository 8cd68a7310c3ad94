use mathlib.Core.Path.{ap, ◌∙◌}
use Rattle.numbers.specs.Measures.{measures_of}
use Rattle.sha1_definition.specs.Sha1.{digest}
use Rattle.sent_prints.proofs.Digests.{zeros_are}
use Rattle.sent_prints.proofs.zero_digest.Goals as goal

pub returns : goal.returns
returns c = c.filled.ensures ∙ ap digest (zeros_are (measures_of c.args.m) c.requires.pieces c.segment_bytes.result c.segment_bytes.ensures.0)
