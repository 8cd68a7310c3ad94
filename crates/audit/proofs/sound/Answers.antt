use Rattle.std.proofs.Common.{◌∙◌}
use Rattle.audit.proofs.Ranges.{header_long, header_body}
use Rattle.audit.proofs.Answers.{no_header, with_header}
use Rattle.audit.proofs.sound.Goals as goal

pub measures_in-requires : goal.measures_in-requires
measures_in-requires c = header_long _ _ (c.header.ensures.holds c.if-header.true)

pub body_sound-requires : goal.body_sound-requires
body_sound-requires c = header_body _ _ (c.header.ensures.holds c.if-header.true) _ c.measures_in.ensures

pub returns-then-header : goal.returns-then-header
returns-then-header c = with_header c.args.pool.now c.args.table.now _ c.measures_in.ensures c.header.ensures c.if-header.true c.body_sound.ensures

pub returns-else-header : goal.returns-else-header
returns-else-header c = c.if-header.false ∙ no_header c.args.pool.now c.args.table.now c.header.ensures c.if-header.false
