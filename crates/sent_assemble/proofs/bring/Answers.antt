use Rattle.model.specs.Table.{storage_in}
use Rattle.numbers.specs.Measures.{measures_of}
use Rattle.sent_assemble.proofs.Taking.{width_is, sent_there, had_there, sent_brought, had_brought}
use Rattle.sent_assemble.proofs.bring.Goals as goal

pub segment_bytes-width-requires : goal.segment_bytes-width-requires
segment_bytes-width-requires c = (c.requires.stored.0.measured.most_bytes, c.requires.stored.0.measured.most_blocks)

pub bring_sent-requires : goal.bring_sent-requires
bring_sent-requires c = let p = c.requires.stored in sent_there (measures_of c.args.m) c.args.mark c.args.s c.args.segments.now c.args.prints.now _ (width_is (measures_of c.args.m) _ c.segment_bytes-width.ensures.0) p.1 c.if-mark-eq1.true p.3 p.4 c.args.out.now p.6

pub returns-then-mark-eq1 : goal.returns-then-mark-eq1
returns-then-mark-eq1 c = sent_brought (measures_of c.args.m) (storage_in (measures_of c.args.m) c.args.pool.now c.args.words.now) c.args.mark c.args.s c.args.segments.now c.args.fingerprint.now _ _ _ (width_is (measures_of c.args.m) _ c.segment_bytes-width.ensures.0) c.if-mark-eq1.true c.bring_sent.ensures

pub bring_had-requires : goal.bring_had-requires
bring_had-requires c = let p = c.requires.stored in let t = had_there (measures_of c.args.m) c.args.mark c.args.s c.args.segments.now c.args.prints.now p.2 c.if-mark-eq1.false p.3 p.4 in record { stored = (p.0, p.1, t.1, t.2, p.5, p.6); number_value = c.requires.number_value }

pub returns : goal.returns
returns c = let p = c.requires.stored in let t = had_there (measures_of c.args.m) c.args.mark c.args.s c.args.segments.now c.args.prints.now p.2 c.if-mark-eq1.false p.3 p.4 in had_brought (measures_of c.args.m) (storage_in (measures_of c.args.m) c.args.pool.now c.args.words.now) c.args.mark c.args.s c.args.segments.now c.args.fingerprint.now _ _ t.0 c.bring_had.ensures
