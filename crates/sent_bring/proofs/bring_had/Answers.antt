use native.Mathlib.Omega.{arith}
use Rattle.numbers.specs.Measures.{measures_of}
use Rattle.storage.proofs.Read.{records_count}
use Rattle.sent_bring.proofs.Had.{bring_zero, bring_sent, bring_record, bring_none}
use Rattle.sent_bring.proofs.Records.{sent_room, segment_long}
use Rattle.sent_bring.proofs.bring_had.Goals as goal

pub returns-then-same : goal.returns-then-same
returns-then-same c = let a = c.args in
    let s = c.requires.stored in
    bring_zero (measures_of a.m) a.pool.now a.words.now a.prints.now a.segments.now a.fingerprint.now a.s s.1 s.2 a.zero s.4 _ c.digest_bytes-print.ensures _ c.same.ensures _
    c.if-same.true _ s.5 (c.fill.ensures.after (λ y e. e))

pub overflow_mul-i : goal.overflow_mul-i
overflow_mul-i c = omega (arith, sent_room (measures_of c.args.m) _ c.in-Some.i c.args.s _ c.segment_bytes-width.ensures.0 (omega (arith, c.in-Some.ensures.1)) c.requires.stored.2)

pub copy_part-requires : goal.copy_part-requires
copy_part-requires c = (
  omega (arith, sent_room (measures_of c.args.m) _ c.in-Some.i c.args.s _ c.segment_bytes-width.ensures.0 (omega (arith, c.in-Some.ensures.1)) c.requires.stored.2),
  omega (arith, c.requires.stored.5, segment_long (measures_of c.args.m), c.segment_bytes-width.ensures.0),
)

pub returns-in-Some : goal.returns-in-Some
returns-in-Some c = let a = c.args in
    let s = c.requires.stored in
    bring_sent (measures_of a.m) a.pool.now a.words.now a.prints.now a.segments.now a.fingerprint.now a.s s.1 s.2 a.zero s.4 _ c.digest_bytes-print.ensures _ c.same.ensures _
    c.if-same.false _ c.in-Some.ensures.0 c.in-Some.ensures.1 _ c.segment_bytes-width.ensures.0 a.out.now s.5 c.copy_part.ensures

pub returns-then-count-n : goal.returns-then-count-n
returns-then-count-n c = let a = c.args in
    let s = c.requires.stored in
    bring_none (measures_of a.m) a.pool.now a.words.now a.prints.now a.segments.now a.fingerprint.now a.s s.1 s.2 a.zero s.4 _ c.digest_bytes-print.ensures _ c.same.ensures _
    c.if-same.false c.in_default.ensures _ c.requires.number_value (omega (arith, c.rows-count.ensures, records_count a.m.blocks a.words.now))

pub put_record-requires : goal.put_record-requires
put_record-requires c = (c.requires.stored.0, omega (arith, c.rows-count.ensures, records_count c.args.m.blocks c.args.words.now), c.requires.stored.5)

pub returns : goal.returns
returns c = let a = c.args in
    let s = c.requires.stored in
    bring_record (measures_of a.m) a.pool.now a.words.now a.prints.now a.segments.now a.fingerprint.now a.s s.1 s.2 a.zero s.4 _ c.digest_bytes-print.ensures _ c.same.ensures _
    c.if-same.false c.in_default.ensures _ c.requires.number_value (omega (arith, c.rows-count.ensures, records_count a.m.blocks a.words.now)) c.put_record.ensures
