use mathlib.Core.Path.{refl, ◌∙◌}
use Prim.Native.Nat.{◌+◌, ◌-◌, ◌*◌}
use native.Mathlib.Omega.{arith}
use Rattle.std.proofs.lemmas.Result.{err_from_is_err_and}
use lib.ListN.{length}
use borrow.Rule.Slice.PartMut.{same_len_mid}
use Rattle.lists.proofs.Answers.{part_long}
use Rattle.model.specs.Table.{storage_in}
use Rattle.numbers.specs.Measures.{measures_of}
use Rattle.sent.specs.Sent.{segment_bytes}
use Rattle.sent_laws.proofs.Assembling.{at_start, at_refused, at_next, at_end}
use Rattle.sent_assemble.proofs.Taking.{width_is, number_some}
use Rattle.sent_assemble.proofs.Gathering.{wide, places, mark_one, sent_room, prints_room, print_is, next_is, number_is, one_more}
use Rattle.sent_assemble.proofs.gather.Goals as goal

pub segment_bytes-width-requires : goal.segment_bytes-width-requires
segment_bytes-width-requires c = (c.requires.0.measured.most_bytes, c.requires.0.measured.most_blocks)

pub zero_digest-zero-requires : goal.zero_digest-zero-requires
zero_digest-zero-requires c = c.requires.0.measured

pub loop-j-init : goal.loop-j-init
loop-j-init c = (width_is (measures_of c.args.m) _ c.segment_bytes-width.ensures.0, refl, at_start (measures_of c.args.m) (storage_in (measures_of c.args.m) c.args.pool.now c.args.words.now) c.args.bytes c.args.fingerprints.now c.args.marks.now c.args.segments.now _)

pub overflow_mul-at : goal.overflow_mul-at
overflow_mul-at c = let (p, q, r, t) = places c.requires.0.measured c.requires.1 c.loop-j.invariant.2 (omega arith) c.loop-j.invariant.0 (length c.loop-j.out) (omega (arith, c.requires.6, c.loop-j.invariant.1)) in omega (arith, p, q, r, t)

pub overflow_add-end : goal.overflow_add-end
overflow_add-end c = let (p, q, r, t) = places c.requires.0.measured c.requires.1 c.loop-j.invariant.2 (omega arith) c.loop-j.invariant.0 (length c.loop-j.out) (omega (arith, c.requires.6, c.loop-j.invariant.1)) in omega (arith, p, q, r, t)

pub overflow_mul-from : goal.overflow_mul-from
overflow_mul-from c = let (p, q, r, t) = places c.requires.0.measured c.requires.1 c.loop-j.invariant.2 (omega arith) c.loop-j.invariant.0 (length c.loop-j.out) (omega (arith, c.requires.6, c.loop-j.invariant.1)) in omega (arith, p, q, r, t)

pub overflow_add-to : goal.overflow_add-to
overflow_add-to c = let (p, q, r, t) = places c.requires.0.measured c.requires.1 c.loop-j.invariant.2 (omega arith) c.loop-j.invariant.0 (length c.loop-j.out) (omega (arith, c.requires.6, c.loop-j.invariant.1)) in omega (arith, p, q, r, t)

pub overflow_sub-bytes : goal.overflow_sub-bytes
overflow_sub-bytes c = let (p, q, r, t) = places c.requires.0.measured c.requires.1 c.loop-j.invariant.2 (omega arith) c.loop-j.invariant.0 (length c.loop-j.out) (omega (arith, c.requires.6, c.loop-j.invariant.1)) in omega (arith, p, q, r, t)

pub slice_bounds-take_segment-end-in-loop-j : goal.slice_bounds-take_segment-end-in-loop-j
slice_bounds-take_segment-end-in-loop-j c = let (p, q, r, t) = places c.requires.0.measured c.requires.1 c.loop-j.invariant.2 (omega arith) c.loop-j.invariant.0 (length c.loop-j.out) (omega (arith, c.requires.6, c.loop-j.invariant.1)) in omega (arith, p, q, r, t)

pub take_segment-requires : goal.take_segment-requires
take_segment-requires c = let l = c.loop-j in
    let t = places c.requires.0.measured c.requires.1 c.loop-j.invariant.2 (omega arith) c.loop-j.invariant.0 (length c.loop-j.out) (omega (arith, c.requires.6, c.loop-j.invariant.1)) in record {
      stored = (
        c.requires.0,
        c.requires.2,
        mark_one (measures_of c.args.m) c.requires.0.measured (storage_in (measures_of c.args.m) c.args.pool.now c.args.words.now) c.args.bytes c.args.fingerprints.now c.args.marks.now c.args.segments.now c.requires.1 l.invariant.2 (omega arith),
        sent_room (measures_of c.args.m) c.requires.0.measured (storage_in (measures_of c.args.m) c.args.pool.now c.args.words.now) c.args.bytes c.args.fingerprints.now c.args.marks.now c.args.segments.now c.requires.1 l.invariant.2 (omega arith),
        omega (arith, c.requires.3, prints_room (measures_of c.args.m) c.requires.0.measured (storage_in (measures_of c.args.m) c.args.pool.now c.args.words.now) c.args.bytes c.args.fingerprints.now c.args.marks.now c.args.segments.now c.requires.1 l.invariant.2 (omega arith)),
        c.zero_digest-zero.ensures,
        part_long l.out (l.j * c.segment_bytes-width.result) c.segment_bytes-width.result t.0 ∙ l.invariant.0,
      );
      number_value = number_is (measures_of c.args.m) c.args.pool.now c.args.words.now c.args.fingerprints.now c.args.numbers.now c.requires.5 l.j (omega (arith, c.requires.4)) _ (print_is c.args.fingerprints.now l.j);
    }

pub returns-in_err-take_segment : goal.returns-in_err-take_segment
returns-in_err-take_segment c = let p = err_from_is_err_and c.from_residual.result c.from_residual.ensures.1 in
    let l = c.loop-j in
    let e = next_is (measures_of c.args.m) (storage_in (measures_of c.args.m) c.args.pool.now c.args.words.now) c.args.bytes c.args.fingerprints.now c.args.marks.now c.args.segments.now l.j l.s _ l.invariant.0 _ (print_is c.args.fingerprints.now l.j) _ _ c.in_err-take_segment.ensures in
    rw (p.1, p.2) (at_refused (measures_of c.args.m) (storage_in (measures_of c.args.m) c.args.pool.now c.args.words.now) c.args.bytes c.args.fingerprints.now c.args.marks.now c.args.segments.now l.invariant.2 (omega arith) (mark_one (measures_of c.args.m) c.requires.0.measured (storage_in (measures_of c.args.m) c.args.pool.now c.args.words.now) c.args.bytes c.args.fingerprints.now c.args.marks.now c.args.segments.now c.requires.1 l.invariant.2 (omega arith)) _ _ e (number_some c.in_err-take_segment.field-0.0) _)

pub overflow_add-s : goal.overflow_add-s
overflow_add-s c = omega (arith, c.from-s.ensures, prints_room (measures_of c.args.m) c.requires.0.measured (storage_in (measures_of c.args.m) c.args.pool.now c.args.words.now) c.args.bytes c.args.fingerprints.now c.args.marks.now c.args.segments.now c.requires.1 c.loop-j.invariant.2 (omega arith))

pub loop-j-preserved : goal.loop-j-preserved
loop-j-preserved c = let l = c.loop-j in
    let w = c.segment_bytes-width.result in
    let t = places c.requires.0.measured c.requires.1 c.loop-j.invariant.2 (omega arith) c.loop-j.invariant.0 (length c.loop-j.out) (omega (arith, c.requires.6, c.loop-j.invariant.1)) in
    let n = c.take_segment.auto.out ∙ part_long l.out (l.j * w) w t.0 in
    let e = next_is (measures_of c.args.m) (storage_in (measures_of c.args.m) c.args.pool.now c.args.words.now) c.args.bytes c.args.fingerprints.now c.args.marks.now c.args.segments.now l.j l.s _ l.invariant.0 _ (print_is c.args.fingerprints.now l.j) _ _ c.in_ok-take_segment.ensures in (
      l.invariant.0,
      same_len_mid (l.j * w) (l.j * w + w - l.j * w) l.out c.take_segment.new.out c.take_segment.auto.out ∙ l.invariant.1,
      rw c.from-s.ensures (at_next (measures_of c.args.m) (storage_in (measures_of c.args.m) c.args.pool.now c.args.words.now) c.args.bytes c.args.fingerprints.now c.args.marks.now c.args.segments.now l.invariant.2 (omega arith) (mark_one (measures_of c.args.m) c.requires.0.measured (storage_in (measures_of c.args.m) c.args.pool.now c.args.words.now) c.args.bytes c.args.fingerprints.now c.args.marks.now c.args.segments.now c.requires.1 l.invariant.2 (omega arith)) 0 c.take_segment.new.out e refl _
          (one_more w (segment_bytes (measures_of c.args.m)) l.j l.invariant.0 l.out c.take_segment.new.out t.0 n)),
    )

pub returns : goal.returns
returns c = at_end (measures_of c.args.m) (storage_in (measures_of c.args.m) c.args.pool.now c.args.words.now) c.args.bytes c.args.fingerprints.now c.args.marks.now c.args.segments.now c.loop-j.j c.loop-j.s c.loop-j.out c.loop-j.invariant.2 (omega arith) c.requires.1.all (omega (arith, wide (measures_of c.args.m) c.requires.0.measured))
