use Rattle.std.proofs.Common.{◌≡◌, ◌*◌, ◌+◌, ◌-◌, arith, drop, length-drop}
use lib.Seq.{length-take-le}
use Rattle.numbers.specs.Measures.{measures_of}
use Rattle.storage.proofs.Inside.{few_records}
use Rattle.storage.proofs.Read.{stored_records}
use Rattle.place.proofs.Along.{along_begins, along_end, along_few, along_room, along_start, along_step, along_stop, along_undone, few_segments}
use Rattle.place.proofs.Answered.{number_of_record, number_positive}
use Rattle.place.proofs.Keeping.{counts_wider}
use Rattle.place.proofs.place_segments.Goals as goal

pub segment_bytes-width-requires : goal.segment_bytes-width-requires
segment_bytes-width-requires c = (c.requires.0.stored.measured.most_bytes, c.requires.0.stored.measured.most_blocks)

pub segments-n-requires : goal.segments-n-requires
segments-n-requires c = (c.requires.0.stored.measured, omega (arith, c.requires.0.most))

pub used_records-used-requires : goal.used_records-used-requires
used_records-used-requires c = let st = c.requires.0.stored in (st.measured.most_blocks, stored_records _ st, st.short)

pub loop-j-init : goal.loop-j-init
loop-j-init c = along_start _ _ _ _ _ _ _ _ _ c.segments-n.ensures c.requires.0.stored c.requires.0.counts c.requires.1 c.used_records-used.ensures.1

pub overflow_add-most : goal.overflow_add-most
overflow_add-most c = omega (arith, along_few c.loop-j.invariant c.loop-j-test.true c.requires.0.most, c.used_records-used.ensures.0, few_records c.requires.0.stored)

pub overflow_mul-j : goal.overflow_mul-j
overflow_mul-j c = omega (arith, along_begins c.loop-j.invariant c.loop-j-test.true c.requires.0.most _ c.segment_bytes-width.ensures.0)

pub place_segment-requires : goal.place_segment-requires
place_segment-requires c =
    let l = c.loop-j in
    let k = c.args.m.blocks in
    let room = along_room l.invariant c.loop-j-test.true c.requires.0.room in
    let z : l.j * k + k - l.j * k ≡ k = omega arith in (
      record {
        begins = omega (arith, along_begins l.invariant c.loop-j-test.true c.requires.0.most _ c.segment_bytes-width.ensures.0);
        stored = l.invariant.stored;
        counts = counts_wider _ _ l.invariant.counts 4294967295 (omega (arith, along_few l.invariant c.loop-j-test.true c.requires.0.most));
        cells = l.invariant.cells;
        room = rw z (length-take-le k (drop (l.j * k) l.words) (omega (arith, room, length-drop (l.j * k) l.words)));
      },
      l.invariant.rest,
    )

pub bounds-placed-j : goal.bounds-placed-j
bounds-placed-j c = omega (arith, along_few c.loop-j.invariant c.loop-j-test.true c.requires.0.most, c.loop-j.invariant.same_placed, c.requires.2)

pub undo_all-requires : goal.undo_all-requires
undo_all-requires c =
    let l = c.loop-j in
    let q = along_stop l.invariant c.loop-j-test.true _ _ _ _ _ _ (rw c.segment_bytes-width.ensures.0 at c.in-Err.ensures) (number_positive c.in-Err.refusal) in
    (rw (q.0, q.1) l.invariant.stored, omega (arith, along_few l.invariant c.loop-j-test.true c.requires.0.most, l.invariant.same_placed, c.requires.2))

pub returns-in-Err : goal.returns-in-Err
returns-in-Err c =
    let l = c.loop-j in
    let q = along_stop l.invariant c.loop-j-test.true _ _ _ _ _ _ (rw c.segment_bytes-width.ensures.0 at c.in-Err.ensures) (number_positive c.in-Err.refusal) in
    along_undone l.invariant c.requires.0.stored _ _ _ _ _ _ _ q.0 q.1 q.2 c.undo_all.ensures

pub loop-j-preserved : goal.loop-j-preserved
loop-j-preserved c =
    let l = c.loop-j in
    let p = c.place_segment in
    let k = c.args.m.blocks in
    let few = along_few l.invariant c.loop-j-test.true c.requires.0.most in
    let room = along_room l.invariant c.loop-j-test.true c.requires.0.room in
    let z : l.j * k + k - l.j * k ≡ k = omega arith in
    rw (z, number_of_record c.in-Ok.record _ c.unwrap_or.ensures)
    (along_step l.invariant c.loop-j-test.true (omega (arith, few, c.requires.2)) c.requires.0.room _ _ _ _ _
    (omega arith) (omega arith) (omega arith) (omega (arith, p.auto.words, length-take-le (l.j * k + k - l.j * k) (drop (l.j * k) l.words) (omega (arith, room, length-drop (l.j * k) l.words))))
    (rw c.segment_bytes-width.ensures.0 at c.in-Ok.ensures))

pub returns : goal.returns
returns c = let l = c.loop-j in
    along_end l.invariant (omega arith) (omega (arith, l.invariant.all, few_segments (measures_of c.args.m) c.args.image.now c.requires.0.stored.measured c.requires.0.most)) c.requires.0.room
