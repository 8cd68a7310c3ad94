use mathlib.Core.Path.{sym, ap, ◌∙◌}
use Prim.Native.Nat.{ℕ, ◌*◌, ◌≤◌}
use native.Mathlib.Nat.{mul-le-mul}
use native.Mathlib.Omega.{arith}
use lib.Dec.{eqb}
use lib.ListN.{length}
use Rattle.lists.proofs.Answers.{answer_yes}
use Rattle.sent_accept.proofs.Fits.{measured_read, segments_few, sum_few, fits_empty, fits_long, fits_marks, fits_other, fits_prints, fits_sent}
use borrow.Author.Rules.{rules}
use mathlib.Core.Bool.{not}
use Rattle.sent_accept.proofs.lists_fit.Goals as goal

pub returns-then-length-eq0 : goal.returns-then-length-eq0
returns-then-length-eq0 c = fits_empty c.args.table.now c.args.fingerprints.now c.args.marks.now c.args.segments.now c.args.length c.if-length-eq0.true

pub returns-then-bytes-most_bytes : goal.returns-then-bytes-most_bytes
returns-then-bytes-most_bytes c = fits_long c.args.table.now c.args.fingerprints.now c.args.marks.now c.args.segments.now c.args.length c.if-length-eq0.false (omega (arith, c.most_bytes.ensures, c.if-bytes-most_bytes.true))

pub segments-requires : goal.segments-requires
segments-requires c = (measured_read c.args.table.now c.requires _ c.measures_in-m.ensures, search rules)

pub returns-then-n-segments : goal.returns-then-n-segments
returns-then-n-segments c = fits_marks c.args.table.now _ c.measures_in-m.ensures c.args.length c.args.fingerprints.now c.args.marks.now c.args.segments.now c.if-length-eq0.false (omega (arith, c.most_bytes.ensures, c.if-bytes-most_bytes.false)) (λ q. c.if-n-segments.true (q ∙ sym c.segments.ensures))

pub returns-then-not-marks_valid : goal.returns-then-not-marks_valid
returns-then-not-marks_valid c = fits_other c.args.table.now _ c.measures_in-m.ensures c.args.length c.args.fingerprints.now c.args.marks.now c.args.segments.now c.if-length-eq0.false (omega (arith, c.most_bytes.ensures, c.if-bytes-most_bytes.false)) (c.if-n-segments.false ∙ c.segments.ensures) (sym c.marks_valid.ensures ∙ c.if-not-marks_valid.true)

pub overflow_mul-n : goal.overflow_mul-n
overflow_mul-n c = omega (arith, c.if-n-segments.false, c.segments.ensures, segments_few c.args.table.now c.requires _ c.measures_in-m.ensures c.args.length (omega (arith, c.most_bytes.ensures, c.if-bytes-most_bytes.false)))

pub returns-then-fingerprints-n : goal.returns-then-fingerprints-n
returns-then-fingerprints-n c = fits_prints c.args.table.now _ c.measures_in-m.ensures c.args.length c.args.fingerprints.now c.args.marks.now c.args.segments.now c.if-length-eq0.false (omega (arith, c.most_bytes.ensures, c.if-bytes-most_bytes.false)) (c.if-n-segments.false ∙ c.segments.ensures) (answer_yes c.marks_valid.ensures (ap not c.if-not-marks_valid.false)) c.if-fingerprints-n.true

pub marked-requires : goal.marked-requires
marked-requires c = omega (arith, sum_few c.args.marks.now (answer_yes c.marks_valid.ensures (ap not c.if-not-marks_valid.false)), c.if-n-segments.false, c.segments.ensures, segments_few c.args.table.now c.requires _ c.measures_in-m.ensures c.args.length (omega (arith, c.most_bytes.ensures, c.if-bytes-most_bytes.false)))

pub segment_bytes-requires : goal.segment_bytes-requires
segment_bytes-requires c = let h = measured_read c.args.table.now c.requires _ c.measures_in-m.ensures in (h.most_bytes, h.most_blocks)

pub overflow_mul-result : goal.overflow_mul-result
overflow_mul-result c = let few : c.marked.result ≤ 256 = omega (arith, c.marked.ensures, sum_few c.args.marks.now (answer_yes c.marks_valid.ensures (ap not c.if-not-marks_valid.false)), c.if-n-segments.false, c.segments.ensures, segments_few c.args.table.now c.requires _ c.measures_in-m.ensures c.args.length (omega (arith, c.most_bytes.ensures, c.if-bytes-most_bytes.false))) in
    let q : c.marked.result * c.segment_bytes.result ≤ 256 * 8192 = mul-le-mul few c.segment_bytes.ensures.1 in
    omega (arith, q)

pub returns : goal.returns
returns c = ap (λ (w : ℕ). eqb (length c.args.segments.now) (c.marked.result * w)) c.segment_bytes.ensures.0 ∙ fits_sent c.args.table.now _ c.measures_in-m.ensures c.args.length c.args.fingerprints.now c.args.marks.now c.args.segments.now c.if-length-eq0.false (omega (arith, c.most_bytes.ensures, c.if-bytes-most_bytes.false)) (c.if-n-segments.false ∙ c.segments.ensures) (answer_yes c.marks_valid.ensures (ap not c.if-not-marks_valid.false)) c.if-fingerprints-n.false _ c.marked.ensures
