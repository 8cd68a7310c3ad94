use Rattle.std.proofs.lemmas.Result.{err_from_is_err_and}
use Rattle.refusals.proofs.Numbers.{not_accepted}
use mathlib.Core.Path.{refl, sym}
use lib.Seq.{length-take-le}
use native.Mathlib.Omega.{arith}
use Rattle.stream_version.proofs.Laws.{fits, front_few, refused, accepted}
use Rattle.stream_version.proofs.write_through.Goals as goal

pub returns-in_err-restored : goal.returns-in_err-restored
returns-in_err-restored c = let p = err_from_is_err_and c.from_residual.result c.from_residual.ensures.1 in
    rw (p.1, p.2) (refused _ _ c.in_err-restored.ensures c.args.output.now (not_accepted c.in_err-restored.field-0.0))

pub slice_bounds-write_stream-end : goal.slice_bounds-write_stream-end
slice_bounds-write_stream-end c = omega (arith, fits _ _ _ _ _ _ c.in_ok-restored.ensures)

pub slice_bounds-write_stream-end-2 : goal.slice_bounds-write_stream-end-2
slice_bounds-write_stream-end-2 c = sym (length-take-le _ _ (omega (arith, fits _ _ _ _ _ _ c.in_ok-restored.ensures, c.restore_version.auto.output)))

pub write_stream-requires : goal.write_stream-requires
write_stream-requires c = front_few c.in_ok-restored.restored.length 65536 c.restore_version.new.output (omega (arith, c.restore_version.auto.output, c.requires.1))

pub returns : goal.returns
returns c = let a = c.args in accepted _ _ c.in_ok-restored.ensures a.output.now _ refl c.write_stream.ensures
