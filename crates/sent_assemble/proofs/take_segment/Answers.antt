use Rattle.std.proofs.lemmas.Result.{err_from_is_err_and}
use mathlib.Core.Path.{refl, sym, ◌∙◌}
use Rattle.model.specs.Table.{storage_in}
use Rattle.numbers.specs.Measures.{measures_of}
use Rattle.sent_assemble.proofs.Taking.{number_some, end_refused, end_other, end_zeros}
use Rattle.sent_assemble.proofs.take_segment.Goals as goal

pub returns-in_err-bring : goal.returns-in_err-bring
returns-in_err-bring c = let p = err_from_is_err_and c.from_residual.result c.from_residual.ensures.1 in
    rw (p.1, p.2) (end_refused (measures_of c.args.m) (storage_in (measures_of c.args.m) c.args.pool.now c.args.words.now) c.args.mark c.args.s c.args.segments.now c.args.fingerprint.now _ _ c.args.left c.in_err-bring.ensures (number_some c.in_err-bring.field-0.0))

pub returns-then-not-ends_zero : goal.returns-then-not-ends_zero
returns-then-not-ends_zero c = end_other (measures_of c.args.m) (storage_in (measures_of c.args.m) c.args.pool.now c.args.words.now) c.args.mark c.args.s c.args.segments.now c.args.fingerprint.now 0 _ c.args.left c.in_ok-bring.ensures refl (sym c.ends_zero.ensures ∙ c.if-not-ends_zero.true)

pub returns : goal.returns
returns c = end_zeros (measures_of c.args.m) (storage_in (measures_of c.args.m) c.args.pool.now c.args.words.now) c.args.mark c.args.s c.args.segments.now c.args.fingerprint.now 0 _ c.args.left c.in_ok-bring.ensures refl (sym c.ends_zero.ensures ∙ c.if-not-ends_zero.false)
