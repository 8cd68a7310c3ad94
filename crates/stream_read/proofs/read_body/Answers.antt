use native.Mathlib.Omega.{arith}
use Rattle.std.proofs.lemmas.Result.{err_from_is_err_and}
use Rattle.stream_check.proofs.Laws.{number_some}
use mathlib.Core.Path.{◌≡◌, sym}
use lib.Seq.{length-take-le}
use lib.ListN.{length, take}
use Rattle.stream_read.proofs.Answers.{body_refused, body_read}
use Rattle.stream_read.proofs.read_body.Goals as goal

pub returns-in_err-check_body : goal.returns-in_err-check_body
returns-in_err-check_body c = let p = err_from_is_err_and c.from_residual.result c.from_residual.ensures.1 in
    let a = c.args in
    rw (p.1, p.2) (body_refused a.n _ a.output.now _ c.in_err-check_body.ensures (λ z. omega (arith, z, number_some c.in_err-check_body.field-0.0)))

pub fill_image-requires : goal.fill_image-requires
fill_image-requires c = let a = c.args in
    let l : length (take a.n a.output.now) ≡ a.n = length-take-le a.n a.output.now c.requires.1 in
    (omega arith, rw l (sym c.in_ok-check_body.ensures))

pub returns : goal.returns
returns c = let a = c.args in
    let l : length (take a.n a.output.now) ≡ a.n = length-take-le a.n a.output.now c.requires.1 in
    body_read a.n _ a.output.now _ (sym c.in_ok-check_body.ensures) (rw l at c.fill_image.ensures)
