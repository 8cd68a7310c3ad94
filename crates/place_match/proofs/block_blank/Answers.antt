use Rattle.std.proofs.Common.{arith, ap, ◌∙◌, ◌≡◌, ◌+◌, ◌-◌, ℕ, drop, length, take}
use borrow.Author.Tests.{lt-leb}
use Rattle.model.specs.Image.{is_blank, with_blanks}
use Rattle.place_match.proofs.Blank.{cut_not_blank}
use Rattle.place_match.proofs.Copying.{block_whole}
use Rattle.place_match.proofs.block_blank.Goals as goal

pub returns-then-end-image : goal.returns-then-end-image
unfolding is_blank
returns-then-end-image c = let a = c.args in
    let e : a.at + a.bytes - a.at ≡ a.bytes = omega arith in
    c.pieces_filled.ensures ∙ ap (is_blank with_blanks) (ap (λ (k : ℕ). take k (drop a.at a.image.now)) e ∙ block_whole a.bytes a.image.now a.at (omega arith))

pub returns-else-end-image : goal.returns-else-end-image
returns-else-end-image c = let a = c.args in
    lt-leb (a.at + a.bytes) (length a.image.now) c.if-end-image.false ∙ cut_not_blank a.bytes a.image.now a.at (omega arith) (omega arith)
