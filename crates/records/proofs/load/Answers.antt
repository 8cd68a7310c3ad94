use mathlib.Core.Path.{refl, sym}
use Rattle.records.proofs.Words.{record_row}
use Rattle.records.proofs.load.Goals as goal

pub returns : goal.returns
returns c = let a = c.args in
    rw (sym c.word-at.ensures) (record_row a.words.now _ a.n _ refl refl refl refl c.sixteen-cells.ensures c.sixteen-counts.ensures)
