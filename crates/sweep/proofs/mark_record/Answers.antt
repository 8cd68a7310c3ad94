use mathlib.Core.Path.{sym}
use native.Mathlib.Omega.{arith}
use Prim.Native.Nat.{ℕ, ◌+◌, ◌-◌, ◌*◌, ◌≤◌}
use lib.ListN.{length}
use Rattle.lists.proofs.Places.{row_in}
use Rattle.model.specs.Measures.{record_words}
use Rattle.sweep_laws.proofs.Named.{marked_along, named_at, unmarked}
use Rattle.sweep.proofs.mark_record.Goals as goal

pub take_marked-requires : goal.take_marked-requires
take_marked-requires c =
    let room : c.args.number.0 * record_words c.args.n + record_words c.args.n ≤ length c.args.words.now = row_in _ (record_words c.args.n) (omega arith) _ c.requires.occupied_len_bound.1 in
    let lent : ℕ = c.args.number.0 * record_words c.args.n + 3 + c.args.n - (c.args.number.0 * record_words c.args.n + 3) in
    let y = named_at _ _ _ c.requires.occupied_len_bound.1 c.requires.named_in.encodes c.requires.named_in.positions room lent (omega arith) _ c.requires.named_in in
    rw c.word-at.ensures (y.within, y.small, y.cells, c.requires.occupied_len_bound.0)

pub returns-then-words-at-ne0 : goal.returns-then-words-at-ne0
returns-then-words-at-ne0 c =
    let room : c.args.number.0 * record_words c.args.n + record_words c.args.n ≤ length c.args.words.now = row_in _ (record_words c.args.n) (omega arith) _ c.requires.occupied_len_bound.1 in
    let lent : ℕ = c.args.number.0 * record_words c.args.n + 3 + c.args.n - (c.args.number.0 * record_words c.args.n + 3) in
    marked_along _ _ _ c.requires.occupied_len_bound.1 c.requires.named_in.encodes c.requires.named_in.positions room lent (omega arith) _ _ (rw (sym c.word-at.ensures) c.take_marked.ensures)

pub returns-else-words-at-ne0 : goal.returns-else-words-at-ne0
returns-else-words-at-ne0 c = unmarked _ _ _ c.requires.occupied_len_bound.1 c.requires.named_in.encodes (rw (sym c.word-at.ensures) (omega arith)) _
