use mathlib.Core.Path.{◌∙◌}
use Rattle.layout.proofs.Laws.{at_least_8, length_room, empty_bytes, empty_words}
use Prim.Native.Nat.{ℕ}
use lib.ListN.{length, replicate}
use Rattle.layout.proofs.write_empty.Goals as goal

pub write_room-requires : goal.write_room-requires
write_room-requires c = rw (c.fill-2.ensures.after (λ y e. e)) (at_least_8 _ _ c.requires.1)

pub write_measures-requires : goal.write_measures-requires
write_measures-requires c = rw (c.write_room.ensures, c.fill-2.ensures.after (λ y e. e))
    (length_room (replicate {A = ℕ} (length c.args.table.now) 0) c.args.c.tills c.args.c.versions c.args.c.blocks c.args.c.records c.args.c.cells 8
    (at_least_8 c.args.c (length c.args.table.now) c.requires.1))

pub returns : goal.returns
returns c = record {
  bytes = c.fill.ensures.after (λ y e. e) ∙ empty_bytes _ _ c.requires.0;
  words = c.write_measures.ensures ∙ rw (c.write_room.ensures, c.fill-2.ensures.after (λ y e. e)) (empty_words _ _ c.requires.1 _ _ _ c.word-bytes.ensures c.word-positions.ensures c.word-percent.ensures);
}
