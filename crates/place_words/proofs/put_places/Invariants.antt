use Rattle.std.proofs.Common.{◌+◌}
use Rattle.lists.proofs.Walks.{Walked}
use Rattle.place_words.proofs.Rowing.{next_pointer, out_pointer}
use Rattle.place_words.proofs.put_places.Given as goal

abbrev pub invariant-loop-i : goal.invariant-loop-i
invariant-loop-i l = Walked out_pointer next_pointer l.mask (l.first.0, l.blank) l.initial.words l.m (l.first.0 + l.i, l.b) l.i l.words
