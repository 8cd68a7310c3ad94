use Rattle.std.proofs.Common.{◌≡◌, ◌*◌, ◌≤◌, length, drop}
use Rattle.bill_sums.specs.Marks.{mark_words}
use Rattle.bill_sums.proofs.mark_words.Given as goal

abbrev pub invariant-loop-group : goal.invariant-loop-group
invariant-loop-group l = record {
  can_next : (goal.iterator-loop-group).can_next l.group-iterator;
  is_finite : (goal.iterator-loop-group).is_finite l.group-iterator;
  size : l.group-iterator.size ≡ 32;
  inside : length l.yielded * 32 ≤ length l.words;
  left : drop (length l.yielded * 32) l.words ≡ l.group-iterator.rest.now;
  kept : length l.marks ≡ length l.initial.marks;
  marked : mark_words l.bit l.group-iterator.rest.now l.marks ≡ mark_words l.bit l.words l.initial.marks;
}
