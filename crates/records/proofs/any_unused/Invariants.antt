use Rattle.std.proofs.Common.{◌≡◌, map}
use Rattle.lists.specs.Masks.{mask_of}
use Rattle.model.specs.Records.{is_held, count_of}
use Rattle.model.specs.State.{Segment}
use Rattle.records.proofs.Unreferenced.{Unseen}
use Rattle.records.proofs.any_unused.Given as goal

abbrev pub invariant-loop-count : goal.invariant-loop-count
invariant-loop-count l = (seg : Segment) → l.held ≡ mask_of is_held seg → l.counts ≡ map count_of seg → Unseen seg l.left l.count-index
