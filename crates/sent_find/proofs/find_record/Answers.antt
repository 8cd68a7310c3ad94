use mathlib.Core.Path.{refl, sym, ◌∙◌}
use Rattle.numbers.specs.Measures.{measures_of}
use Rattle.sent.specs.Found.{print_at}
use Rattle.sent_find.proofs.Finding.{none_put, number_put}
use Rattle.sent_find.proofs.find_record.Goals as goal

pub returns-then-not-can_match : goal.returns-then-not-can_match
returns-then-not-can_match c = (refl, λ s seg e l q j h. none_put (measures_of c.args.m) s seg _ _ _ (sym c.if-not-can_match.true ∙ c.can_match.ensures s seg e l q))

pub returns : goal.returns
returns c = (
  c.put_number.ensures.0,
  λ s seg e l q j h.
      number_put (measures_of c.args.m) s seg (print_at c.args.fingerprints.now j) _ _ (sym c.if-not-can_match.false ∙ c.can_match.ensures s seg e l q) c.record_digest-d.result
      (c.record_digest-d.ensures s seg e l q) _ (c.put_number.ensures.1 j h),
)
