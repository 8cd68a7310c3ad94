-- A test joined to the next by `&&`: the branch that takes the next test, and the one that does not.
use Rattle.std.proofs.Common.{◌≡◌, Bool, true, false}
use Rattle.lists.specs.Decides.{Decides}
use Rattle.lists.proofs.Checkers.{is_not, denies}

pub and_then : {a b v : Bool} {P Q : Type 0} → a ≡ true → v ≡ b → Decides a P → (P → Decides b Q) → Decides v (P × Q)
and_then e z s t = rw z (record {
  holds = λ h. let p = s.holds e in (p, (t p).holds h);
  seen = λ pq. (t pq.0).seen pq.1;
})

pub and_else : {a v : Bool} {P Q : Type 0} → a ≡ false → v ≡ a → Decides a P → Decides v (P × Q)
and_else e z s = rw (z, e) (is_not (λ pq. denies s e pq.0))

-- an answer that is no
pub not_so : {r : Bool} {P : Type 0} → r ≡ false → (P → ⊥) → Decides r P
not_so e f = rw e (is_not f)
