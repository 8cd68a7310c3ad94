use Rattle.std.proofs.Common.{arith}
use Rattle.laws.proofs.Stores.{header}
use Rattle.backup_accept.proofs.Deciding.{no_till_lem, no_bytes, many_bytes, judged, judged_so}
use Rattle.backup_accept.proofs.backup_refusal.Goals.{then-bytes-eq0-via-then-bytes-eq0, then-bytes-eq0-via-else-bytes-eq0+then-bytes-most_bytes}
use Rattle.backup_accept.proofs.backup_refusal.Goals as goal

pub bounds-table-0 : goal.bounds-table-0
bounds-table-0 c = omega (arith, (header c.requires).eight)

pub returns-then-table-till : goal.returns-then-table-till
returns-then-table-till c = let a = c.args in judged_so c.requires a.till a.day a.image.now 3 (λ e. omega (arith, e)) (no_till_lem c.requires a.till a.day a.image.now c.if-table-till.true)

pub most_bytes-requires : goal.most_bytes-requires
most_bytes-requires c = header c.requires

pub returns-then-bytes-eq0 : goal.returns-then-bytes-eq0
returns-then-bytes-eq0 c = let a = c.args in
    judged_so c.requires a.till a.day a.image.now 4 (λ e. omega (arith, e))
    (elim c.then-bytes-eq0.branch [
      | then-bytes-eq0-via-then-bytes-eq0 w ↦ no_bytes c.requires a.till a.day a.image.now (omega (arith, c.if-table-till.false)) w.if-bytes-eq0.true
      | then-bytes-eq0-via-else-bytes-eq0+then-bytes-most_bytes w ↦
          many_bytes c.requires a.till a.day a.image.now (omega (arith, c.if-table-till.false)) w.if-bytes-eq0.false (omega (arith, w.most_bytes.ensures, w.if-bytes-most_bytes.true))
    ])

pub returns : goal.returns
returns c = let a = c.args in
    judged c.requires a.till (omega (arith, c.if-table-till.false)) a.day a.image.now (omega (arith, c.if-bytes-eq0.false)) (omega (arith, c.most_bytes.ensures, c.if-bytes-most_bytes.false)) _ c.dated_refusal.ensures
