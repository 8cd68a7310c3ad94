use native.Mathlib.Omega.{arith}
use mathlib.Core.Path.{◌∙◌}
use Rattle.stream_read.proofs.Answers.{read_none, read_empty, read_long, read_short, read_on}
use Rattle.stream_read.proofs.read_stream.Goals as goal

pub returns-then-stream-lt4 : goal.returns-then-stream-lt4
returns-then-stream-lt4 c = let a = c.args in
    read_none a.stream.now a.output.now (omega arith)

pub returns-then-n-eq0 : goal.returns-then-n-eq0
returns-then-n-eq0 c = let a = c.args in
    read_empty a.stream.now a.output.now (omega arith) _ c.length_in-n.ensures c.if-n-eq0.true

pub returns-then-n-gt65536 : goal.returns-then-n-gt65536
returns-then-n-gt65536 c = let a = c.args in
    read_long a.stream.now a.output.now (omega arith) _ c.length_in-n.ensures (omega arith)

pub returns-then-output-n : goal.returns-then-output-n
returns-then-output-n c = let a = c.args in
    read_short a.stream.now a.output.now (omega arith) _ c.length_in-n.ensures c.if-n-eq0.false (omega arith) (omega arith)

pub returns : goal.returns
returns c = let a = c.args in
    c.read_body.ensures ∙ read_on a.stream.now a.output.now (omega arith) _ c.length_in-n.ensures c.if-n-eq0.false (omega arith) (omega arith)
