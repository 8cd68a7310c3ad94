use native.Mathlib.Omega.{arith}
use mathlib.Core.Path.{◌≡◌, sym, ap, ◌∙◌}
use Prim.Native.Nat.{ℕ, ◌+◌, min}
use Rattle.stream_check.proofs.Laws.{reaches_null, reaches_short, reaches_zero, reaches_after, reaches_good}
use Rattle.stream_check.proofs.check_block.Goals as goal

pub returns-then-bit-eq0 : goal.returns-then-bit-eq0
returns-then-bit-eq0 c = let a = c.args in
    reaches_null a.stream.now a.at a.bit a.left c.requires c.if-bit-eq0.true

pub returns-then-stream-at-lt-BYTES : goal.returns-then-stream-at-lt-BYTES
returns-then-stream-at-lt-BYTES c = let a = c.args in
    reaches_short a.stream.now a.at a.bit a.left c.requires c.if-bit-eq0.false (omega arith)

pub returns-then-all_zero : goal.returns-then-all_zero
returns-then-all_zero c = let a = c.args in
    reaches_zero a.stream.now a.at a.bit a.left c.requires c.if-bit-eq0.false (omega arith) (sym c.all_zero.ensures ∙ c.if-all_zero.true)

pub returns-then-not-all_zero : goal.returns-then-not-all_zero
returns-then-not-all_zero c = let a = c.args in
    let e : a.at + c.min.result ≡ a.at + min a.left 64 = ap (λ (k : ℕ). a.at + k) c.min.ensures in
    reaches_after a.stream.now a.at a.bit a.left c.requires c.if-bit-eq0.false (omega arith) _ e (sym c.all_zero.ensures ∙ c.if-all_zero.false) (sym c.all_zero-2.ensures ∙ c.if-not-all_zero.true)

pub returns : goal.returns
returns c = let a = c.args in
    let e : a.at + c.min.result ≡ a.at + min a.left 64 = ap (λ (k : ℕ). a.at + k) c.min.ensures in
    reaches_good a.stream.now a.at a.bit a.left c.requires c.if-bit-eq0.false (omega arith) _ e (sym c.all_zero.ensures ∙ c.if-all_zero.false) (sym c.all_zero-2.ensures ∙ c.if-not-all_zero.false)
