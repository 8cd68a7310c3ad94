use native.Mathlib.Omega.{arith}
use Prim.Native.Nat.{ℕ, ◌*◌}
use lib.ListN.{replicate}
use Rattle.sent_laws.proofs.Content.{content_blank, content_none}
use Rattle.sent_bring.proofs.Contents.{held_bytes, put_same}
use Rattle.sent_bring.proofs.put_position.Goals as goal

pub returns-then-held-eq1 : goal.returns-then-held-eq1
returns-then-held-eq1 c = λ s p e h b k. put_same c.args.out.now _ _ (c.args.block.0 * c.args.bytes) c.args.bytes c.copy_block.ensures (held_bytes c.args.bytes c.args.pool.now s c.args.cell.0 e (omega arith) c.requires.2 p c.args.held h c.if-held-eq1.true k)

pub returns-then-blank-eq1 : goal.returns-then-blank-eq1
returns-then-blank-eq1 c = λ s p e h b k. put_same c.args.out.now _ (replicate {A = ℕ} c.args.bytes 255) (c.args.block.0 * c.args.bytes) c.args.bytes c.fill_block.ensures (content_blank c.args.bytes s p c.args.held c.args.blank h c.if-held-eq1.false b c.if-blank-eq1.true)

pub returns : goal.returns
returns c = λ s p e h b k. put_same c.args.out.now _ (replicate {A = ℕ} c.args.bytes 0) (c.args.block.0 * c.args.bytes) c.args.bytes c.fill_block-2.ensures (content_none c.args.bytes s p c.args.held c.args.blank h c.if-held-eq1.false b c.if-blank-eq1.false)
