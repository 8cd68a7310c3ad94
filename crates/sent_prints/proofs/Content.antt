-- A position's content in whole chunks, by its two bits.
use mathlib.Core.Path.{◌≡◌, ap, ◌∙◌}
use mathlib.Core.Bool.{cond}
use Prim.Native.Nat.{ℕ, ◌*◌, ◌/◌, ◌%◌}
use native.Mathlib.Omega.{arith}
use lib.ListN.{replicate}
use Rattle.model.specs.State.{Position, Storage}
use Rattle.model.specs.Records.{is_held, is_blank_position}
use Rattle.sent.specs.Sent.{content_of}
use Rattle.sent_laws.proofs.Content.{content_blank, content_none}

chunks_are : (bytes : ℕ) → bytes % 64 ≡ 0 → 64 * (bytes / 64) ≡ bytes
chunks_are bytes z = omega (arith, z)

pub chunks_blank : (bytes : ℕ) (s : Storage) (p : Position) (h b : ℕ) → bytes % 64 ≡ 0 → h ≡ cond (is_held p) 1 0 → ¬ (h ≡ 1) → b ≡ cond (is_blank_position p) 1 0 → b ≡ 1
    → replicate (64 * (bytes / 64)) 255 ≡ content_of bytes s p
chunks_blank bytes s p h b z q o r t = ap (λ (k : ℕ). replicate k 255) (chunks_are bytes z) ∙ content_blank bytes s p h b q o r t

pub chunks_none : (bytes : ℕ) (s : Storage) (p : Position) (h b : ℕ) → bytes % 64 ≡ 0 → h ≡ cond (is_held p) 1 0 → ¬ (h ≡ 1) → b ≡ cond (is_blank_position p) 1 0 → ¬ (b ≡ 1)
    → replicate (64 * (bytes / 64)) 0 ≡ content_of bytes s p
chunks_none bytes s p h b z q o r t = ap (λ (k : ℕ). replicate {A = ℕ} k 0) (chunks_are bytes z) ∙ content_none bytes s p h b q o r t
