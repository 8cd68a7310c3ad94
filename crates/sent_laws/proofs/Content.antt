-- A position's content, by its two bits: its cell's bytes, 255s or zeros.
use mathlib.Core.Path.{◌≡◌, refl, ap}
use mathlib.Core.Bool.{cond}
use Prim.Native.Nat.{ℕ}
use native.Mathlib.Omega.{arith}
use lib.ListN.{replicate}
use Rattle.model.specs.State.{Position, null_position, blank_position, held, removed, Storage}
use Rattle.model.specs.Image.{zero_block, blank_block}
use Rattle.model.specs.Records.{is_held, is_blank_position, cell_of, cell_at}
use Rattle.sent.specs.Sent.{content_of}

module _ (bytes : ℕ) (s : Storage) where
  pub content_held : (p : Position) (h c : ℕ) → h ≡ cond (is_held p) 1 0 → h ≡ 1 → c ≡ cell_of p → cell_at s c ≡ content_of bytes s p
  content_held null_position h c q o r = absurd (omega (arith, q, o))
  content_held blank_position h c q o r = absurd (omega (arith, q, o))
  content_held (held d n) h c q o r = ap (cell_at s) r
  content_held removed h c q o r = absurd (omega (arith, q, o))

  pub content_blank : (p : Position) (h b : ℕ) → h ≡ cond (is_held p) 1 0 → ¬ (h ≡ 1) → b ≡ cond (is_blank_position p) 1 0 → b ≡ 1 → replicate bytes 255 ≡ content_of bytes s p
  unfolding blank_block
  content_blank null_position h b q o r t = absurd (omega (arith, r, t))
  content_blank blank_position h b q o r t = refl
  content_blank (held d n) h b q o r t = absurd (omega (arith, r, t))
  content_blank removed h b q o r t = absurd (omega (arith, r, t))

  pub content_none : (p : Position) (h b : ℕ) → h ≡ cond (is_held p) 1 0 → ¬ (h ≡ 1) → b ≡ cond (is_blank_position p) 1 0 → ¬ (b ≡ 1) → replicate bytes 0 ≡ content_of bytes s p
  unfolding zero_block
  content_none null_position h b q o r t = refl
  content_none blank_position h b q o r t = absurd (t r)
  content_none (held d n) h b q o r t = absurd (o q)
  content_none removed h b q o r t = refl
